-- What src/lib.rt reads at spots in four runs is the merge of the entries that come from there on. Assumes nothing.
use Rattle.std.specs.Prelude.{ℕ, ◌+◌, ◌≤◌, ◌≡◌, refl, Bool, true, false, List, ◌∷◌, leb}
use Rattle.std.proofs.Common.{arith, ap, sym, ◌∙◌}
use Rattle.std.proofs.Math.Option.{Option, none, some}
use Rattle.geometry.specs.declared.Geometry.{Geometry}
use Rattle.geometry.specs.Geometry.{InRange}
use Rattle.slot.specs.declared.Pair.{Pair}
use Rattle.slot.specs.Pair.{same, least}
use Rattle.rules.specs.Tree.{Entry as Indexed}
use Rattle.rules.specs.Finding.{find, held}
use Rattle.rules.specs.Listing.{pairs_with, pairs_of, held_between, list}
use Rattle.rules.specs.Listing.{Listed as Wanted}
use Rattle.rules.specs.Sound.{tree_of}
use Rattle.entries.specs.declared.Run.{Run}
use Rattle.entries.specs.Four.{Runs}
use Rattle.entries.specs.declared.Entry.{Entry}
use Rattle.entries.specs.Run.{entry, few_in}
use Rattle.entries.specs.Levels.{AllInside, runs_of, tree_in, by_levels}
use Rattle.entries.specs.Skip.{skip}
use Rattle.entries.specs.Spot.{page_at, upcoming, from_least, none_left}
use Rattle.std.specs.Prelude.{Option as Found, Some, None}
use Rattle.listing.specs.declared.Listed.{Listed}
use Rattle.listing.specs.Merge.{lesser, lower, past, past_here, past_other, entry_count}

-- The rules' result, of what the call returned and the slice's words after it.
abbrev pub told : Listed → List ℕ → Wanted
told r words = record { pairs = r.pairs; mark = r.mark; words = words }

-- The least entry as the merge has it.
abbrev pub found : Found Entry → Option Indexed
found (Some e) = some (entry e)
found None = none

module _ (w : List ℕ) (run : Run) (spot : ℕ) where
  -- A run that has ended at a spot: the least is that below, and the spot stays.
  module _ (ended : Bool) (is : ended ≡ leb run.pages (page_at spot)) (yes : ended ≡ true) where
    pub lower_none : (l : Option Indexed) → l ≡ lower (upcoming w run spot) l
    unfolding lower
    lower_none l = rw (none_left w run spot ended is yes)

    pub past_none : (p : Pair) → upcoming w run spot ≡ past p (upcoming w run spot)
    unfolding past
    past_none p = rw (none_left w run spot ended is yes)

  -- An entry at a spot, and the least of the levels below it; and the spot past it, if it is of a pair.
  module _ (e : Entry) (here : entry e ∷ upcoming w run (spot + 1) ≡ upcoming w run spot) where
    pub lower_alone : (l : Option Indexed) → l ≡ none → some (entry e) ≡ lower (upcoming w run spot) l
    unfolding lower
    lower_alone l q = rw (← here, q)

    pub lower_both : (l : Option Indexed) (g x : Indexed) → l ≡ some g → x ≡ lesser (entry e) g → some x ≡ lower (upcoming w run spot) l
    unfolding lower
    lower_both l g x q s = rw (← here, q, s)

    pub past_same : (p q : Pair) (next : ℕ) → same p e.pair ≡ true → q ≡ least → upcoming w run next ≡ skip q (upcoming w run (spot + 1)) →
        upcoming w run next ≡ past p (upcoming w run spot)
    past_same p q next s l on =
        from_least w run (spot + 1) next q l on ∙
        sym (past_here p (entry e) (upcoming w run (spot + 1)) s) ∙ ap (past p) here

    pub past_stays : (p : Pair) → same p e.pair ≡ false → upcoming w run spot ≡ past p (upcoming w run spot)
    past_stays p s = rw (← here) (sym (past_other p (entry e) (upcoming w run (spot + 1)) s))

-- Four runs have few entries.
pub few_in_four : (w : List ℕ) (rs : Runs) (n : ℕ) → AllInside rs n → entry_count (tree_in w rs) ≤ 32000000
unfolding entry_count tree_in
few_in_four w rs n i = omega (arith, few_in w rs.head n i.head, few_in w rs.first n i.first, few_in w rs.second n i.second, few_in w rs.third n i.third)

-- What is listed of the tree that the words hold is listed of the four runs.
pub runs_listed : (g : Geometry) (w : List ℕ) → InRange g → (p q : Pair) (slice : List ℕ) → list p q (tree_in w (runs_of g w)) slice ≡ list p q (tree_of g w) slice
unfolding list held_between pairs_of pairs_with held find
runs_listed g w fit p q slice = by_levels g w fit (λ t u. list p q u slice ≡ list p q t slice) (λ a b. refl) (λ a b c. refl) (λ a b c d. refl)
