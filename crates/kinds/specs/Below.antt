-- The runs below the top one of four, and the levels of a tree one by one. Assumes nothing.
use Rattle.std.specs.Prelude.{ℕ, suc, ◌+◌, ◌≡◌, refl, Bool, true, false, not, ◌&&◌, List, [], ◌∷◌, eqb}
use Rattle.std.proofs.Common.{arith, sym, ◌∙◌, ne_eqb}
use Rattle.std.specs.Bool.{beq}
use Rattle.laws.specs.Lists.{span, concat, all}
use Rattle.laws.specs.Tests.{and_left, and_right}
use Rattle.geometry.specs.declared.Geometry.{Geometry}
use Rattle.geometry.specs.Geometry.{InRange}
use Rattle.rules.specs.Tree.{Level, Tree}
use Rattle.rules.specs.Finding.{find, held}
use Rattle.rules.specs.Sound.{entries_of, tree_of, count_kind, live_right, ascending}
use Rattle.entries.specs.declared.Run.{Run}
use Rattle.entries.specs.Four.{Runs}
use Rattle.entries.specs.Run.{entries_in}
use Rattle.entries.specs.Levels.{AllInside, runs_of, tree_in, by_levels}
use Rattle.entries.specs.Ascending.{levels_ascend, chain_first}
use Rattle.entries.specs.Counts.{kind_count, count_none, count_normal, count_filter}
use Rattle.kinds.specs.declared.KindCounts.{KindCounts}
use Rattle.kinds.specs.KindCounts.{level_counts, tree_counts}
use Rattle.kinds.specs.Standing.{stands_over}

-- A run of no pages, and the runs below the top one.
abbrev pub no_run : Run
no_run = record { start = 0; pages = 0; most = 0 }

unfoldable pub below_of : Runs → Runs
below_of rs = record { head = rs.first; first = rs.second; second = rs.third; third = no_run }

pub below_inside : (rs : Runs) (n : ℕ) → AllInside rs n → AllInside (below_of rs) n
unfolding below_of
below_inside rs n i = record { head = i.first; first = i.second; second = i.third; third = record { ends = omega arith; few_pages = omega arith; few_slots = omega arith } }

pub below_ascends : (w : List ℕ) (rs : Runs) → levels_ascend (tree_in w rs) ≡ true → levels_ascend (tree_in w (below_of rs)) ≡ true
unfolding below_of levels_ascend tree_in all ascending entries_in span concat entries_of
below_ascends w rs a = (chain_first (ascending (entries_in w rs.head)) (levels_ascend (tree_in w (below_of rs))) a).1

pub top_ascends : (w : List ℕ) (rs : Runs) → levels_ascend (tree_in w rs) ≡ true → levels_ascend (entries_in w rs.head ∷ tree_in w (below_of rs)) ≡ true
unfolding below_of levels_ascend tree_in all ascending entries_in span concat entries_of
top_ascends w rs a = a

-- Over levels without entries a level stands right exactly if it has no filter.
abbrev pub no_entries : Tree
no_entries = [] ∷ [] ∷ [] ∷ [] ∷ []

pub all_none : (w : List ℕ) (rs : Runs) (a b c d : Bool) → (a ≡ true → entries_in w rs.head ≡ []) → (b ≡ true → entries_in w rs.first ≡ []) →
    (c ≡ true → entries_in w rs.second ≡ []) → (d ≡ true → entries_in w rs.third ≡ []) → (((a && b) && c) && d) ≡ true → tree_in w rs ≡ no_entries
unfolding tree_in
all_none w rs a b c d head first second third e =
    let three = and_left ((a && b) && c) d e in
    let two = and_left (a && b) c three in
    rw (head (and_left a b two), first (and_right a b two), second (and_right (a && b) c three), third (and_right ((a && b) && c) d e))

stands_alone : (es : Level) → eqb (kind_count false es) 0 ≡ stands_over es no_entries
unfolding stands_over held find all
stands_alone [] = rw (count_none false)
stands_alone (e ∷ es) = by_kind e.normal refl (stands_alone es)
  where
    by_kind : (b : Bool) → e.normal ≡ b → eqb (kind_count false es) 0 ≡ stands_over es no_entries →
        eqb (kind_count false (e ∷ es)) 0 ≡ elim (not (beq b false)) [ true ↦ stands_over es no_entries | false ↦ false ]
    by_kind true q ih = rw (count_normal e es q).1 ih
    by_kind false q ih = rw (count_filter e es q).1 (ne_eqb (suc (kind_count false es)) 0 (λ x. omega (arith, x)))

pub alone_stands : (w : List ℕ) (run : Run) (lower : Runs) (n : KindCounts) → tree_in w lower ≡ no_entries → n ≡ level_counts (entries_in w run) →
    eqb n.filters 0 ≡ true → stands_over (entries_in w run) (tree_in w lower) ≡ true
alone_stands w run lower n none told few = rw none (sym (stands_alone (entries_in w run)) ∙ rw told at few)

-- The tree that the words hold has the entries of the four runs.
pub runs_count : (g : Geometry) (w : List ℕ) → InRange g → (b : Bool) → count_kind b (tree_in w (runs_of g w)) ≡ count_kind b (tree_of g w)
unfolding count_kind concat
runs_count g w fit b = by_levels g w fit (λ t u. count_kind b u ≡ count_kind b t) (λ x y. refl) (λ x y z. refl) (λ x y z v. refl)

pub live_told : (g : Geometry) (w : List ℕ) (rs : Runs) (live : ℕ) (n : KindCounts) → InRange g → rs ≡ runs_of g w → n ≡ tree_counts (tree_in w rs) →
    eqb (live + n.filters) n.normal ≡ live_right live (tree_of g w)
unfolding live_right
live_told g w rs live n fit read t = rw (t, read, runs_count g w fit true, runs_count g w fit false)
