-- What src/lib.rt reads at spots is so of the entries that come from there on. Assumes nothing.
use Rattle.std.specs.Prelude.{ℕ, ◌+◌, ◌<◌, ◌≡◌, Bool, true, false, List, [], ◌∷◌, length}
use Rattle.std.proofs.Common.{arith, ap, sym, ◌∙◌}
use Rattle.std.specs.Bool.{beq}
use Rattle.slot.specs.declared.Pair.{Pair}
use Rattle.slot.specs.Pair.{same, least}
use Rattle.rules.specs.Tree.{Level, Tree}
use Rattle.rules.specs.Faults.{wrong_entry}
use Rattle.entries.specs.declared.Run.{Run}
use Rattle.entries.specs.Four.{Runs}
use Rattle.entries.specs.Four.{Spots}
use Rattle.entries.specs.declared.Entry.{Entry}
use Rattle.entries.specs.Run.{entry}
use Rattle.entries.specs.Skip.{skip, skip_all}
use Rattle.entries.specs.Spot.{upcoming, upcomings, from_least}
use Rattle.kinds.specs.Standing.{decides, decides_here, decides_not, held_first, Stands, stands_fails, stands_next}

module _ (w : List ℕ) (run : Run) where
  -- What the entry at a spot says of a pair, case by case.
  module _ (spot : ℕ) (p : Pair) (below : Bool) where
    pub told_none : upcoming w run spot ≡ [] → below ≡ decides p (upcoming w run spot) below
    unfolding decides
    told_none e = rw e

    module _ (e : Entry) (here : entry e ∷ upcoming w run (spot + 1) ≡ upcoming w run spot) where
      pub told_same : same p e.pair ≡ true → e.normal ≡ decides p (upcoming w run spot) below
      told_same s = rw (← here) (sym (decides_here p (entry e) (upcoming w run (spot + 1)) below s))

      pub told_other : same p e.pair ≡ false → below ≡ decides p (upcoming w run spot) below
      told_other s = rw (← here) (sym (decides_not p (entry e) (upcoming w run (spot + 1)) below s))

-- The test of the entry at a spot, against spots moved forward to its pair.
module _ (w : List ℕ) (run : Run) (rs : Runs) (spot : ℕ) (s t : Spots) (e : Entry) (whole : Level) (over : Tree)
    (so : Stands (upcoming w run spot) (upcomings w rs s) whole over) (here : entry e ∷ upcoming w run (spot + 1) ≡ upcoming w run spot)
    (moved : upcomings w rs t ≡ skip_all e.pair (upcomings w rs s)) where
  judged : (held wrong : Bool) → held ≡ held_first e.pair (upcomings w rs t) → wrong ≡ beq e.normal held →
      wrong ≡ beq e.normal (held_first e.pair (skip_all e.pair (upcomings w rs s)))
  judged held wrong h b = b ∙ ap (beq e.normal) (h ∙ ap (held_first e.pair) moved)

  pub wrong_here : (held wrong : Bool) → held ≡ held_first e.pair (upcomings w rs t) → wrong ≡ beq e.normal held → wrong ≡ true →
      length (upcoming w run spot) + wrong_entry whole over ≡ length whole
  wrong_here held wrong h b told =
      rw (← here) (stands_fails (entry e) (upcoming w run (spot + 1)) (upcomings w rs s) whole over (rw (← here) at so) (sym (judged held wrong h b) ∙ told))

  -- The next spot, from which on there is less.
  module _ (next : ℕ) (p : Pair) (l : p ≡ least) (on : upcoming w run next ≡ skip p (upcoming w run (spot + 1))) where
    pub fewer_on : length (upcoming w run next) < length (upcoming w run spot)
    fewer_on = omega (arith, ap length here, ap length (from_least w run (spot + 1) next p l on))

    pub right_here : (held wrong : Bool) → held ≡ held_first e.pair (upcomings w rs t) → wrong ≡ beq e.normal held → wrong ≡ false →
        Stands (upcoming w run next) (upcomings w rs t) whole over
    right_here held wrong h b told =
        rw (from_least w run (spot + 1) next p l on, moved)
        (stands_next (entry e) (upcoming w run (spot + 1)) (upcomings w rs s) whole over (rw (← here) at so) (sym (judged held wrong h b) ∙ told))
