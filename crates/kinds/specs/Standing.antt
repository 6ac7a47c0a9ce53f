-- Each entry stands over the next entry of its pair below, of the other kind, or normal over none: tested entry by entry, with levels below
-- that only move forward. Assumes nothing.
use Prim.Native.Nat.{ℕ, suc, ◌+◌, ◌≤◌, ◌<◌}
use Rattle.std.proofs.Common.{le_refl, arith, ap₂, sym, ◌∙◌}
use Rattle.std.specs.Prelude.{◌≡◌, refl, Bool, [], ◌∷◌, length}
use Rattle.std.proofs.Math.Path.{ap}
use Rattle.std.proofs.Math.Bool.{true, false, not}
use Rattle.std.specs.Bool.{beq}
use Rattle.laws.specs.Lists.{all}
use Rattle.slot.specs.declared.Pair.{Pair}
use Rattle.slot.specs.Pair.{rank, before, same}
use Rattle.slot.specs.Order.{before_below, not_before_above, apart_not_same}
use Rattle.rules.specs.Tree.{Entry, Level, Tree, rank_of}
use Rattle.rules.specs.Finding.{find, held}
use Rattle.rules.specs.Sound.{right_over}
use Rattle.rules.specs.Faults.{wrong_entry}
use Rattle.entries.specs.Ascending.{From, AllFrom, levels_ascend, all_from_ascending, from_lower_lem, all_from_lower, find_here, find_on, find_above, held_met, held_absent, held_agree}
use Rattle.entries.specs.Skip.{skip, skip_all}

-- Every entry of a level is right over a tree.
unfoldable pub stands_over : Level → Tree → Bool
stands_over es t = all (right_over t) es

pub agree_true : (a b : Bool) → a ≡ true → b ≡ beq a b
agree_true true true e = refl
agree_true true false e = refl
agree_true false true e = cc
agree_true false false e = cc

pub agree_false : (a b : Bool) → a ≡ false → not b ≡ beq a b
agree_false true true e = cc
agree_false true false e = cc
agree_false false true e = refl
agree_false false false e = refl

-- What the first entry of a level decides of a pair, over what the levels below say.
unfoldable pub decides : Pair → Level → Bool → Bool
decides p [] below = below
decides p (e ∷ es) below = elim (same p e.pair) [ true ↦ e.normal | false ↦ below ]

unfoldable pub held_first : Pair → Tree → Bool
held_first p [] = false
held_first p (es ∷ t) = decides p es (held_first p t)

-- Levels from a pair on ------------------------------------------------------------------------------------------------------------------

from_skip : (n : ℕ) (p : Pair) (es : Level) → From n es → From (rank p) (skip p es)
unfolding From skip
from_skip n p [] a = tt
from_skip n p (e ∷ es) a = picked (before e.pair p) refl (from_skip (suc (rank_of e)) p es a.1)
  where
    picked : (b : Bool) → before e.pair p ≡ b → From (rank p) (skip p es) → From (rank p) (elim b [ true ↦ skip p es | false ↦ e ∷ es ])
    picked true q ih = ih
    picked false q ih = (not_before_above e.pair p q, a.1)

pub all_from_skip : (n : ℕ) (p : Pair) (t : Tree) → AllFrom n t → AllFrom (rank p) (skip_all p t)
unfolding AllFrom skip_all
all_from_skip n p [] a = tt
all_from_skip n p (es ∷ t) a = (from_skip n p es a.0, all_from_skip n p t a.1)

-- Of that pair and every later one they tell the same.
find_skip : (p q : Pair) (es : Level) → rank p ≤ rank q → find q (skip p es) ≡ find q es
unfolding skip find
find_skip p q [] h = refl
find_skip p q (e ∷ es) h = picked (before e.pair p) refl (find_skip p q es h)
  where
    picked : (b : Bool) → before e.pair p ≡ b → find q (skip p es) ≡ find q es → find q (elim b [ true ↦ skip p es | false ↦ e ∷ es ]) ≡ find q (e ∷ es)
    picked true s ih = ih ∙ sym (find_on q e es (apart_not_same q e.pair (λ x. omega (arith, before_below e.pair p s))))
    picked false s ih = refl

pub held_skip : (p q : Pair) (t : Tree) → rank p ≤ rank q → held q (skip_all p t) ≡ held q t
unfolding skip_all
held_skip p q [] h = refl
held_skip p q (es ∷ t) h = held_agree q (skip p es) es (skip_all p t) t (find_skip p q es h) (held_skip p q t h)

-- Of levels from a pair on the first entries decide ------------------------------------------------------------------------------------------

pub decides_here : (p : Pair) (e : Entry) (es : Level) (below : Bool) → same p e.pair ≡ true → decides p (e ∷ es) below ≡ e.normal
unfolding decides
decides_here p e es below s = ap (λ (b : Bool). elim b [ true ↦ e.normal | false ↦ below ]) s

pub decides_not : (p : Pair) (e : Entry) (es : Level) (below : Bool) → same p e.pair ≡ false → decides p (e ∷ es) below ≡ below
unfolding decides
decides_not p e es below s = ap (λ (b : Bool). elim b [ true ↦ e.normal | false ↦ below ]) s

pub first_decides : (p : Pair) (t : Tree) → AllFrom (rank p) t → held p t ≡ held_first p t
unfolding held held_first AllFrom From find decides
first_decides p [] a = refl
first_decides p ([] ∷ t) a = first_decides p t a.1
first_decides p ((e ∷ es) ∷ t) a = picked (same p e.pair) refl (first_decides p t a.1)
  where
    picked : (b : Bool) → same p e.pair ≡ b → held p t ≡ held_first p t → held p ((e ∷ es) ∷ t) ≡ decides p (e ∷ es) (held_first p t)
    picked true s ih = held_met p (e ∷ es) t e.normal (find_here p e es s) ∙ sym (decides_here p e es (held_first p t) s)
    picked false s ih =
        held_absent p (e ∷ es) t (find_on p e es s ∙ find_above p es (from_lower_lem (suc (rank p)) (suc (rank_of e)) es (omega (arith, a.0.0)) a.0.1)) ∙ ih ∙
        sym (decides_not p e es (held_first p t) s)

-- Entry by entry -------------------------------------------------------------------------------------------------------------------------------

-- A level stands right exactly if its first wrong entry is past its end.
none_wrong : (es : Level) (t : Tree) → wrong_entry es t ≡ length es → stands_over es t ≡ true
unfolding stands_over all wrong_entry
none_wrong [] t h = refl
none_wrong (e ∷ es) t h = picked (right_over t e) h (none_wrong es t)
  where
    picked : (b : Bool) → elim b [ true ↦ suc (wrong_entry es t) | false ↦ 0 ] ≡ suc (length es) → (wrong_entry es t ≡ length es → all (right_over t) es ≡ true) →
        elim b [ true ↦ all (right_over t) es | false ↦ false ] ≡ true
    picked true q ih = ih (omega arith)
    picked false q ih = absurd (omega arith)

pub some_wrong : (es : Level) (t : Tree) → wrong_entry es t < length es → stands_over es t ≡ false
unfolding stands_over all wrong_entry
some_wrong [] t h = absurd (omega arith)
some_wrong (e ∷ es) t h = picked (right_over t e) h (some_wrong es t)
  where
    picked : (b : Bool) → elim b [ true ↦ suc (wrong_entry es t) | false ↦ 0 ] < suc (length es) → (wrong_entry es t < length es → all (right_over t) es ≡ false) →
        elim b [ true ↦ all (right_over t) es | false ↦ false ] ≡ false
    picked true q ih = ih (omega arith)
    picked false q ih = refl

-- Trees that judge each entry alike have the same first wrong entry.
pub wrong_agree : (t u : Tree) → ((e : Entry) → right_over t e ≡ right_over u e) → (es : Level) → wrong_entry es t ≡ wrong_entry es u
unfolding wrong_entry
wrong_agree t u h [] = refl
wrong_agree t u h (e ∷ es) = ap₂ (λ (b : Bool) (n : ℕ). elim b [ true ↦ suc n | false ↦ 0 ]) (h e) (wrong_agree t u h es)

-- So do, of a level whose entries come no sooner than a pair, the levels from that pair on.
wrong_on : (p : Pair) (es : Level) (t : Tree) → From (rank p) es → wrong_entry es (skip_all p t) ≡ wrong_entry es t
unfolding wrong_entry From
wrong_on p [] t a = refl
wrong_on p (e ∷ es) t a =
    ap₂ (λ (b : Bool) (n : ℕ). elim b [ true ↦ suc n | false ↦ 0 ]) (ap (λ (b : Bool). not (beq e.normal b)) (held_skip p e.pair t a.0))
    (wrong_on p es t (from_lower_lem (rank p) (suc (rank_of e)) es (omega (arith, a.0)) a.1))

-- The first entry is right or wrong by what the first entries below decide.
module _ (e : Entry) (es : Level) (t : Tree) (n : ℕ) (up : From n (e ∷ es)) (below : AllFrom n t) where
  over_first : right_over t e ≡ not (beq e.normal (held_first e.pair (skip_all e.pair t)))
  over_first =
      ap (λ (b : Bool). not (beq e.normal b))
      (sym (held_skip e.pair e.pair t (le_refl _)) ∙ first_decides e.pair (skip_all e.pair t) (all_from_skip n e.pair t below))

  first_wrong : beq e.normal (held_first e.pair (skip_all e.pair t)) ≡ true → wrong_entry (e ∷ es) t ≡ 0
  unfolding wrong_entry
  first_wrong b = ap (λ (x : Bool). elim x [ true ↦ suc (wrong_entry es t) | false ↦ 0 ]) (over_first ∙ ap not b)

  first_right_lem : beq e.normal (held_first e.pair (skip_all e.pair t)) ≡ false → wrong_entry (e ∷ es) t ≡ suc (wrong_entry es (skip_all e.pair t))
  unfolding wrong_entry From
  first_right_lem b =
      ap (λ (x : Bool). elim x [ true ↦ suc (wrong_entry es t) | false ↦ 0 ]) (over_first ∙ ap not b) ∙
      ap suc (sym (wrong_on e.pair es t (from_lower_lem (rank_of e) (suc (rank_of e)) es (omega arith) up.1)))

-- How far the test of a level has come: the first wrong entry of what is ahead is that of the whole.
pub record Stands (es : Level) (t : Tree) (whole : Level) (over : Tree) : Type 0 where
  pub reaches : length whole + wrong_entry es t ≡ length es + wrong_entry whole over
  pub up : From 0 es
  pub below : AllFrom 0 t

pub stands_begin : (es : Level) (t : Tree) → levels_ascend (es ∷ t) ≡ true → Stands es t es t
unfolding AllFrom
stands_begin es t a =
    let from = all_from_ascending (es ∷ t) a in
    record { reaches = refl; up = from.0; below = from.1 }

pub stands_done : (t : Tree) (whole : Level) (over : Tree) → Stands [] t whole over → stands_over whole over ≡ true
unfolding wrong_entry
stands_done t whole over so = none_wrong whole over (omega (arith, so.reaches))

module _ (e : Entry) (es : Level) (t : Tree) (whole : Level) (over : Tree) (so : Stands (e ∷ es) t whole over) where
  pub stands_fails : beq e.normal (held_first e.pair (skip_all e.pair t)) ≡ true → length (e ∷ es) + wrong_entry whole over ≡ length whole
  stands_fails b = omega (arith, so.reaches, first_wrong e es t 0 so.up so.below b)

  pub stands_next : beq e.normal (held_first e.pair (skip_all e.pair t)) ≡ false → Stands es (skip_all e.pair t) whole over
  unfolding From
  stands_next b = record {
    reaches = omega (arith, so.reaches, first_right_lem e es t 0 so.up so.below b);
    up = from_lower_lem 0 (suc (rank_of e)) es (omega arith) so.up.1;
    below = all_from_lower 0 (rank_of e) (skip_all e.pair t) (omega arith) (all_from_skip 0 e.pair t so.below);
  }
