-- Levels that ascend, as bounds on ranks, and what such a level tells of a pair. Assumes nothing.
use Rattle.std.specs.Prelude.{ℕ, suc, ◌≤◌, ◌≡◌, refl, Bool, true, false, List, [], ◌∷◌}
use Rattle.std.proofs.Common.{arith, ap, ◌∙◌}
use Rattle.laws.specs.Lists.{all}
use Rattle.slot.specs.declared.Pair.{Pair}
use Rattle.slot.specs.Pair.{rank, before, same}
use Rattle.slot.specs.Order.{before_below, below_before, apart_not_same}
use Rattle.rules.specs.Tree.{Entry, Level, Tree, rank_of}
use Rattle.rules.specs.Finding.{Met, absent, met, find, held}
use Rattle.rules.specs.Sound.{ascending, tree_of}
use Rattle.geometry.specs.declared.Geometry.{Geometry}
use Rattle.geometry.specs.Geometry.{InRange}
use Rattle.entries.specs.Levels.{tree_in, runs_of, by_levels}

-- The entries' ranks rise from n on; so in each level of a tree.
unfoldable pub From : ℕ → Level → Type 0
From n [] = Unit {0}
From n (e ∷ es) = (n ≤ rank_of e) × From (suc (rank_of e)) es

unfoldable pub AllFrom : ℕ → Tree → Type 0
AllFrom n [] = Unit {0}
AllFrom n (es ∷ t) = From n es × AllFrom n t

-- Whether each level ascends.
unfoldable pub levels_ascend : Tree → Bool
levels_ascend t = all ascending t

-- A chain of tests that holds has its first test and the rest.
pub chain_first : (b c : Bool) → elim b [ true ↦ c | false ↦ false ] ≡ true → (b ≡ true) × (c ≡ true)
chain_first true c e = (refl, e)
chain_first false c e = let z : ◌≡◌ {A = ℕ} 0 1 = cc in absurd (omega arith)

from_head : (n : ℕ) (e : Entry) (es : Level) → n ≤ rank_of e → ascending (e ∷ es) ≡ true → From n (e ∷ es)
unfolding From ascending
from_head n e [] h a = (h, tt)
from_head n e (f ∷ es) h a =
    let told = chain_first (before e.pair f.pair) (ascending (f ∷ es)) a in
    (h, from_head (suc (rank_of e)) f es (before_below e.pair f.pair told.0) told.1)

pub from_ascending : (es : Level) → ascending es ≡ true → From 0 es
unfolding From
from_ascending [] a = tt
from_ascending (e ∷ es) a = from_head 0 e es (omega arith) a

pub all_from_ascending : (t : Tree) → levels_ascend t ≡ true → AllFrom 0 t
unfolding AllFrom levels_ascend all
all_from_ascending [] a = tt
all_from_ascending (es ∷ t) a =
    let told = chain_first (ascending es) (all ascending t) a in
    (from_ascending es told.0, all_from_ascending t told.1)

-- And back: a level whose ranks rise ascends.
pub ascending_from : (n : ℕ) (es : Level) → From n es → ascending es ≡ true
unfolding From ascending
ascending_from n [] a = refl
ascending_from n (e ∷ []) a = refl
ascending_from n (e ∷ f ∷ es) a =
    rw (below_before e.pair f.pair a.1.0, ascending) (ascending_from (suc (rank_of e)) (f ∷ es) a.1)

-- What rises from n on rises from any lower number on.
pub from_lower_lem : (m n : ℕ) (es : Level) → m ≤ n → From n es → From m es
unfolding From
from_lower_lem m n [] h a = tt
from_lower_lem m n (e ∷ es) h a = (omega (arith, a.0), a.1)

pub all_from_lower : (m n : ℕ) (t : Tree) → m ≤ n → AllFrom n t → AllFrom m t
unfolding AllFrom
all_from_lower m n [] h a = tt
all_from_lower m n (es ∷ t) h a = (from_lower_lem m n es h a.0, all_from_lower m n t h a.1)

-- The entry of a pair in a level, case by case.
pub find_here : (p : Pair) (e : Entry) (es : Level) → same p e.pair ≡ true → find p (e ∷ es) ≡ met e.normal
unfolding find
find_here p e es s = ap (λ (b : Bool). elim b [ true ↦ met e.normal | false ↦ find p es ]) s

pub find_on : (p : Pair) (e : Entry) (es : Level) → same p e.pair ≡ false → find p (e ∷ es) ≡ find p es
unfolding find
find_on p e es s = ap (λ (b : Bool). elim b [ true ↦ met e.normal | false ↦ find p es ]) s

-- A level above a pair has no entry of it.
pub find_above : (p : Pair) (es : Level) → From (suc (rank p)) es → find p es ≡ absent
unfolding From find
find_above p [] a = refl
find_above p (e ∷ es) a =
    find_on p e es (apart_not_same p e.pair (λ h. omega (arith, a.0, h))) ∙ find_above p es (from_lower_lem (suc (rank p)) (suc (rank_of e)) es (omega (arith, a.0)) a.1)

-- Held or not, from what the top level tells and the levels below it.
pub held_met : (p : Pair) (es : Level) (t : Tree) (normal : Bool) → find p es ≡ met normal → held p (es ∷ t) ≡ normal
unfolding held
held_met p es t normal e = ap (λ (m : Met). elim m [ absent ↦ held p t | met n ↦ n ]) e

pub held_absent : (p : Pair) (es : Level) (t : Tree) → find p es ≡ absent → held p (es ∷ t) ≡ held p t
unfolding held
held_absent p es t e = ap (λ (m : Met). elim m [ absent ↦ held p t | met n ↦ n ]) e

pub held_agree : (p : Pair) (es fs : Level) (t u : Tree) → find p es ≡ find p fs → held p t ≡ held p u → held p (es ∷ t) ≡ held p (fs ∷ u)
unfolding held
held_agree p es fs t u e h =
    ap (λ (m : Met). elim m [ absent ↦ held p t | met n ↦ n ]) e ∙ ap (λ (b : Bool). elim (find p fs) [ absent ↦ b | met n ↦ n ]) h

-- The tree that the words hold ascends as the four runs do.
pub runs_ascend : (g : Geometry) (w : List ℕ) → InRange g → levels_ascend (tree_in w (runs_of g w)) ≡ levels_ascend (tree_of g w)
unfolding levels_ascend all ascending
runs_ascend g w fit = by_levels g w fit (λ t u. levels_ascend u ≡ levels_ascend t) (λ a b. refl) (λ a b c. refl) (λ a b c d. refl)
