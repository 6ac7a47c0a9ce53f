-- What is told of four runs: the place of the first entry that is wrong over the runs below its own, or nothing. Of a store's runs it is what
-- the rules find. Assumes nothing.
use Prim.Native.Nat.{ℕ, zero, suc, ◌+◌, ◌-◌, ◌/◌, ◌%◌, ◌≤◌, ◌<◌}
use Rattle.std.proofs.Common.{add-one}
use native.Mathlib.Omega.{arith}
use Rattle.std.specs.Prelude.{◌≡◌, Bool, true, get_or}
use Rattle.std.proofs.Math.Path.{refl, ap, sym, fun_ext}
use mathlib.Core.List.{List, [], ◌∷◌, ◌++◌}
use Rattle.std.proofs.Math.ListN.{length}
use Rattle.laws.specs.Lists.{all}
use Rattle.fault.specs.declared.Fault.{Fault}
use Rattle.fault.specs.Judged.{Judged}
use Rattle.std.specs.Prelude.{Err, Ok}
use Rattle.fault.specs.declared.Part.TheVariants.{Kinds}
use Rattle.fault.specs.Numbers.{fault_in}
use Rattle.rules.specs.Tree.{Entry, Level, Tree}
use Rattle.rules.specs.Sound.{right_over}
use Rattle.rules.specs.Faults.{unless, first_fault, wrong_entry}
use Rattle.rules.specs.Found.{none_first, fault_first}
use Rattle.entries.specs.declared.Run.{Run}
use Rattle.entries.specs.Four.{Runs}
use Rattle.entries.specs.Run.{entries_in}
use Rattle.entries.specs.Levels.{tree_in}
use Rattle.entries.specs.Placed.{places_in, spot_placed, spot_inside, page_of_number, slot_of_number}
use Rattle.entries.specs.Spot.{page_at, slot_number, upcoming, Standing}
use Rattle.kinds.specs.Standing.{stands_over, some_wrong, wrong_agree}
use Rattle.kinds.specs.Below.{below_of}

-- The fault of the wrong entry at a spot of a level.
abbrev pub wrong_at : ℕ → ℕ → Fault
wrong_at level spot = fault_in Kinds level (page_at spot) (slot_number spot)

-- What is told of a level over a tree; the level's entries stand in slots of these numbers, in pages of a size.
unfoldable pub level_fault : ℕ → ℕ → List ℕ → Level → Tree → Judged
level_fault level size places es t =
    let n = get_or places (wrong_entry es t) 0 in
    unless (stands_over es t) (fault_in Kinds level (n / size) (n % size))

-- What is told of a run over a tree, of the top one of four runs over those below it, and of n of them from the top on.
unfoldable pub run_fault : List ℕ → ℕ → Run → Tree → Judged
run_fault w level run t = level_fault level run.most (places_in w run) (entries_in w run) t

unfoldable pub top_fault : List ℕ → ℕ → Runs → Judged
top_fault w level rs = run_fault w level rs.head (tree_in w (below_of rs))

unfoldable pub faults_from : List ℕ → ℕ → Runs → ℕ → List Judged
faults_from w level rs zero = []
faults_from w level rs (suc n) = top_fault w level rs ∷ faults_from w (suc level) (below_of rs) n

-- A run that stands right, and one with a wrong entry at a spot.
module _ (w : List ℕ) (level : ℕ) (run : Run) (t : Tree) where
  pub right_told : stands_over (entries_in w run) t ≡ true → (Ok tt) ≡ run_fault w level run t
  unfolding run_fault level_fault
  right_told e = rw e

  pub wrong_told : (spot : ℕ) (e : Entry) (es : Level) → Standing w run spot → page_at spot < run.pages → e ∷ es ≡ upcoming w run spot →
      length (upcoming w run spot) + wrong_entry (entries_in w run) t ≡ length (entries_in w run) → Err (wrong_at level spot) ≡ run_fault w level run t
  unfolding run_fault level_fault
  wrong_told spot e es stands h here far =
      let wrong = some_wrong (entries_in w run) t (omega (arith, far, ap length here)) in
      let few = spot_inside w run spot stands h in
      let page = page_of_number run.most (page_at spot) (slot_number spot) few in
      let slot = slot_of_number run.most (page_at spot) (slot_number spot) few in
      rw (wrong, spot_placed w run spot _ 0 stands h far, page, slot)

-- Runs from the top on: one that stands right, one that does not, and past the last.
module _ (w : List ℕ) (level n : ℕ) (rs : Runs) where
  pub next_told : level < n → top_fault w level rs ≡ Ok tt → first_fault (faults_from w (level + 1) (below_of rs) (n - (level + 1))) ≡ first_fault (faults_from w level rs (n - level))
  unfolding faults_from
  next_told h e =
      let left : n - level ≡ suc (n - (level + 1)) = omega arith in
      rw (left, ← (add-one level)) (sym (none_first _ (top_fault w level rs) e))

  pub first_told : (f : Fault) → level < n → top_fault w level rs ≡ Err f → Err f ≡ first_fault (faults_from w level rs (n - level))
  unfolding faults_from
  first_told f h e =
      let left : n - level ≡ suc (n - (level + 1)) = omega arith in
      rw left (sym (fault_first _ (top_fault w level rs) f e))

  pub none_told : n ≤ level → (Ok tt) ≡ first_fault (faults_from w level rs (n - level))
  unfolding faults_from first_fault
  none_told h =
      let left : n - level ≡ 0 = omega arith in
      rw left

-- Trees that judge each entry alike tell the same.
pub level_agree : (level size : ℕ) (places : List ℕ) (es : Level) (t u : Tree) → ((e : Entry) → right_over t e ≡ right_over u e) →
    level_fault level size places es t ≡ level_fault level size places es u
unfolding level_fault stands_over
level_agree level size places es t u h = rw (wrong_agree t u h es, ap (λ (f : Entry → Bool). all f es) (fun_ext h))

-- What ends in nothing tells what stands before it.
pub sound_behind : (js : List Judged) → first_fault (js ++ (Ok tt) ∷ []) ≡ first_fault js
unfolding first_fault
sound_behind [] = refl
sound_behind ((Ok tt) ∷ js) = sound_behind js
sound_behind (Err f ∷ js) = refl
