-- The pages that a cascade writes: a merge into level i writes at most Pg(1) + … + Pg(i). Assumes nothing.
use Prim.Native.Nat.{ℕ, zero, suc, ◌+◌, ◌≤◌}
use native.Mathlib.Omega.{arith}
use Rattle.std.specs.Prelude.{◌≡◌, Bool, true, false, length, ltb}
use Rattle.std.proofs.Math.Path.{refl}
use Rattle.std.proofs.Common.{length-append}
use Rattle.geometry.specs.declared.Geometry.{Geometry}
use Rattle.geometry.specs.Geometry.{InRange, bottom, capacity}
use Rattle.rules.specs.Tree.{Tree, level}
use Rattle.rules.specs.Level.{slots_of}
use Rattle.rules.specs.Merging.{merge, pages_written, settle, toggle_head, edit, State, Outcome, refused, done}
use Rattle.rules.specs.Good.{Fits, Cascading}
use Rattle.good.specs.Cascade.{merged_state}
use Rattle.good.proofs.Cascade.{merged_cascading, cascading_fits}
use Rattle.good.specs.Settle.{settle_stays, settle_sinks, settle_deepest}
use Rattle.promises.specs.Calls.{ComesTo, refusal, edited}
use Rattle.promises.specs.Pages.{cascade_room, merge_pages}

module _ (g : Geometry) (fit : InRange g) where
  -- A cascade from level i on.
  settle_pages : (n i : ℕ) (s : State) → Cascading g i s → n + i ≡ bottom g →
      length (settle g n i s.tree).written + cascade_room g i ≤ cascade_room g (settle g n i s.tree).deepest
  unfolding settle cascade_room
  settle_pages zero i s c e = omega arith
  settle_pages (suc n) i s c e = told (ltb (length (level i s.tree)) (capacity g i)) refl (settle_pages n (suc i) (merged_state i s))
    where
      t : Tree
      t = s.tree

      told : (b : Bool) → ltb (length (level i t)) (capacity g i) ≡ b →
          (Cascading g (suc i) (merged_state i s) → n + suc i ≡ bottom g →
          length (settle g n (suc i) (merge i t)).written + cascade_room g (suc i) ≤ cascade_room g (settle g n (suc i) (merge i t)).deepest) →
          length (settle g (suc n) i t).written + cascade_room g i ≤ cascade_room g (settle g (suc n) i t).deepest
      told true h rest = rw (settle_stays g n i t h) (omega arith)
      told false h rest =
          let next = merged_cascading g fit i s c (omega (arith, e)) in
          let fits : Fits g (slots_of (merge i t)) = cascading_fits g fit (suc i) (merged_state i s) next in
          rw (settle_sinks g n i t h)
          (omega (
            arith,
            length-append (pages_written (suc i) (slots_of (merge i t))) (settle g n (suc i) (merge i t)).written,
            merge_pages g (slots_of (merge i t)) fits (suc i) next.reaches,
            rest next (omega (arith, e)),
          ))

  -- So with a request on a good state.
  module _ (s : State) (o : Outcome) where
    pub step_pages : ComesTo g s o → length o.written ≤ cascade_room g o.deepest
    unfolding refused done edit
    step_pages (refusal n e) = rw e (omega arith)
    step_pages (edited live e d c) = rw d (omega (arith, settle_pages (bottom g) 0 (record { live = live; tree = toggle_head e s.tree }) c (omega arith)))

    pub step_deepest : ComesTo g s o → o.deepest ≤ bottom g
    unfolding refused done edit
    step_deepest (refusal n e) = rw e (omega arith)
    step_deepest (edited live e d c) = rw d (omega (arith, settle_deepest g (bottom g) 0 (toggle_head e s.tree)))
