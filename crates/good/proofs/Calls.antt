-- Put and drop on a good state: the state after them is good, and its set is the set before with the pair in it, or out of it. Assumes nothing.
use Rattle.std.specs.Prelude.{ℕ, ◌+◌, ◌-◌, ◌<◌, ◌≡◌, Bool, not, cond, ◌&&◌, ◌||◌}
use Rattle.std.proofs.Common.{arith, ◌∙◌, ltb-true, lt-ltb}
use Rattle.std.proofs.Math.Path.{refl}
use Rattle.std.proofs.Math.Bool.{true, false}
use Rattle.std.proofs.Math.Dec.{ltb}
use Rattle.geometry.specs.declared.Geometry.{Geometry}
use Rattle.geometry.specs.Geometry.{InRange, bottom, most}
use Rattle.slot.specs.declared.Pair.{Pair}
use Rattle.slot.specs.Pair.{same, Words}
use Rattle.rules.specs.Finding.{held}
use Rattle.rules.specs.Merging.{State, toggle_head, edit, refused, done, put, remove}
use Rattle.rules.specs.Good.{Good, Cascading}
use Rattle.good.proofs.Settle.{settle_good, settle_held}
use Rattle.good.specs.Edit.{entry}
use Rattle.good.proofs.Edit.{toggled_holds, put_cascading, drop_cascading}
use Rattle.good.specs.Calls.{put_done, put_full, put_held, remove_done, remove_missing}

-- The edit settles to the end.
module _ (g : Geometry) (fit : InRange g) (p : Pair) (b : Bool) (s : State) (live : ℕ)
    (c : Cascading g 0 (record { live = live; tree = toggle_head (entry p b) s.tree })) where
  edit_good : Good g (done live (edit g (entry p b) s.tree)).after
  unfolding done edit
  edit_good = settle_good g fit (bottom g) 0 (record { live = live; tree = toggle_head (entry p b) s.tree }) c (omega arith)

  edit_held : Good g s → held p s.tree ≡ not b → (q : Pair) →
      held q (done live (edit g (entry p b) s.tree)).after.tree ≡ cond (same q p) b (held q s.tree)
  unfolding done edit
  edit_held good h q =
      settle_held g fit (bottom g) 0 (record { live = live; tree = toggle_head (entry p b) s.tree }) c (omega arith) q ∙
      toggled_holds g fit p b s.live s.tree good h q

module _ (g : Geometry) (fit : InRange g) (p : Pair) (w : Words p) (s : State) (good : Good g s) where
  -- Every call leaves a good state.
  pub put_good : Good g (put g p s).after
  unfolding refused
  put_good = told (held p s.tree) (ltb s.live (most g)) refl refl
    where
      told : (h l : Bool) → held p s.tree ≡ h → ltb s.live (most g) ≡ l → Good g (put g p s).after
      told true l e k = rw (put_held g p s e) good
      told false false e k = rw (put_full g p s e k) good
      told false true e k =
          rw (put_done g p s e k) (edit_good g fit p true s (s.live + 1) (put_cascading g fit p s good w e (ltb-true s.live (most g) k)))

  pub remove_good : Good g (remove g p s).after
  unfolding refused
  remove_good = told (held p s.tree) refl
    where
      told : (h : Bool) → held p s.tree ≡ h → Good g (remove g p s).after
      told false e = rw (remove_missing g p s e) good
      told true e = rw (remove_done g p s e) (edit_good g fit p false s (s.live - 1) (drop_cascading g fit p s good w e))

  -- A put that is done puts in its pair and no other; a drop that is done takes out its pair and no other.
  pub put_holds : held p s.tree ≡ false → s.live < most g → (q : Pair) → held q (put g p s).after.tree ≡ (same q p || held q s.tree)
  put_holds h l q =
      rw (put_done g p s h (lt-ltb s.live (most g) l))
      (edit_held g fit p true s (s.live + 1) (put_cascading g fit p s good w h l) good h q ∙ either (same q p) (held q s.tree))
    where
      either : (a b : Bool) → cond a true b ≡ (a || b)
      either true b = refl
      either false b = refl

  pub remove_holds : held p s.tree ≡ true → (q : Pair) → held q (remove g p s).after.tree ≡ (held q s.tree && not (same q p))
  remove_holds h q =
      rw (remove_done g p s h) (edit_held g fit p false s (s.live - 1) (drop_cascading g fit p s good w h) good h q ∙ only (same q p) (held q s.tree))
    where
      only : (a b : Bool) → cond a false b ≡ (b && not a)
      only true true = refl
      only true false = refl
      only false true = refl
      only false false = refl
