-- Put and drop on a good state: the state after them is good, and its set is the set before with the pair in it, or out of it. Assumes nothing.
use Rattle.std.specs.Prelude.{ℕ, ◌+◌, ◌-◌, ◌<◌, ◌≡◌, Bool, not, cond, ◌&&◌, ◌||◌}
use Rattle.std.proofs.Common.{arith, ◌∙◌, ltb-true, lt-ltb}
use Rattle.std.proofs.Math.Path.{refl}
use Rattle.std.proofs.Math.Bool.{true, false}
use Rattle.std.proofs.Math.Dec.{ltb}
use Rattle.geometry.specs.declared.Geometry.{Geometry}
use Rattle.geometry.specs.Geometry.{InRange, bottom, most}
use Rattle.slot.specs.declared.Pair.{Pair}
use Rattle.slot.specs.Pair.{same, Words}
use Rattle.rules.specs.Finding.{held}
use Rattle.rules.specs.Merging.{State, toggle_head, edit, refused, done, put, remove}
use Rattle.rules.specs.Good.{Good, Cascading}
use Rattle.good.specs.Edit.{entry}

-- What a call comes to, case by case.
module _ (g : Geometry) (p : Pair) (s : State) where
  pub put_held : held p s.tree ≡ true → put g p s ≡ refused 2 s
  unfolding put
  put_held h = rw (h, put) refl

  pub put_full : held p s.tree ≡ false → ltb s.live (most g) ≡ false → put g p s ≡ refused 4 s
  unfolding put
  put_full h l = rw (h, l, put) refl

  pub put_done : held p s.tree ≡ false → ltb s.live (most g) ≡ true → put g p s ≡ done (s.live + 1) (edit g (entry p true) s.tree)
  unfolding put
  put_done h l = rw (h, l, put) refl

  pub remove_missing : held p s.tree ≡ false → remove g p s ≡ refused 3 s
  unfolding remove
  remove_missing h = rw (h, remove) refl

  pub remove_done : held p s.tree ≡ true → remove g p s ≡ done (s.live - 1) (edit g (entry p false) s.tree)
  unfolding remove
  remove_done h = rw (h, remove) refl
