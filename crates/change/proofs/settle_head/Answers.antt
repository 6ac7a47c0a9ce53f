-- `settle_head` settles the head and leaves the work area unused, from what `settle`, `erase` and `done_on` ensure. Assumes nothing.
use native.Mathlib.Nat.{sub-zero}
use mathlib.Core.Path.{refl}
use Rattle.geometry.specs.Geometry.{bottom}
use Rattle.geometry.specs.Places.{plan_of}
use Rattle.geometry.specs.Lent.{lent}
use Rattle.change.specs.Settled.{settled_ready, settled_told}
use native.Mathlib.Omega.{arith}
use borrow.Author.Rules.{rules}
use Rattle.laws.specs.Clauses.{two_clauses}
use Rattle.change.proofs.settle_head.Goals as goal

pub returns : goal.returns
returns c =
    let a = c.args in
    let s = c.settle-settled in
    settled_told a.g a.store.now s.new.store s.result.deepest s.result.pages s.ensures.told a.work.now s.new.work _ _ _ s.auto.work refl c.erase.ensures c.done_on.ensures
