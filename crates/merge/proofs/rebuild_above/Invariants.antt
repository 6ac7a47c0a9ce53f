use Rattle.geometry.specs.Bounds.{room_small}
use Prim.Native.Nat.{◌-◌}
use lib.ListN.{length}
use mathlib.Core.Path.{◌≡◌, refl, ◌∙◌}
use Rattle.geometry.specs.Places.{plan_of}
use Rattle.geometry.specs.Lent.{lent}
use Rattle.merge.specs.Rebuilding.{Rebuilding, rebuilding_begins, next_fillable, rebuilding_goes_on, rebuilding_few, head_within, rebuilding_ends}
use borrow.Author.Rules.{rules}
use native.Mathlib.Omega.{arith}
use Rattle.laws.specs.Clauses.{two_clauses}
use Rattle.merge.proofs.rebuild_above.Given as goal

abbrev pub invariant-loop-i : goal.invariant-loop-i
invariant-loop-i l = Rebuilding l.g l.initial.store l.level l.store l.i l.pages × (length l.work ≡ length l.initial.work)
