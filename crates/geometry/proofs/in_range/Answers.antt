-- `in_range` tells what `inRange` does: each way out by what `between` told so far. Assumes nothing.
use Rattle.laws.specs.Tests.{told_past, told_no}
use Rattle.geometry.specs.Geometry.{between, in_range}
use borrow.Author.Rules.{rules}
use Rattle.std.proofs.lemmas.Bool.{not_from_false, not_from_true}
use Rattle.geometry.proofs.in_range.Goals as goal

pub returns-then-not-between : goal.returns-then-not-between
unfolding in_range
returns-then-not-between c = rw (told_no _ _ c.between.ensures (not_from_false _ c.if-not-between.true))

pub returns-then-not-between-2 : goal.returns-then-not-between-2
unfolding in_range
returns-then-not-between-2 c = rw (told_no _ _ c.between-2.ensures (not_from_false _ c.if-not-between-2.true), told_past _ _ c.between.ensures (not_from_true _ c.if-not-between.false))

pub returns : goal.returns
unfolding in_range
returns c = rw (told_past _ _ c.between.ensures (not_from_true _ c.if-not-between.false), told_past _ _ c.between-2.ensures (not_from_true _ c.if-not-between-2.false)) c.between-3.ensures
