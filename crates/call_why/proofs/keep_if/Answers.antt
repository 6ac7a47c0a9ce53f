-- `keep_if` clears a trail that is not to be kept. Assumes nothing.
use mathlib.Core.Path.{refl}
use borrow.Author.Tests.{not-true, not-false}
use Rattle.std.proofs.lemmas.Bool.{not_from_false, not_from_true}
use Rattle.call_why.proofs.keep_if.Goals as goal

pub returns-then-not-kept : goal.returns-then-not-kept
returns-then-not-kept c = rw (not-true c.args.kept (not_from_false _ c.if-not-kept.true)) refl

pub returns-else-not-kept : goal.returns-else-not-kept
returns-else-not-kept c = rw (not-false c.args.kept (not_from_true _ c.if-not-kept.false)) refl
