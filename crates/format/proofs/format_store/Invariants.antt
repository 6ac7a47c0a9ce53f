-- `format_store` makes the store of the empty set: the head first, then level by level its first page. Assumes nothing.
use Rattle.format.specs.Formatting.{Formatting}
use Rattle.format.proofs.format_store.Given as goal

abbrev pub invariant-loop-level : goal.invariant-loop-level
invariant-loop-level l = Formatting l.g l.store l.level
