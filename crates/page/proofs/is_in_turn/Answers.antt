-- `is_in_turn` tells whether a slot's tag is right in the head. Assumes nothing.
use Rattle.page.specs.Tag.{in_turn}
use Rattle.page.proofs.is_in_turn.Goals as goal

pub returns : goal.returns
unfolding in_turn
returns c = rw (c.both.ensures, c.is_internal.ensures, c.by_kind-due.ensures)
