-- `head_takes` tells whether the head may have a slot. Assumes nothing.
use Rattle.page.specs.Tag.{head_tag}
use Rattle.page.proofs.head_takes.Goals as goal

pub returns : goal.returns
unfolding head_tag
returns c = rw (c.both.ensures, c.is_in_turn.ensures, c.by_kind-fits.ensures)
