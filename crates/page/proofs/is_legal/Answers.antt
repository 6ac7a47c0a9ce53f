-- `is_legal` tells whether a slot's tag is legal in a page, by how many pages it may name. Assumes nothing.
use Rattle.rules.specs.Sound.{legal}
use Rattle.page.specs.Tag.{legal_by_bound}
use Rattle.page.proofs.is_legal.Goals as goal

pub returns : goal.returns
unfolding legal
returns c =
    let a = c.args in
    rw c.by_kind.ensures (legal_by_bound a.below a.slot.kind a.slot.page.0)
