-- `past` leaves the entry at a spot behind, from what `spot_from` ensures. Assumes nothing.
use Rattle.entries.specs.Spot.{next_fits}
use Rattle.writer.specs.Joining.{passed}
use borrow.Author.Rules.{rules}
use native.Mathlib.Omega.{arith}
use Rattle.writer.proofs.past.Goals as goal

pub overflow_add-spot : goal.overflow_add-spot
overflow_add-spot c =
    let a = c.args in
    let asked = c.requires in
    omega (arith, next_fits a.words.now a.run a.spot _ asked.inside asked.standing asked.spot_bound)

pub returns : goal.returns
returns c =
    let asked = c.requires in
    passed _ _ _ _ asked.inside asked.standing asked.spot_bound _ c.spot_from.ensures
