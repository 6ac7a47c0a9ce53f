-- `rank_of` gives a pair's rank. Assumes nothing.
use native.Mathlib.Omega.{arith}
use Rattle.slot.specs.Pair.{rank}
use Rattle.slot.proofs.rank_of.Goals as goal

pub returns : goal.returns
unfolding rank
returns c = omega (arith, c.from.ensures, c.from-2.ensures)
