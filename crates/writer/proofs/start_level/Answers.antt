-- `start_level` makes the words of a level without slots, from what `erase` ensures. Assumes nothing.
use lib.Seq.{length-sets}
use Rattle.writer.specs.Writing.{level_started}
use native.Mathlib.Omega.{arith}
use borrow.Author.Rules.{rules}
use Rattle.writer.proofs.start_level.Goals as goal

pub bounds-work-0 : goal.bounds-work-0
bounds-work-0 c =
    let pre = c.requires in
    rw c.erase.ensures (simp length-sets (omega (arith, pre.whole, pre.some)))

pub returns : goal.returns
returns c = rw c.erase.ensures (level_started c.args.work.now c.requires)
