-- `unused` tells whether words are all unused. The invariant: they are exactly if those so far and those from here on are. Assumes nothing.
use mathlib.Core.Path.{sym, ◌∙◌}
use Rattle.written.specs.Tested.{unused_goes_on, unused_ends}
use Rattle.written.proofs.unused.Goals as goal

pub loop-i-preserved : goal.loop-i-preserved
loop-i-preserved c =
    let here = c.loop-i in
    here.invariant ∙ unused_goes_on c.args.words.now here.i c.args.to here.all c.loop-i-test.true

pub returns : goal.returns
returns c =
    let here = c.loop-i in
    sym (here.invariant ∙ unused_ends c.args.words.now here.i c.args.to here.all c.loop-i-test.false)
