-- `copy_in` copies word by word: what is left to copy goes to the same words. Assumes nothing.
use Rattle.std.proofs.Common.{arith, refl, ◌∙◌}
use lib.ListN.{length-set}
use Rattle.words.specs.Storing.{copy_begins, copy_goes_on, copy_ends}
use Rattle.words.proofs.copy_in.Goals as goal

pub loop-j-init : goal.loop-j-init
loop-j-init c =
    let a = c.args in
    record { not_past = omega arith; long = refl; copies = copy_begins a.place a.from.now a.n a.words.now }

pub loop-j-preserved : goal.loop-j-preserved
loop-j-preserved c =
    let a = c.args in
    let loop = c.loop-j in
    record { not_past = omega arith; long = simp length-set loop.invariant.long; copies = copy_goes_on a.place a.from.now a.n loop.words loop.j (omega arith) (omega arith) ∙ loop.invariant.copies }

pub returns : goal.returns
returns c =
    let a = c.args in
    copy_ends a.place a.from.now a.n c.loop-j.words c.loop-j.j (omega (arith, c.loop-j.invariant.not_past)) ∙ c.loop-j.invariant.copies
