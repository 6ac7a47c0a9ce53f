-- `fill_words` fills word by word: what is left to fill goes to the same words. Assumes nothing.
use Rattle.std.proofs.Common.{arith}
use Rattle.chip.specs.Filling.{fill_begins, fill_goes_on, fill_ends}
use Rattle.chip.proofs.fill_words.Goals as goal

pub loop-i-init : goal.loop-i-init
loop-i-init c =
    let a = c.args in
    fill_begins a.bytes.now a.words.now

pub loop-i-preserved : goal.loop-i-preserved
loop-i-preserved c =
    let a = c.args in
    let l = c.loop-i in
    fill_goes_on a.bytes.now a.words.now l.words l.i l.invariant (omega arith) _ c.word_at.ensures

pub returns : goal.returns
returns c =
    let a = c.args in
    let l = c.loop-i in
    fill_ends a.bytes.now a.words.now l.words l.i l.invariant (omega arith)
