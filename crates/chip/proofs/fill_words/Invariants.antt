-- `fill_words` fills word by word: what is left to fill goes to the same words. Assumes nothing.
use Rattle.chip.specs.Filling.{Filling}
use Rattle.chip.proofs.fill_words.Given as goal

abbrev pub invariant-loop-i : goal.invariant-loop-i
invariant-loop-i l = Filling l.bytes l.initial.words l.words l.i
