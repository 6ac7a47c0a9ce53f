-- `answer_lines` puts the levels, the verdict and the sentence, one behind the other. Assumes nothing.
use Rattle.printing.specs.Grown.{grown_then}
use Rattle.why_lines.specs.Lines.{answer_text}
use Rattle.why_lines.proofs.answer_lines.Goals as goal

pub returns-clause-grown : goal.returns-clause-grown
unfolding answer_text
returns-clause-grown c = grown_then (grown_then c.level_lines.ensures.grown c.verdict_line.ensures.grown) c.sentence.ensures.grown
