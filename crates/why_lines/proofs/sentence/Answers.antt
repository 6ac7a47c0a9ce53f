-- `sentence` tells a pair that is held, or that it is not. Assumes nothing.
use Rattle.std.proofs.Common.{arith}
use Rattle.printing.specs.Grown.{grown_as, grown_then}
use Rattle.why_lines.specs.Lines.{held_text}
use Rattle.why_lines.specs.Parts.{sentence_held, sentence_refused}
use Rattle.why_lines.proofs.sentence.Goals as goal

pub returns-then-trail-eq1-clause-grown : goal.returns-then-trail-eq1-clause-grown
unfolding held_text
returns-then-trail-eq1-clause-grown c =
    grown_as (sentence_held c.args.trail.now c.args.pair c.if-trail-eq1.true) (grown_then c.pair_told.ensures.grown c.stands_in.ensures.grown)

pub returns-clause-grown : goal.returns-clause-grown
returns-clause-grown c =
    grown_as (sentence_refused c.args.trail.now c.args.pair (omega arith) _ c.entry_at.ensures) c.refusal_told.ensures.grown
