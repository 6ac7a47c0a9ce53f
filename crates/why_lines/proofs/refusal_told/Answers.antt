-- `refusal_told` puts the pair, and then what removed it, or that nothing was found. Assumes nothing.
use Rattle.std.proofs.Common.{arith}
use Rattle.printing.specs.Grown.{grown_as, grown_then}
use Rattle.why_lines.specs.Lines.{removed_text, none_text}
use Rattle.why_lines.specs.Parts.{refusal_removed, refusal_none}
use Rattle.why_lines.proofs.refusal_told.Goals as goal

pub returns-then-entry-eq-FILTER-clause-grown : goal.returns-then-entry-eq-FILTER-clause-grown
unfolding removed_text
returns-then-entry-eq-FILTER-clause-grown c =
    grown_as (refusal_removed c.args.pair c.args.decided c.args.entry c.if-entry-eq-FILTER.true) (grown_then c.pair_told.ensures.grown c.stands_in.ensures.grown)

pub returns-clause-grown : goal.returns-clause-grown
unfolding none_text
returns-clause-grown c =
    grown_as (refusal_none c.args.pair c.args.decided c.args.entry (omega arith)) (grown_then c.pair_told.ensures.grown c.bytes.ensures)
