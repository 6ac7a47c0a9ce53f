use Rattle.entries.specs.Levels.{runs_inside}
use Rattle.edit.specs.Counts.{counts_told}
use Rattle.std.proofs.Common.{◌∙◌}
use Rattle.edit.proofs.entry_counts.Goals as goal

pub counts_in-requires : goal.counts_in-requires
counts_in-requires c =
    let s = c.args.store.now in
    rw (c.runs_of.ensures, s.lent.exact) (runs_inside s.geometry s.words.now s.lent.in_range_lem c.requires)

pub returns : goal.returns
returns c =
    let s = c.args.store.now in
    c.counts_in.ensures ∙ rw c.runs_of.ensures (counts_told s.geometry s.words.now s.lent.in_range_lem)
