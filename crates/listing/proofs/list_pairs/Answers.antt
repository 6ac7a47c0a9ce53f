-- `list_pairs` lists the tree that the words hold, from what `list_runs` ensures of the four runs. Assumes nothing.
use Rattle.listing.specs.Spots.{runs_listed}
use Rattle.entries.specs.Levels.{runs_inside}
use Rattle.entries.specs.Ascending.{runs_ascend}
use mathlib.Core.Path.{◌∙◌}
use Rattle.laws.specs.Clauses.{two_clauses}
use Rattle.listing.proofs.list_pairs.Goals as goal

pub list_runs-requires : goal.list_runs-requires
list_runs-requires c =
    let s = c.args.store.now in
    let pre = c.requires in
    two_clauses (λ v0 v1. record { all_inside = v0; runs_value = v1 }) (rw (c.runs_of.ensures, s.lent.exact)
    (runs_inside s.geometry s.words.now s.lent.in_range_lem pre.pages_within, runs_ascend s.geometry s.words.now s.lent.in_range_lem ∙ pre.store_value))

pub returns : goal.returns
returns c =
    let a = c.args in
    let s = a.store.now in
    rw (c.list_runs.ensures, c.runs_of.ensures) (runs_listed s.geometry s.words.now s.lent.in_range_lem a.first a.second a.list.now)
