-- `is_empty` tells that a run has no entries where none is met. Assumes nothing.
use mathlib.Core.Path.{sym, ◌∙◌}
use Rattle.entries.specs.Spot.{from_first, none_left}
use Rattle.kinds.proofs.is_empty.Goals as goal

pub returns : goal.returns
returns c =
    let a = c.args in
    λ t.
    sym (from_first a.words.now a.run c.skip_to.result _ c.least_pair.ensures c.skip_to.ensures.told) ∙
    none_left a.words.now a.run c.skip_to.result _ c.is_ended.ensures t
