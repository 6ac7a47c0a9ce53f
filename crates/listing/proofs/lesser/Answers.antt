-- `lesser` gives the entry whose pair comes first, the upper one's kind at one pair. Assumes nothing.
use Rattle.listing.specs.Merge.{lesser_is}
use Rattle.entries.specs.Run.{entry}
use Rattle.laws.specs.Tests.{told_yes}
use mathlib.Core.Bool.{true, false}
use mathlib.Core.Path.{refl, sym, ◌∙◌}
use Rattle.listing.proofs.lesser.Goals as goal

pub returns-then-comes_before : goal.returns-then-comes_before
returns-then-comes_before c =
    let a = c.args in
    lesser_is (entry a.above) (entry a.below) true _ (told_yes _ _ c.comes_before.ensures c.if-comes_before.true) refl

pub returns-then-same_pair : goal.returns-then-same_pair
returns-then-same_pair c =
    let a = c.args in
    lesser_is (entry a.above) (entry a.below) false true (sym c.comes_before.ensures ∙ c.if-comes_before.false) (told_yes _ _ c.same_pair.ensures c.if-same_pair.true)

pub returns : goal.returns
returns c =
    let a = c.args in
    lesser_is (entry a.above) (entry a.below) false false (sym c.comes_before.ensures ∙ c.if-comes_before.false) (sym c.same_pair.ensures ∙ c.if-same_pair.false)
