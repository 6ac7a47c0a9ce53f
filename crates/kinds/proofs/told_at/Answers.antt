-- `told_at` gives what the entry at a spot says of a pair, case by case. Assumes nothing.
use mathlib.Core.Path.{sym, ◌∙◌}
use borrow.Author.Tests.{leb-false}
use Rattle.laws.specs.Tests.{told_yes}
use Rattle.entries.specs.Spot.{none_left}
use Rattle.kinds.specs.Spots.{told_none, told_same, told_other}
use Rattle.kinds.proofs.told_at.Goals as goal

pub returns-then-is_ended : goal.returns-then-is_ended
returns-then-is_ended c =
    let a = c.args in
    told_none a.words.now a.run a.spot a.pair a.below (none_left a.words.now a.run a.spot _ c.is_ended.ensures c.if-is_ended.true)

pub entry_at-entry-requires : goal.entry_at-entry-requires
entry_at-entry-requires c =
    let pre = c.requires in record {
      inside = pre.inside;
      standing = pre.standing;
      spot_bound = leb-false _ _ (sym c.is_ended.ensures ∙ c.if-is_ended.false);
    }

pub returns-then-same_pair : goal.returns-then-same_pair
returns-then-same_pair c =
    let a = c.args in
    let entry_at = c.entry_at-entry in
    told_same a.words.now a.run a.spot a.pair a.below entry_at.result entry_at.ensures.told (told_yes _ _ c.same_pair.ensures c.if-same_pair.true)

pub returns-else-same_pair : goal.returns-else-same_pair
returns-else-same_pair c =
    let a = c.args in
    let entry_at = c.entry_at-entry in
    told_other a.words.now a.run a.spot a.pair a.below entry_at.result entry_at.ensures.told (sym c.same_pair.ensures ∙ c.if-same_pair.false)
