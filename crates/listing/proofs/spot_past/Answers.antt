-- `spot_past` moves a spot past its entry of a pair, case by case. Assumes nothing.
use mathlib.Core.Path.{sym, ◌∙◌}
use borrow.Author.Tests.{leb-false}
use Rattle.laws.specs.Tests.{told_yes}
use Rattle.listing.specs.Spots.{past_none, past_same, past_stays}
use Rattle.listing.proofs.spot_past.Goals as goal

pub returns-then-is_ended : goal.returns-then-is_ended
returns-then-is_ended c =
    let a = c.args in record {
      told = past_none a.words.now a.run a.spot _ c.is_ended.ensures c.if-is_ended.true a.pair;
      standing = c.requires.standing_2;
    }

pub entry_at-entry-requires : goal.entry_at-entry-requires
entry_at-entry-requires c =
    let pre = c.requires in record {
      inside = pre.inside;
      standing = pre.standing_2;
      spot_bound = leb-false _ _ (sym c.is_ended.ensures ∙ c.if-is_ended.false);
    }

pub returns-then-same_pair : goal.returns-then-same_pair
returns-then-same_pair c =
    let a = c.args in
    let entry_at = c.entry_at-entry in record {
      told = past_same a.words.now a.run a.spot entry_at.result entry_at.ensures.told a.pair _ _ (told_yes _ _ c.same_pair.ensures c.if-same_pair.true) c.least_pair.ensures c.skip_to.ensures.told;
      standing = c.skip_to.ensures.standing;
    }

pub returns : goal.returns
returns c =
    let a = c.args in
    let entry_at = c.entry_at-entry in record {
      told = past_stays a.words.now a.run a.spot entry_at.result entry_at.ensures.told a.pair (sym c.same_pair.ensures ∙ c.if-same_pair.false);
      standing = c.requires.standing_2;
    }
