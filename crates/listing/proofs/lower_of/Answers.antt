-- `lower_of` gives the lesser of the entry at a spot and the least below it, case by case. Assumes nothing.
use mathlib.Core.Path.{ap, sym, ◌∙◌}
use borrow.Author.Tests.{leb-false}
use Rattle.listing.specs.Spots.{found, lower_none, lower_alone, lower_both}
use Rattle.listing.proofs.lower_of.Goals as goal

pub returns-then-is_ended : goal.returns-then-is_ended
returns-then-is_ended c =
    let a = c.args in
    lower_none a.words.now a.run a.spot _ c.is_ended.ensures c.if-is_ended.true (found a.below)

pub entry_at-entry-requires : goal.entry_at-entry-requires
entry_at-entry-requires c =
    let pre = c.requires in record {
      inside = pre.inside;
      standing = pre.standing;
      spot_bound = leb-false _ _ (sym c.is_ended.ensures ∙ c.if-is_ended.false);
    }

pub returns-in-None : goal.returns-in-None
returns-in-None c =
    let a = c.args in
    let entry_at = c.entry_at-entry in
    lower_alone a.words.now a.run a.spot entry_at.result entry_at.ensures.told (found a.below) (ap found c.in-None.is)

pub returns-in-Some : goal.returns-in-Some
returns-in-Some c =
    let a = c.args in
    let entry_at = c.entry_at-entry in
    lower_both a.words.now a.run a.spot entry_at.result entry_at.ensures.told (found a.below) _ _ (ap found c.in-Some.is) c.lesser.ensures
