-- `skip_to` skips a run's entries page by page. The loop's invariant: from here on the run comes to the same. Assumes nothing.
use Rattle.std.proofs.Common.{ap, sym, refl, le_refl, arith, ◌∙◌}
use Rattle.entries.specs.Run.{rest, rest_none}
use Rattle.entries.specs.Skip.{skip, rest_passed, rest_met}
use Rattle.entries.specs.Spot.{upcoming, met_fits, upcoming_at, standing_met, standing_ended}
use Rattle.entries.proofs.skip_to.Goals as goal

pub loop-page-init : goal.loop-page-init
unfolding upcoming rest
loop-page-init c = rw c.cursor_at.ensures

pub returns-in-Some : goal.returns-in-Some
returns-in-Some c =
    let a = c.args in
    let met = c.in-Some.ensures.met in
    let low = met_fits a.words.now a.run _ _ _ refl met.in_page _ c.requires in record {
      told = upcoming_at a.words.now a.run _ _ _ low c.spot_of.ensures ∙
          rest_met a.words.now a.run _ a.pair _ _ _ refl c.loop-page-test.true met.moved met.in_page met.stops ∙ c.loop-page.invariant;
      standing = standing_met a.words.now a.run _ _ _ low c.spot_of.ensures a.pair _ refl met.in_page met.stops;
    }

pub loop-page-preserved : goal.loop-page-preserved
loop-page-preserved c =
    let a = c.args in
    rest_passed a.words.now a.run _ a.pair _ c.loop-page-test.true c.in_default.ensures.none ∙ c.loop-page.invariant

pub returns : goal.returns
unfolding skip
returns c =
    let a = c.args in
    let loop = c.loop-page in
    let w = a.words.now in record {
      told = upcoming_at w a.run _ _ _ (omega arith) c.spot_of-2.ensures ∙ rest_none w a.run _ _ (le_refl a.run.pages) ∙
          sym (ap (skip a.pair) (rest_none w a.run loop.page loop.slot.0 c.loop-page-test.false)) ∙ loop.invariant;
      standing = standing_ended w a.run _ _ _ (omega arith) c.spot_of-2.ensures (le_refl a.run.pages);
    }
