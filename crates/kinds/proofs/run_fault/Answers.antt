-- `run_fault` tests a level entry by entry. The loop's invariant: the first wrong entry that comes from the spots on is that of the whole.
-- Assumes nothing.
use Rattle.std.proofs.Common.{◌≡◌, Err, ap, refl, ◌∙◌}
use borrow.Author.Tests.{leb-false, not-false}
use Rattle.laws.specs.Tests.{told_no}
use Rattle.entries.specs.Levels.{tree_in}
use Rattle.entries.specs.Spot.{upcomings_all, from_first, none_left}
use Rattle.entries.specs.Four.{Spots}
use Rattle.kinds.specs.Standing.{stands_begin, stands_done}
use Rattle.kinds.specs.Spots.{wrong_here, right_here, fewer_on}
use Rattle.kinds.specs.Told.{right_told, wrong_told}
use borrow.Author.Rules.{rules}
use Rattle.std.proofs.lemmas.Bool.{not_from_false, not_from_true}
use Rattle.kinds.proofs.run_fault.Goals as goal

pub loop-top-init : goal.loop-top-init
loop-top-init c =
    let a = c.args in
    let w = a.words.now in
    let all = from_first w a.top c.skip_to-spot.result _ c.least_pair-least.ensures c.skip_to-spot.ensures.told in
    let begun : ◌≡◌ {A = Spots} c.map-spots.result (record { head = 0; first = 0; second = 0; third = 0 }) = search rules in
    (rw (all, upcomings_all w a.lower _ begun) (stands_begin _ _ c.requires.lower_value), c.skip_to-spot.ensures.standing)

pub entry_at-entry-requires : goal.entry_at-entry-requires
entry_at-entry-requires c = record {
  inside = c.requires.inside;
  standing = c.loop-top.invariant.1;
  spot_bound = leb-false _ _ (told_no _ _ c.is_ended.ensures (not_from_false _ c.loop-top-test.true));
}

pub held_at-requires : goal.held_at-requires
held_at-requires c = record {
  all_inside = c.requires.all_inside;
  all_standing = c.spots_from-spots.ensures.standing;
}

pub returns-then-entry-held_at : goal.returns-then-entry-held_at
returns-then-entry-held_at c =
    let a = c.args in
    let w = a.words.now in
    let spot = c.loop-top.spot in
    let e = c.entry_at-entry in
    let left = leb-false _ _ (told_no _ _ c.is_ended.ensures (not_from_false _ c.loop-top-test.true)) in
    let far = wrong_here w a.top a.lower spot c.loop-top.spots c.spots_from-spots.result
    e.result _ _ c.loop-top.invariant.0 e.ensures.told c.spots_from-spots.ensures.told
    _ _ c.held_at.ensures refl c.if-entry-held_at.true in
    ap Err c.wrong_at.ensures ∙ wrong_told w a.level a.top (tree_in w a.lower) spot _ _ c.loop-top.invariant.1 left e.ensures.told far

pub loop-top-smaller : goal.loop-top-smaller
loop-top-smaller c =
    let a = c.args in
    let e = c.entry_at-entry in
    fewer_on a.words.now a.top a.lower c.loop-top.spot c.loop-top.spots c.spots_from-spots.result
    e.result _ _ c.loop-top.invariant.0 e.ensures.told c.spots_from-spots.ensures.told
    c.skip_to-spot-in-loop-top.result _ c.least_pair-least.ensures c.skip_to-spot-in-loop-top.ensures.told

pub loop-top-preserved : goal.loop-top-preserved
loop-top-preserved c =
    let a = c.args in
    let e = c.entry_at-entry in (
      right_here a.words.now a.top a.lower c.loop-top.spot c.loop-top.spots c.spots_from-spots.result
          e.result _ _ c.loop-top.invariant.0 e.ensures.told c.spots_from-spots.ensures.told
          c.skip_to-spot-in-loop-top.result _ c.least_pair-least.ensures c.skip_to-spot-in-loop-top.ensures.told _ _ c.held_at.ensures refl c.if-entry-held_at.false,
      c.skip_to-spot-in-loop-top.ensures.standing,
    )

pub returns : goal.returns
returns c =
    let a = c.args in
    let w = a.words.now in
    let none = none_left w a.top c.loop-top.spot _ c.is_ended.ensures (not-false _ (not_from_true _ c.loop-top-test.false)) in
    right_told w a.level a.top (tree_in w a.lower) (stands_done _ _ _ (rw none at c.loop-top.invariant.0))
