-- `list_runs` lists four runs. The loop's invariant: what comes from the spots on completes the rules' list (specs/Going.antt). Assumes nothing.
use mathlib.Core.Path.{refl, ◌∙◌}
use lib.ListN.{length-set}
use Rattle.entries.specs.Spot.{upcomings}
use Rattle.listing.proofs.Going.{going_full}
use Rattle.listing.proofs.Spots.{spots_begin, range_told, spots_done, spots_over, spots_fall, spots_put, spots_pass}
use native.Mathlib.Omega.{arith}
use Rattle.listing.proofs.list_runs.Goals as goal

pub loop-pairs-init : goal.loop-pairs-init
loop-pairs-init c = (spots_begin c.args.words.now c.args.runs c.args.first c.args.second c.spots_at-spots.result c.args.list.now c.spots_at-spots.ensures.told c.requires.runs_value _ c.requires.all_inside, c.spots_at-spots.ensures.standing, refl, refl)

pub least_of-requires : goal.least_of-requires
least_of-requires c = record {
  all_inside = c.requires.all_inside;
  all_standing = c.loop-pairs.invariant.1;
}

pub returns-in_default : goal.returns-in_default
returns-in_default c =
    spots_done c.args.words.now c.args.runs c.args.second c.loop-pairs.pairs c.loop-pairs.spots c.loop-pairs.list _ c.loop-pairs.invariant.0 c.least_of.result c.least_of.ensures c.in_default.is (omega (arith, c.loop-pairs.invariant)) ∙
    range_told c.args.words.now c.args.runs c.args.first c.args.second c.spots_at-spots.result c.args.list.now c.spots_at-spots.ensures.told c.requires.runs_value

pub returns-then-comes_before : goal.returns-then-comes_before
returns-then-comes_before c =
    spots_over c.args.words.now c.args.runs c.args.second c.loop-pairs.pairs c.loop-pairs.spots c.loop-pairs.list _ c.loop-pairs.invariant.0 c.least_of.result c.least_of.ensures _ c.in-Some.is _ c.comes_before.ensures c.if-comes_before.true (omega (arith, c.loop-pairs.invariant)) ∙
    range_told c.args.words.now c.args.runs c.args.first c.args.second c.spots_at-spots.result c.args.list.now c.spots_at-spots.ensures.told c.requires.runs_value

pub spots_past-spots-requires : goal.spots_past-spots-requires
spots_past-spots-requires c = record {
  all_inside = c.requires.all_inside;
  all_standing = c.loop-pairs.invariant.1;
}

pub loop-pairs-smaller-then-entry : goal.loop-pairs-smaller-then-entry
loop-pairs-smaller-then-entry c = spots_fall c.args.words.now c.args.runs c.args.second c.loop-pairs.pairs c.loop-pairs.spots c.loop-pairs.list _ c.loop-pairs.invariant.0 c.least_of.result c.least_of.ensures _ c.in-Some.is _ c.comes_before.ensures c.spots_past-spots.result c.spots_past-spots.ensures.told

pub loop-pairs-preserved-then-entry : goal.loop-pairs-preserved-then-entry
loop-pairs-preserved-then-entry c =
    let so = spots_put c.args.words.now c.args.runs c.args.second c.loop-pairs.pairs c.loop-pairs.spots c.loop-pairs.list _ c.loop-pairs.invariant.0 c.least_of.result c.least_of.ensures _ c.in-Some.is _ c.comes_before.ensures c.spots_past-spots.result c.spots_past-spots.ensures.told c.if-comes_before.false c.if-entry.true (omega (arith, c.loop-pairs.invariant)) in
    (rw c.write_pair.ensures so, c.spots_past-spots.ensures.standing, rw c.write_pair.ensures (simp length-set c.loop-pairs.invariant.2), c.loop-pairs.invariant.3)

pub loop-pairs-smaller : goal.loop-pairs-smaller
loop-pairs-smaller c = spots_fall c.args.words.now c.args.runs c.args.second c.loop-pairs.pairs c.loop-pairs.spots c.loop-pairs.list _ c.loop-pairs.invariant.0 c.least_of.result c.least_of.ensures _ c.in-Some.is _ c.comes_before.ensures c.spots_past-spots.result c.spots_past-spots.ensures.told

pub loop-pairs-preserved : goal.loop-pairs-preserved
loop-pairs-preserved c = (
  spots_pass c.args.words.now c.args.runs c.args.second c.loop-pairs.pairs c.loop-pairs.spots c.loop-pairs.list _ c.loop-pairs.invariant.0 c.least_of.result c.least_of.ensures _ c.in-Some.is _ c.comes_before.ensures c.spots_past-spots.result c.spots_past-spots.ensures.told c.if-comes_before.false c.if-entry.false,
  c.spots_past-spots.ensures.standing,
  c.loop-pairs.invariant.2,
  c.loop-pairs.invariant.3,
)

pub returns : goal.returns
returns c =
    going_full c.args.second c.loop-pairs.pairs (upcomings c.args.words.now c.args.runs c.loop-pairs.spots) c.loop-pairs.list _ c.loop-pairs.invariant.0 (omega (arith, c.loop-pairs.invariant)) ∙
    range_told c.args.words.now c.args.runs c.args.first c.args.second c.spots_at-spots.result c.args.list.now c.spots_at-spots.ensures.told c.requires.runs_value
