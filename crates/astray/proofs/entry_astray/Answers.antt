-- `entry_astray` finds the first entry that does not rise or is one too many. The loop's invariant: `Rising` after some entries
-- (specs/Rising.antt). Assumes nothing.
use native.Mathlib.Omega.{arith}
use mathlib.Core.Path.{refl, sym, ◌∙◌}
use borrow.Author.Tests.{leb-false, lt-ltb, le-ltb, ltb-true}
use Rattle.entries.specs.Run.{few_in}
use Rattle.astray.specs.Rising.{rising_begins, rising_ends, more, entry_found, rising_on, number_fits}
use Rattle.astray.proofs.entry_astray.Goals as goal
use Rattle.astray.proofs.entry_astray.Goals.{then-passed-most, else-passed-most}

pub loop-run-init : goal.loop-run-init
loop-run-init c = rising_begins _ _ _ _ _ _ c.least_pair.ensures c.skip_to-spot.ensures.told c.skip_to-spot.ensures.standing

pub entry_at-entry-requires : goal.entry_at-entry-requires
entry_at-entry-requires c = record {
  inside = c.requires;
  standing = c.loop-run.invariant.stands;
  spot_bound = leb-false _ _ (sym c.is_ended.ensures ∙ c.loop-run-test.true);
}

pub number_of-requires : goal.number_of-requires
number_of-requires c = number_fits _ _ _ _ c.requires c.loop-run.invariant.stands (leb-false _ _ (sym c.is_ended.ensures ∙ c.loop-run-test.true))

pub returns-then-not-rises : goal.returns-then-not-rises
returns-then-not-rises c =
    let there = leb-false _ _ (sym c.is_ended.ensures ∙ c.loop-run-test.true) in
    c.number_of.ensures ∙ entry_found _ _ _ _ _ _ c.loop-run.invariant _ c.entry_at-entry.ensures.told _ there (elim c.if-passed-most.branch [
      | then-passed-most w ↦ rw (lt-ltb _ _ w.if-passed-most.true, ← w.rises.ensures) (sym w.value-is ∙ c.if-not-rises.true)
      | else-passed-most w ↦ rw (le-ltb _ _ w.if-passed-most.false) refl
    ])

pub overflow_add-passed : goal.overflow_add-passed
overflow_add-passed c =
    omega (arith, more _ _ _ _ _ _ c.loop-run.invariant _ c.entry_at-entry.ensures.told, few_in c.args.words.now c.args.run _ c.requires)

pub overflow_add-spot : goal.overflow_add-spot
overflow_add-spot c = omega (arith, c.entry_at-entry.ensures.fits)

pub loop-run-smaller : goal.loop-run-smaller
loop-run-smaller c = omega (arith, more _ _ _ _ _ _ c.loop-run.invariant _ c.entry_at-entry.ensures.told)

pub loop-run-preserved : goal.loop-run-preserved
loop-run-preserved c =
    rising_on _ _ _ _ _ _ c.loop-run.invariant _ c.entry_at-entry.ensures.told
    (elim c.if-passed-most.branch [
      | then-passed-most w ↦ rw (lt-ltb _ _ w.if-passed-most.true, ← w.rises.ensures) (sym w.value-is ∙ c.if-not-rises.false)
      | else-passed-most w ↦ absurd (omega (arith, ltb-true _ _ (sym w.value-is ∙ c.if-not-rises.false), w.if-passed-most.false))
    ])
    _ _ c.least_pair-in-loop-run.ensures
    c.skip_to-spot-in-loop-run.ensures.told c.skip_to-spot-in-loop-run.ensures.standing

pub returns : goal.returns
returns c = rising_ends _ _ _ _ _ _ c.loop-run.invariant _ (sym c.is_ended.ensures ∙ c.loop-run-test.false)
