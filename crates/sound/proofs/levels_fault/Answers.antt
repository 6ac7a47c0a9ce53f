-- `levels_fault` goes over the levels below the head. Assumes nothing.
use mathlib.Core.Path.{refl, sym, ap, ◌∙◌}
use Rattle.std.specs.Prelude.{Err}
use Rattle.rules.specs.Faults.{writing_fault}
use Rattle.sound.specs.Levels.{level_miswritten, level_written_lem, test_passes, test_fails, tests_end}
use Rattle.sound.proofs.levels_fault.Goals as goal

pub loop-level-init : goal.loop-level-init
loop-level-init c = refl

pub returns-then-not-level_sound : goal.returns-then-not-level_sound
returns-then-not-level_sound c =
    let s = c.args.store.now in
    let g = s.geometry in
    let w = s.words.now in
    let loop = c.loop-level in
    let wrong = level_miswritten g w loop.level loop.auto.level (sym c.level_sound.ensures ∙ c.if-not-level_sound.true) c.level_wrong.ensures in
    ap Err c.written_wrong.ensures ∙ sym (test_fails (writing_fault g w) loop.level _ _ c.loop-level-test.true wrong) ∙ loop.invariant

pub loop-level-preserved : goal.loop-level-preserved
loop-level-preserved c =
    let s = c.args.store.now in
    let g = s.geometry in
    let w = s.words.now in
    let loop = c.loop-level in
    sym (test_passes (writing_fault g w) loop.level _ c.loop-level-test.true (level_written_lem g w loop.level (sym c.level_sound.ensures ∙ c.if-not-level_sound.false))) ∙ loop.invariant

pub returns : goal.returns
returns c =
    let s = c.args.store.now in
    let g = s.geometry in
    let w = s.words.now in
    let loop = c.loop-level in
    sym (tests_end (writing_fault g w) loop.level _ c.loop-level-test.false) ∙ loop.invariant
