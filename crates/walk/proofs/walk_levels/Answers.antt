-- `walk_levels` walks the lower levels and notes a line for each. Assumes nothing.
use Rattle.fault.specs.declared.Part.TheVariants.{Page}
use Rattle.std.specs.Prelude.{Ok}
use Rattle.walk.specs.declared.Seen.TheVariants.{Decided, Follow, Nothing}
use Rattle.walk.specs.Stepping.{seen_in}
use Prim.Native.Nat.{◌+◌}
use mathlib.Core.Path.{◌≡◌, refl, ap, ◌∙◌}
use Rattle.rules.specs.Directed.{pages_most}
use Rattle.walk.specs.Noting.{Noted, follow_small, seen_small, level_noted, ends_decided, ends_nothing, ends_broken, goes_on, ends_past}
use native.Mathlib.Omega.{arith}
use Rattle.walk.proofs.walk_levels.Goals as goal

pub loop-level-init : goal.loop-level-init
loop-level-init c = (c.requires.first_bound, refl)

pub page_look-look-requires : goal.page_look-look-requires
page_look-look-requires c =
    let loop = c.loop-level in
    let s = c.args.store.now in
    let fits = pages_most s.geometry s.words.now c.requires.store_value loop.level loop.auto.level (omega (arith, c.loop-level-test.true, s.lent.in_range_lem.levels_most)) c.loop-level-test.true in
    (loop.auto.level, c.loop-level-test.true, omega (arith, loop.invariant.0, fits))

pub note-requires : goal.note-requires
note-requires c =
    let loop = c.loop-level in
    let s = c.args.store.now in
    let look = c.page_look-look in
    let fit = s.lent.in_range_lem in (
      omega (arith, c.loop-level-test.true, fit.levels_most),
      seen_small 4294967295 Page Page loop.level 0 loop.page.0 0 look.result.step
          (follow_small s.geometry s.words.now fit c.requires.store_value (loop.level + 1) (seen_in Page loop.level loop.page.0 look.result.step) (omega arith) look.ensures.within),
    )

pub returns-in-Ok-Decided : goal.returns-in-Ok-Decided
returns-in-Ok-Decided c =
    let loop = c.loop-level in
    let s = c.args.store.now in
    let look = c.page_look-look in
    let on = level_noted s.geometry s.words.now c.args.asked loop.trail _ loop.page look.result loop.level loop.auto.level c.loop-level-test.true (c.note.ensures Page) look.ensures.exact look.ensures.reaches ∙ loop.invariant.1 in
    let told : look.result.step ≡ Ok (Decided c.in-Ok-Decided.held) = c.in-Ok-Decided.is ∙ ap Ok (rw c.in-Ok-Decided.is at c.in-Ok-Decided.field-0-is) in
    let ends = ends_decided s.geometry s.words.now c.args.asked _ loop.level (seen_in Page loop.level loop.page.0 look.result.step) on (ap (seen_in Page loop.level loop.page.0) told) in record {
      walks = ap (λ (n : Noted). n.outcome) ends;
      notes = ap (λ (n : Noted). n.words) ends;
    }

pub returns-in-Err : goal.returns-in-Err
returns-in-Err c =
    let loop = c.loop-level in
    let s = c.args.store.now in
    let look = c.page_look-look in
    let on = level_noted s.geometry s.words.now c.args.asked loop.trail _ loop.page look.result loop.level loop.auto.level c.loop-level-test.true (c.note.ensures Page) look.ensures.exact look.ensures.reaches ∙ loop.invariant.1 in
    let ends = ends_broken s.geometry s.words.now c.args.asked _ loop.level (seen_in Page loop.level loop.page.0 look.result.step) on (ap (seen_in Page loop.level loop.page.0) c.in-Err.is) in record {
      walks = rw c.told.ensures (ap (λ (n : Noted). n.outcome) ends);
      notes = ap (λ (n : Noted). n.words) ends;
    }

pub loop-level-preserved : goal.loop-level-preserved
loop-level-preserved c =
    let loop = c.loop-level in
    let s = c.args.store.now in
    let look = c.page_look-look in
    let on = level_noted s.geometry s.words.now c.args.asked loop.trail _ loop.page look.result loop.level loop.auto.level c.loop-level-test.true (c.note.ensures Page) look.ensures.exact look.ensures.reaches ∙ loop.invariant.1 in
    let told : look.result.step ≡ Ok (Follow c.in-Ok-Follow.next) = c.in-Ok-Follow.is ∙ ap Ok (rw c.in-Ok-Follow.is at c.in-Ok-Follow.field-0-is) in (
      rw told at look.ensures.within,
      goes_on s.geometry s.words.now c.args.asked _ loop.level (seen_in Page loop.level loop.page.0 look.result.step) on (ap (seen_in Page loop.level loop.page.0) told),
    )

pub returns-in-Ok-Nothing : goal.returns-in-Ok-Nothing
returns-in-Ok-Nothing c =
    let loop = c.loop-level in
    let s = c.args.store.now in
    let look = c.page_look-look in
    let on = level_noted s.geometry s.words.now c.args.asked loop.trail _ loop.page look.result loop.level loop.auto.level c.loop-level-test.true (c.note.ensures Page) look.ensures.exact look.ensures.reaches ∙ loop.invariant.1 in
    let told : look.result.step ≡ Ok Nothing = c.in-Ok-Nothing.is ∙ ap Ok (rw c.in-Ok-Nothing.is at c.in-Ok-Nothing.field-0-is) in
    let ends = ends_nothing s.geometry s.words.now c.args.asked _ loop.level (seen_in Page loop.level loop.page.0 look.result.step) on (ap (seen_in Page loop.level loop.page.0) told) in record {
      walks = ap (λ (n : Noted). n.outcome) ends;
      notes = ap (λ (n : Noted). n.words) ends;
    }

pub returns-after-loop-level : goal.returns-after-loop-level
returns-after-loop-level c =
    let loop = c.loop-level in
    let s = c.args.store.now in
    let ends = ends_past s.geometry s.words.now c.args.asked loop.trail loop.level loop.page.0 c.loop-level-test.false loop.invariant.1 in record {
      walks = ap (λ (n : Noted). n.outcome) ends;
      notes = ap (λ (n : Noted). n.words) ends;
    }
