-- `walk_past` tests the directory, notes the head's line and walks on by what the head told. Assumes nothing.
use Rattle.fault.specs.declared.Part.TheVariants.{Head, Page}
use Rattle.std.specs.Prelude.{Ok}
use Rattle.walk.specs.declared.Seen.TheVariants.{Decided, Follow, Nothing}
use Rattle.walk.specs.Stepping.{seen_in}
use mathlib.Core.Path.{◌≡◌, refl, ap, ◌∙◌}
use Rattle.laws.specs.Tests.{told_no, told_past}
use Rattle.form.specs.declared.HeadRead.{HeadRead}
use Rattle.walk.specs.Noting.{Noted, follow_small, seen_small, head_noted, directory_noted, ends_decided, ends_nothing, ends_broken, goes_on}
use native.Mathlib.Omega.{arith}
use Rattle.std.proofs.lemmas.Bool.{not_from_false, not_from_true}
use Rattle.walk.proofs.walk_past.Goals as goal

pub returns-then-not-directory_right : goal.returns-then-not-directory_right
returns-then-not-directory_right c =
    let s = c.args.store.now in
    let ends = directory_noted s.geometry s.words.now c.args.asked c.args.trail.now (told_no _ _ c.directory_right.ensures (not_from_false _ c.if-not-directory_right.true)) in record {
      walks = rw c.of.ensures (ap (λ (n : Noted). n.outcome) ends);
      notes = ap (λ (n : Noted). n.words) ends;
    }

pub note-requires : goal.note-requires
note-requires c =
    let s = c.args.store.now in
    let step = c.head_step-step in
    let right = told_past _ _ c.directory_right.ensures (not_from_true _ c.if-not-directory_right.false) in
    (omega arith, seen_small 4294967295 Head Page 0 0 0 0 step.result (follow_small s.geometry s.words.now s.lent.in_range_lem right 1 (seen_in Head 0 0 step.result) (omega arith) step.ensures.within))

pub walk_levels-requires : goal.walk_levels-requires
walk_levels-requires c =
    let s = c.args.store.now in
    let step = c.head_step-step in
    let right = told_past _ _ c.directory_right.ensures (not_from_true _ c.if-not-directory_right.false) in
    let told : step.result ≡ Ok (Follow c.in-Ok-Follow.page) = c.in-Ok-Follow.is ∙ ap Ok (rw c.in-Ok-Follow.is at c.in-Ok-Follow.field-0-is) in
    record { store_value = right; first_bound = rw told at step.ensures.within }

pub returns-in-Ok-Decided : goal.returns-in-Ok-Decided
returns-in-Ok-Decided c =
    let s = c.args.store.now in
    let step = c.head_step-step in
    let right = told_past _ _ c.directory_right.ensures (not_from_true _ c.if-not-directory_right.false) in
    let on = head_noted s.geometry s.words.now c.args.asked c.args.trail.now _ (record { 0 = 0 }) (record { step = step.result; reach = c.args.head.reach }) right refl (c.note.ensures Head) step.ensures.exact (ap (λ (r : HeadRead). r.reach) c.requires) in
    let told : step.result ≡ Ok (Decided c.in-Ok-Decided.held) = c.in-Ok-Decided.is ∙ ap Ok (rw c.in-Ok-Decided.is at c.in-Ok-Decided.field-0-is) in
    let ends = ends_decided s.geometry s.words.now c.args.asked _ 0 (seen_in Head 0 0 step.result) on (ap (seen_in Head 0 0) told) in record {
      walks = ap (λ (n : Noted). n.outcome) ends;
      notes = ap (λ (n : Noted). n.words) ends;
    }

pub returns-in-Ok-Follow : goal.returns-in-Ok-Follow
returns-in-Ok-Follow c =
    let s = c.args.store.now in
    let step = c.head_step-step in
    let right = told_past _ _ c.directory_right.ensures (not_from_true _ c.if-not-directory_right.false) in
    let on = head_noted s.geometry s.words.now c.args.asked c.args.trail.now _ (record { 0 = 0 }) (record { step = step.result; reach = c.args.head.reach }) right refl (c.note.ensures Head) step.ensures.exact (ap (λ (r : HeadRead). r.reach) c.requires) in
    let told : step.result ≡ Ok (Follow c.in-Ok-Follow.page) = c.in-Ok-Follow.is ∙ ap Ok (rw c.in-Ok-Follow.is at c.in-Ok-Follow.field-0-is) in
    let ends = goes_on s.geometry s.words.now c.args.asked _ 0 (seen_in Head 0 0 step.result) on (ap (seen_in Head 0 0) told) in record {
      walks = c.walk_levels.ensures.walks ∙ ap (λ (n : Noted). n.outcome) ends;
      notes = c.walk_levels.ensures.notes ∙ ap (λ (n : Noted). n.words) ends;
    }

pub returns-in-Ok-Nothing : goal.returns-in-Ok-Nothing
returns-in-Ok-Nothing c =
    let s = c.args.store.now in
    let step = c.head_step-step in
    let right = told_past _ _ c.directory_right.ensures (not_from_true _ c.if-not-directory_right.false) in
    let on = head_noted s.geometry s.words.now c.args.asked c.args.trail.now _ (record { 0 = 0 }) (record { step = step.result; reach = c.args.head.reach }) right refl (c.note.ensures Head) step.ensures.exact (ap (λ (r : HeadRead). r.reach) c.requires) in
    let told : step.result ≡ Ok Nothing = c.in-Ok-Nothing.is ∙ ap Ok (rw c.in-Ok-Nothing.is at c.in-Ok-Nothing.field-0-is) in
    let ends = ends_nothing s.geometry s.words.now c.args.asked _ 0 (seen_in Head 0 0 step.result) on (ap (seen_in Head 0 0) told) in record {
      walks = ap (λ (n : Noted). n.outcome) ends;
      notes = ap (λ (n : Noted). n.words) ends;
    }

pub returns-in-Err : goal.returns-in-Err
returns-in-Err c =
    let s = c.args.store.now in
    let step = c.head_step-step in
    let right = told_past _ _ c.directory_right.ensures (not_from_true _ c.if-not-directory_right.false) in
    let on = head_noted s.geometry s.words.now c.args.asked c.args.trail.now _ (record { 0 = 0 }) (record { step = step.result; reach = c.args.head.reach }) right refl (c.note.ensures Head) step.ensures.exact (ap (λ (r : HeadRead). r.reach) c.requires) in
    let ends = ends_broken s.geometry s.words.now c.args.asked _ 0 (seen_in Head 0 0 step.result) on (ap (seen_in Head 0 0) c.in-Err.is) in record {
      walks = rw c.told.ensures (ap (λ (n : Noted). n.outcome) ends);
      notes = ap (λ (n : Noted). n.words) ends;
    }
