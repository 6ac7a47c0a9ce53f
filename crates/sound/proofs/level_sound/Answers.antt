-- `level_sound` tests the writing of a level and its capacity; its pages are formed. Assumes nothing.
use mathlib.Core.Path.{sym, ◌∙◌}
use Rattle.std.specs.Prelude.{true, false}
use Rattle.written.specs.Parts.{level_sound_told}
use Rattle.sound.specs.Levels.{capacity_holds_lem, all_formed}
use Rattle.sound.proofs.level_sound.Goals as goal

pub returns-in-Some : goal.returns-in-Some
returns-in-Some c =
    let s = c.args.store.now in
    let g = s.geometry in
    let w = s.words.now in
    let level = c.args.level in
    let h = c.requires.le_level in
    let told = c.level_entries.ensures in
    c.within_capacity.ensures ∙ capacity_holds_lem g s.plan w s.lent level c.in-Some.entries h.1 ∙
    sym (level_sound_told g w level true c.in-Some.entries (all_formed g w c.requires.store_value_2 level h.0 h.1) (rw c.in-Some.is at told.exact) (λ e. rw c.in-Some.is at told.counted))

pub returns-in-None : goal.returns-in-None
returns-in-None c =
    let s = c.args.store.now in
    let g = s.geometry in
    let w = s.words.now in
    let level = c.args.level in
    let h = c.requires.le_level in
    sym (level_sound_told g w level false 0 (all_formed g w c.requires.store_value_2 level h.0 h.1) (rw c.in-None.is at c.level_entries.ensures.exact) (λ e. cc))
