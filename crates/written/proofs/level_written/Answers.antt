-- `level_written` decides whether a level is its writing: its pages are filled, its row is written, and what is behind is unused. Assumes nothing.
use mathlib.Core.Path.{sym, ◌∙◌}
use Rattle.layout.specs.Words.{count_of}
use Rattle.layout.specs.Pages.{last_count, row_length, used_end}
use Rattle.written.specs.Decided.{level_row, level_row_inside, level_unfilled, level_kept, level_counts_lem}
use Rattle.written.specs.Tested.{filled_most}
use Rattle.written.proofs.level_written.Goals as goal

pub returns-then-not-pages_filled-clause-exact : goal.returns-then-not-pages_filled-clause-exact
returns-then-not-pages_filled-clause-exact c = sym (level_unfilled _ _ _ _ _ c.args.below c.requires (sym c.pages_filled.ensures ∙ c.if-not-pages_filled.true))

pub invariant_of-in_room : goal.invariant_of-in_room
unfolding level_row row_length last_count count_of
invariant_of-in_room c = record {
  inside = level_row_inside _ _ _ _ _ _ c.requires (filled_most _ _ _ (sym c.pages_filled.ensures ∙ c.if-not-pages_filled.false));
}

pub returns-clause-exact : goal.returns-clause-exact
unfolding level_row row_length last_count count_of used_end
returns-clause-exact c = c.in_room.ensures.exact ∙ sym (level_kept _ _ _ _ _ _ c.requires (sym c.pages_filled.ensures ∙ c.if-not-pages_filled.false))

pub returns-clause-counted : goal.returns-clause-counted
unfolding level_row row_length last_count count_of
returns-clause-counted c =
    let a = c.args in
    rw (← level_counts_lem a.words.now a.own.start a.own.room a.own.pages a.fenced a.below c.requires (sym c.pages_filled.ensures ∙ c.if-not-pages_filled.false))
    c.in_room.ensures.counted
