-- `edit_head` edits the head and live, from what `toggle_entry` and `live_after` ensure. Assumes nothing.
use Rattle.change.specs.Change.{edited_behind}
use borrow.Author.Rules.{rules}
use Rattle.change.proofs.edit_head.Goals as goal

pub returns : goal.returns
unfolding edited_behind
returns c = rw (c.toggle_entry.ensures, c.live_after-live.ensures)
