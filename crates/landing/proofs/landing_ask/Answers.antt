-- `landing_ask` gives the reply to what `index::ask` answers. Assumes nothing.
use mathlib.Core.Path.{◌∙◌}
use borrow.Author.Rules.{rules}
use Rattle.landing.proofs.landing_ask.Goals as goal

pub returns : goal.returns
returns c = c.ask_reply-asked.ensures ∙ rw c.pair_of.ensures at c.ask.ensures
