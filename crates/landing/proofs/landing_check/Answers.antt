-- `landing_check` gives the reply to what `index::check` answers. Assumes nothing.
use mathlib.Core.Path.{◌∙◌}
use borrow.Author.Rules.{rules}
use Rattle.landing.proofs.landing_check.Goals as goal

pub returns : goal.returns
returns c = c.check_reply-checked.ensures ∙ c.check.ensures
