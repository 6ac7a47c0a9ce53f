-- `landing_drop` gives the reply to what `index::drop` answers, and the words that it leaves. Assumes nothing.
use mathlib.Core.Path.{◌∙◌}
use Rattle.landing.specs.Numbers.{beside_both}
use borrow.Author.Rules.{rules}
use Rattle.landing.proofs.landing_drop.Goals as goal

pub returns : goal.returns
returns c =
    beside_both c.drop.new.store c.drop.new.work c.edit_reply-dropped.ensures ∙ rw c.pair_of.ensures at c.drop.ensures
