-- `landing_put` gives the reply to what `index::put` answers, and the words that it leaves. Assumes nothing.
use mathlib.Core.Path.{◌∙◌}
use Rattle.landing.specs.Numbers.{beside_both}
use borrow.Author.Rules.{rules}
use Rattle.landing.proofs.landing_put.Goals as goal

pub returns : goal.returns
returns c =
    beside_both c.put.new.store c.put.new.work c.edit_reply-changed.ensures ∙ rw c.pair_of.ensures at c.put.ensures
