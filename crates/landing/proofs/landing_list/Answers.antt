-- `landing_list` gives the reply to what `index::list` answers, and the words that it leaves. Assumes nothing.
use mathlib.Core.Path.{◌∙◌}
use Rattle.landing.specs.Numbers.{beside}
use borrow.Author.Rules.{rules}
use Rattle.landing.proofs.landing_list.Goals as goal

pub returns : goal.returns
returns c =
    beside c.list.new.out c.list_reply-listed.ensures ∙ rw (c.pair_of-first.ensures, c.pair_of-second.ensures) at c.list.ensures
