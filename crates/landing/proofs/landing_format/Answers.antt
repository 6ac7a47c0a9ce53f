-- `landing_format` gives the reply to what `index::format` answers, and the words that it leaves. Assumes nothing.
use mathlib.Core.Path.{◌∙◌}
use Rattle.landing.specs.Numbers.{beside}
use borrow.Author.Rules.{rules}
use Rattle.landing.proofs.landing_format.Goals as goal

pub returns : goal.returns
returns c =
    beside c.format.new.store c.format_reply.ensures ∙ rw c.geometry_from.ensures at c.format.ensures
