-- `same_slot` tells whether two slots have one badge, floor, kind and page number, by the derived equality. Assumes nothing.
use mathlib.Core.Path.{◌∙◌}
use Rattle.written.proofs.Same.{slots_same}
use Rattle.written.proofs.same_slot.Goals as goal

pub returns : goal.returns
returns c = c.eq.ensures ∙ slots_same c.args.a c.args.b
