-- `is_wanted` tells whether a slot is the one that the writing has at a position, from what `wanted` gives and `same_slot` tells. Assumes nothing.
use mathlib.Core.Path.{sym, ◌∙◌}
use Rattle.written.specs.Position.{something_left}
use Rattle.written.proofs.RowIn.is_wanted.Goals as goal

pub wanted-requires : goal.wanted-requires
wanted-requires c = something_left c.args.self.now.words.now _ _ _ (sym c.nothing_left.ensures ∙ c.if-not-nothing_left.true)
