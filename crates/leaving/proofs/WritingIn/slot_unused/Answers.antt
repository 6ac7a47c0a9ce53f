-- `slot_unused` looks at the words of a slot's place. Assumes nothing.
use mathlib.Core.Path.{◌∙◌}
use Rattle.leaving.proofs.Unused.{slot_blank}
use Rattle.leaving.proofs.WritingIn.slot_unused.Goals as goal

pub returns : goal.returns
returns c = c.unused.ensures ∙ rw c.place_of-place.ensures.exact (slot_blank c.args.self.now.words.now _)
