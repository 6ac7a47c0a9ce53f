-- `place_of` is the place of a slot of a page, which lies inside the words. Assumes nothing.
use Rattle.leaving.specs.Along.{slot_inside}
use Rattle.leaving.specs.Stands.{place_of}
use Rattle.leaving.proofs.WritingIn.place_of.Goals as goal

pub returns-clause-inside : goal.returns-clause-inside
unfolding place_of
returns-clause-inside c = rw c.place_in.ensures (slot_inside _ _ c.args.self.now.within _ c.requires)
