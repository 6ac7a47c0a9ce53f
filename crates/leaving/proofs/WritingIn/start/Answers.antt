-- `start` skips to the first own entry; all of the writing comes from there on. Assumes nothing.
use Rattle.leaving.specs.Along.{along_begins}
use Rattle.leaving.proofs.WritingIn.start.Goals as goal

pub returns-clause-along : goal.returns-clause-along
returns-clause-along c = along_begins _ _ _ _ c.least_pair.ensures c.skip_to.ensures.told c.skip_to.ensures.standing
