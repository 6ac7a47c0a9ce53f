-- `source_over` gives a level's source, from the place of the level below. Assumes nothing.
use Rattle.merge.specs.Source.{source_told}
use Rattle.merge.proofs.source_over.Goals as goal

pub returns : goal.returns
returns c =
    let a = c.args in
    source_told a.store.now.geometry a.store.now.words.now a.level a.upper a.lower c.requires.1 c.level_place-below.ensures
