-- `erase` fills the part between the two places, of no words where the end comes first. Assumes nothing.
use Rattle.words.proofs.Parts.{part_erased}
use Rattle.words.proofs.erase.Goals as goal

pub returns : goal.returns
returns c =
    let a = c.args in
    part_erased a.words.now _ _ a.from a.to c.min.result c.min.ensures c.requires (c.fill.ensures.after (λ y e. e))
