-- `tell_chip` stores the words of the chip, and tells of the store that they are. Assumes nothing.
use Rattle.std.proofs.Common.{◌≡◌, ◌-◌, ◌/◌, length, arith}
use Rattle.printing.specs.Grown.{grown_as}
use Rattle.why_text.specs.Telling.{chip_told}
use Rattle.why_text.proofs.tell_chip.Goals as goal

pub returns-clause-grown : goal.returns-clause-grown
returns-clause-grown c =
    let a = c.args in
    let whole : length a.chip.now / 4 - 0 ≡ length a.chip.now / 4 = omega arith in
    grown_as (rw whole at (chip_told a.chip.now a.words.now a.pair (omega arith) _ c.fill_words.ensures)) c.tell_store.ensures.grown
