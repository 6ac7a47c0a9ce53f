-- `level_writing` gives the writing that a level should be. Assumes nothing.
use native.Mathlib.Numerals.{add-one}
use Rattle.geometry.specs.Directory.{level_place}
use Rattle.astray.specs.Places.{level_writing}
use Rattle.astray.proofs.level_writing.Goals as goal

pub returns : goal.returns
unfolding level_writing level_place
returns c = rw (c.level_run.ensures, c.level_place.ensures, c.level_place-2.ensures, add-one)
