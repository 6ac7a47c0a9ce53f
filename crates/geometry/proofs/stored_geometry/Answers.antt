-- `stored_geometry` reads the directory's first three words. Assumes nothing.
use Rattle.geometry.specs.Directory.{geometry_of}
use borrow.Author.Rules.{rules}
use Rattle.geometry.proofs.stored_geometry.Goals as goal

pub returns : goal.returns
unfolding geometry_of
returns c = search rules
