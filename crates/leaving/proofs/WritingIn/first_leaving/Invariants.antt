-- `first_leaving` finds the first slot that does not stand. The loop's invariant: `Search` at slot n (specs/Search.antt). Assumes nothing.
use Rattle.leaving.specs.Search.{Search}
use Rattle.leaving.proofs.WritingIn.first_leaving.Given as goal

abbrev pub invariant-loop-n : goal.invariant-loop-n
invariant-loop-n l = Search l.self.words.now l.self.writing l.n l.coming.spot l.coming.fence
