-- `copy_in` copies word by word: what is left to copy goes to the same words. Assumes nothing.
use Rattle.words.specs.Storing.{Copying}
use Rattle.words.proofs.copy_in.Given as goal

abbrev pub invariant-loop-j : goal.invariant-loop-j
invariant-loop-j l = Copying l.initial.words l.place l.from l.n l.words l.j
