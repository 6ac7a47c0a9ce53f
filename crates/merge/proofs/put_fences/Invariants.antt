use mathlib.Core.Path.{◌≡◌, refl}
use Rattle.layout.specs.Words.{first_pair}
use Prim.Native.Nat.{◌-◌}
use Rattle.merge.specs.Head.{Fencing, fences_begin, fences_go_on, fence_page}
use borrow.Author.Rules.{rules}
use native.Mathlib.Omega.{arith}
use Rattle.merge.proofs.put_fences.Given as goal

abbrev pub invariant-loop-p : goal.invariant-loop-p
invariant-loop-p l = Fencing l.initial.store l.below l.pages l.store l.p
