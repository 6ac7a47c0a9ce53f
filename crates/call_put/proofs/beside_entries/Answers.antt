-- `beside_entries` gives the numbers of two arrays. Assumes nothing.
use Prim.Native.Nat.{ℕ}
use mathlib.Core.Path.{◌≡◌, ap}
use mathlib.Core.List.{List, [], ◌∷◌, ◌++◌}
use lib.ListN.{length, get_or}
use native.Mathlib.Omega.{arith}
use Rattle.laws.specs.Lists.{four_words}
use Rattle.opening.specs.Reply.{replied}
use Rattle.call_put.proofs.beside_entries.Goals as goal

three_words : (v l : List ℕ) → length v ≡ 3 → get_or v 0 0 ∷ get_or v 1 0 ∷ get_or v 2 0 ∷ l ≡ v ++ l
three_words (a ∷ b ∷ c ∷ []) l e = cc
three_words [] l e = absurd (omega arith)
three_words (a ∷ []) l e = absurd (omega arith)
three_words (a ∷ b ∷ []) l e = absurd (omega arith)
three_words (a ∷ b ∷ c ∷ d ∷ v) l e = absurd (omega arith)

pub returns : goal.returns
returns c =
    let a = c.args in
    rw (four_words a.entries (omega arith)) (ap (λ (l : List ℕ). replied a.told.number l) (three_words a.told.values a.entries (omega arith)))
