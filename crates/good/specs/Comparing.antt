-- Pairs compared three ways. Assumes nothing.
use Rattle.std.specs.Prelude.{◌≤◌, ◌<◌, ◌≡◌, refl, Bool, true, false}
use Rattle.std.proofs.Common.{arith}
use Rattle.slot.specs.declared.Pair.{Pair}
use Rattle.slot.specs.Pair.{rank, before, same}
use Rattle.slot.specs.Order.{not_before_above, below_before, not_same_apart}

-- Of two pairs one comes before the other, or they are the same.
pub data Compared (a b : Pair) : Type 0 where
  earlier : before a b ≡ true → Compared a b
  equal : same a b ≡ true → Compared a b
  later : before b a ≡ true → Compared a b

pub compared : (a b : Pair) → Compared a b
compared a b = first (before a b) refl
  where
    then : before a b ≡ false → (s : Bool) → same a b ≡ s → Compared a b
    then n true s = equal s
    then n false s = later (below_before b a (apart (not_before_above a b n) (not_same_apart a b s)))
      where
        apart : rank b ≤ rank a → (rank a ≡ rank b → ⊥) → rank b < rank a
        apart h d = let k : ¬ (rank a ≡ rank b) = d in omega arith

    first : (t : Bool) → before a b ≡ t → Compared a b
    first true t = earlier t
    first false t = then t (same a b) refl
