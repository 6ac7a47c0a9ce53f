-- What is read from a text, or the number of its first faulty line.
use Rattle.std.specs.Prelude.{ℕ}

pub data Judged (A : Type 0) : Type 0 where
  faulty : ℕ → Judged A
  good : A → Judged A
