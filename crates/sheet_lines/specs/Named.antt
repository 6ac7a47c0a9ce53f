-- The line of a call and of a level, under the name that the code chose for it. Assumes nothing.
use Rattle.std.specs.Prelude.{ℕ, zero, suc, ◌+◌, ◌≤◌, ◌<◌, ◌≡◌, List, length}
use Rattle.std.proofs.Common.{arith}
use Rattle.printing.specs.Printed.{Printed}
use Rattle.printing.specs.Line.{line, line_two}
use Rattle.reading.specs.declared.Operation.{Operation}
use Rattle.reading.specs.declared.Operation.TheVariants.{Put, Drop, Ask}
use Rattle.sheet_lines.specs.Lines.{name_of, level_name}

module _ {w : List ℕ} {at : ℕ} {v : List ℕ} {end : ℕ} (n : ℕ) where
  pub call_named : (op named : Operation) → op ≡ named → n < 100 → length (name_of named) ≤ 5 → Printed w at (line (name_of named) n) v end →
      Printed w at (line (name_of op) n) v end × (end ≤ at + 8)
  call_named op named e small short p = (rw e p, omega (arith, p.ends, line_two (name_of named) n small))

  pub level_named : (level named : ℕ) → level ≡ named → Printed w at (line (level_name named) n) v end → Printed w at (line (level_name level) n) v end
  level_named level named e p = rw e p

-- No name of a call's line is longer than `drop=`.
pub name_short : (op : Operation) → length (name_of op) ≤ 5
name_short Put = omega arith
name_short Drop = omega arith
name_short Ask = omega arith

-- No name of a level's line is longer than `level1=`.
pub level_name_short : (level : ℕ) → length (level_name level) ≤ 7
level_name_short zero = omega arith
level_name_short (suc zero) = omega arith
level_name_short (suc (suc zero)) = omega arith
level_name_short (suc (suc (suc n))) = omega arith
