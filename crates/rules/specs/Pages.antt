-- Laws of the number of pages that slots take. Assumes nothing.
use Rattle.std.specs.Prelude.{ℕ, ◌*◌, ◌≤◌, ◌<◌}
use Rattle.std.proofs.Common.{arith}
use Rattle.rules.specs.Level.{pages_for}

-- As many as the slots need, and one at least.
pub pages_some : (n : ℕ) → 1 ≤ pages_for n
unfolding pages_for
pages_some n = omega arith

pub pages_inside : (n q : ℕ) → 1 ≤ q → q < pages_for n → 21 * q < n
unfolding pages_for
pages_inside n q h b = omega arith

pub pages_reach : (n q : ℕ) → 21 * q < n → q < pages_for n
unfolding pages_for
pages_reach n q h = omega arith
