-- Condition 3's allowance: the most pages that n accepted puts and drops may write. Assumes nothing.
use Rattle.std.specs.Prelude.{ℕ, zero, suc, ◌+◌, ◌*◌, ◌/◌}
use Rattle.geometry.specs.declared.Geometry.{Geometry}
use Rattle.geometry.specs.Geometry.{bottom, capacity}
use Rattle.geometry.specs.Places.{room_before}

-- For each lower level i, n divided by H × k^(i−1), rounded down, times Pg(1) + … + Pg(i); these added up.
unfoldable pub allowed_to : Geometry → ℕ → ℕ → ℕ
allowed_to g n zero = 0
allowed_to g n (suc i) = allowed_to g n i + n / capacity g i * room_before g (suc (suc i))

unfoldable pub allowed : Geometry → ℕ → ℕ
allowed g n = allowed_to g n (bottom g)
