-- The number of four bytes, the lowest first, and the geometry of three numbers. Assumes nothing.
use Rattle.std.specs.Prelude.{ℕ, ◌+◌, ◌*◌, ◌≤◌, ◌<◌, ◌≡◌, cond, List, leb, length, get_or}
use Rattle.std.proofs.Common.{le-leb}
use Rattle.std.proofs.lemmas.Bool.{lt-leb}
use Rattle.geometry.specs.declared.Geometry.{Geometry}

abbrev pub of_bytes : ℕ → ℕ → ℕ → ℕ → ℕ
of_bytes a b c d = a + 256 * b + 65536 * (c + 256 * d)

-- The number at a place, 0 where fewer than four bytes are left.
unfoldable pub word_at : List ℕ → ℕ → ℕ
word_at s at = cond (leb (at + 4) (length s)) (of_bytes (get_or s at 0) (get_or s (at + 1) 0) (get_or s (at + 2) 0) (get_or s (at + 3) 0)) 0

pub word_there : (s : List ℕ) (at : ℕ) → at + 4 ≤ length s → word_at s at ≡ of_bytes (get_or s at 0) (get_or s (at + 1) 0) (get_or s (at + 2) 0) (get_or s (at + 3) 0)
unfolding word_at
word_there s at h = rw (le-leb (at + 4) (length s) h)

pub word_past : (s : List ℕ) (at : ℕ) → length s < at + 4 → 0 ≡ word_at s at
unfolding word_at
word_past s at h = rw (lt-leb (at + 4) (length s) h)

-- The geometry of three numbers: the head's capacity, the ratio and the number of levels.
abbrev pub geometry_at : List ℕ → ℕ → Geometry
geometry_at s at = record { head = word_at s at; ratio = word_at s (at + 4); levels = word_at s (at + 8) }
