-- What the clauses of src/lib.rt cite: the numbers that a host hands over as a pair or a geometry, and the number and values that it gets as a
-- reply. Assumes nothing.
use Rattle.std.specs.Prelude.{ℕ, ◌≡◌, true, false, cond, List}
use Rattle.std.proofs.Common.{ap}
use Rattle.geometry.specs.declared.Geometry.{Geometry}
use Rattle.geometry.specs.Geometry.{in_range}
use Rattle.slot.specs.declared.Pair.{Pair}
use Rattle.opening.specs.Reply.{Reply, Filled}
use Rattle.call_put.specs.Edit.{Kept}

abbrev pub pair_of : ℕ → ℕ → Pair
pair_of badge floor = record { badge = badge; floor = record { 0 = floor } }

abbrev pub geometry_from : ℕ → ℕ → ℕ → Geometry
geometry_from h k l = record { head = h; ratio = k; levels = l }

-- A number of words that a geometry fixes, 0 outside the ranges.
unfoldable pub words_for : (Geometry → ℕ) → Geometry → ℕ
words_for words g = cond (in_range g) (words g) 0

-- By the test of the ranges.
module _ (words : Geometry → ℕ) (g : Geometry) where
  pub no_words : in_range g ≡ false → 0 ≡ words_for words g
  unfolding words_for
  no_words e = rw e

  pub its_words : in_range g ≡ true → words g ≡ words_for words g
  unfolding words_for
  its_words e = rw e

-- Equal replies are equal beside the same words.
pub beside : {x y : Reply} (words : List ℕ) → x ≡ y → ◌≡◌ {A = Filled} (record { reply = x; words = words }) (record { reply = y; words = words })
beside words e = ap (λ (x : Reply). record { reply = x; words = words }) e

pub beside_both : {x y : Reply} (store work : List ℕ) → x ≡ y →
    ◌≡◌ {A = Kept} (record { reply = x; store = store; work = work }) (record { reply = y; store = store; work = work })
beside_both store work e = ap (λ (x : Reply). record { reply = x; store = store; work = work }) e
