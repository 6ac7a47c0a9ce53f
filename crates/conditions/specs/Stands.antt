-- A set that stands in words: they begin with the writing of a good state that holds its pairs. Assumes nothing.
use Rattle.std.specs.Prelude.{ℕ, ◌≤◌, ◌≡◌, refl, List, [], ◌∷◌, ◌++◌, length, take}
use Rattle.std.proofs.Common.{arith}
use Rattle.geometry.specs.declared.Geometry.{Geometry}
use Rattle.geometry.specs.Geometry.{InRange, most}
use Rattle.geometry.specs.Places.{store_words}
use Rattle.geometry.specs.Bounds.{in_range_lem}
use Rattle.slot.specs.declared.Pair.{Pair}
use Rattle.rules.specs.Merging.{State, formatted}
use Rattle.rules.specs.Store.{writing, empty_store}
use Rattle.rules.specs.Requests.{run, final, RequestsFit}
use Rattle.promises.specs.Written.{good_geometry, good_sound}
use Rattle.promises.specs.Answers.{answers as answers-of-requests, set_after as set-after-requests}
use Rattle.promises.specs.Sets.{Holds}
use Rattle.promises.proofs.Sets.{run_holds}
use Rattle.call_check.specs.Check.{check_of, check_tested}
use Rattle.conditions.specs.Opened.{opens, whole_lent}

-- Words that begin with the writing of a good state, which holds the pairs of a set.
pub record Stands (g : Geometry) (s : State) (set : List Pair) (words : List ℕ) : Type 0 where
  pub in_range_lem : InRange g
  pub holds : Holds g s set
  pub rest : List ℕ
  pub written : words ≡ writing g s ++ rest

-- The empty set stands in a store that was formatted.
pub empty_stands : (g : Geometry) → InRange g → (rest : List ℕ) → Stands g (formatted g) [] (empty_store g ++ rest)
unfolding empty_store run final answers-of-requests set-after-requests RequestsFit
empty_stands g fit rest = record { in_range_lem = fit; holds = run_holds g fit [] tt; rest = rest; written = refl }

-- Of words where a set stands: the store, that it is sound, and that the set is no larger than the bottom level's capacity.
module _ (g : Geometry) (s : State) (set : List Pair) (words : List ℕ) (stands : Stands g s set words) where
  pub stands_first : take (store_words g) words ≡ writing g s
  stands_first = rw stands.written (whole_lent g stands.in_range_lem s stands.holds.good stands.rest)

  pub stands_sound : check_of (writing g s) ≡ record { number = 0; values = 0 ∷ 0 ∷ 0 ∷ [] }
  stands_sound =
      let good = stands.holds.good in
      let fit = stands.in_range_lem in
      rw (← (check_tested (writing g s) (opens g fit s good)), good_geometry g s fit good, good_sound g s fit good) refl

  pub stands_most : length set ≤ most g
  stands_most = omega (arith, stands.holds.size, stands.holds.good.few)
