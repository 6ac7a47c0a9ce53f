-- The tests that come before all others, of any call on a store that is there, and of those that take a work area too. Assumes nothing.
use Rattle.std.specs.Prelude.{ℕ, suc, ◌≡◌, Bool, true, false, List, [], ◌∷◌, ◌++◌, length, leb, eqb, Result, Ok, Err, IsErrAnd}
use Rattle.std.proofs.Common.{arith, sym, ap, ◌∙◌, eqb-true, eq-eqb, ne_eqb}
use Rattle.std.proofs.Math.Path.{refl}
use Rattle.laws.specs.Lists.{all}
use Rattle.geometry.specs.declared.Plan.{Plan}
use Rattle.geometry.specs.declared.Store.{Store}
use Rattle.geometry.specs.Geometry.{in_range, InRange}
use Rattle.geometry.specs.Bounds.{in_range_lem}
use Rattle.geometry.specs.Places.{directory_words, store_words, work_words, plan_of}
use Rattle.geometry.specs.Lent.{Lent}
use Rattle.geometry.specs.Directory.{geometry_of}
use Rattle.opening.specs.declared.Unopened.{Unopened}
use Rattle.opening.specs.declared.Unopened.TheVariants.{Range, Length}
use Rattle.opening.specs.Refused.{error_told}
use Rattle.opening.specs.Reply.{Test, test, first_failing, by_first, first_of_both}

-- A stored geometry is read only if the store has 9 words; shorter is 5. Then 1 for its ranges, and 5 for the exact length.
unfoldable pub open_tests : List ℕ → List Test
open_tests w = test (leb directory_words (length w)) 5 ∷ test (in_range (geometry_of w)) 1 ∷ test (eqb (length w) (store_words (geometry_of w))) 5 ∷ []

unfoldable pub opening : List ℕ → ℕ
opening w = first_failing (open_tests w)

-- What opening a store gives: the words with the stored geometry where every test passes, or the number of the first that fails.
abbrev pub Opens : List ℕ → Result Store Unopened → Type 0
Opens w (Ok s) = (opening w ≡ 0) × (s.geometry ≡ geometry_of w) × (s.words.now ≡ w)
Opens w (Err Range) = opening w ≡ 1
Opens w (Err Length) = opening w ≡ 5

-- The reply by the first test that fails.
module _ (w : List ℕ) where
  pub too_short : leb directory_words (length w) ≡ false → opening w ≡ 5
  unfolding opening open_tests first_failing
  too_short e = rw (e, first_failing)

  pub out_of_range : leb directory_words (length w) ≡ true → in_range (geometry_of w) ≡ false → opening w ≡ 1
  unfolding opening open_tests first_failing
  out_of_range n e = rw (n, e, first_failing)

  pub wrong_length : leb directory_words (length w) ≡ true → in_range (geometry_of w) ≡ true → eqb (length w) (store_words (geometry_of w)) ≡ false → opening w ≡ 5
  unfolding opening open_tests first_failing
  wrong_length n f e = rw (n, f, e, first_failing)

  pub all_pass : leb directory_words (length w) ≡ true → in_range (geometry_of w) ≡ true → eqb (length w) (store_words (geometry_of w)) ≡ true → opening w ≡ 0
  unfolding opening open_tests first_failing
  all_pass n f e = rw (n, f, e, first_failing)

-- The opening tests pass: the geometry is in range, the length exact.
module _ (w : List ℕ) (opened : opening w ≡ 0) where
  opened_tests : (in_range (geometry_of w) ≡ true) × (eqb (length w) (store_words (geometry_of w)) ≡ true)
  opened_tests = by (leb directory_words (length w)) refl (in_range (geometry_of w)) refl (eqb (length w) (store_words (geometry_of w))) refl
    where
      by : (a : Bool) → leb directory_words (length w) ≡ a → (b : Bool) → in_range (geometry_of w) ≡ b → (c : Bool) →
          eqb (length w) (store_words (geometry_of w)) ≡ c → (b ≡ true) × (c ≡ true)
      by false p b q c r = absurd (omega (arith, opened, too_short w p))
      by true p false q c r = absurd (omega (arith, opened, out_of_range w p q))
      by true p true q false r = absurd (omega (arith, opened, wrong_length w p q r))
      by true p true q true r = (refl, refl)

  pub opened_range : InRange (geometry_of w)
  opened_range = in_range_lem (geometry_of w) opened_tests.0

  pub opened_length : length w ≡ store_words (geometry_of w)
  opened_length = eqb-true (length w) (store_words (geometry_of w)) opened_tests.1

-- So a store that is open has a geometry in range, and is lent with its plan.
module _ (s : Store) (w : List ℕ) (o : Opens w (Ok s)) where
  pub open_range : InRange s.geometry
  open_range = rw o.1 (opened_range w o.0)

  pub open_lent : Lent s.geometry s.plan w
  open_lent = rw o.2 at s.lent

-- With a work area ---------------------------------------------------------------------------------------------------------------------------

-- The opening tests of any call, and then the work area's exact length.
unfoldable pub both_tests : List ℕ → List ℕ → List Test
both_tests w work = open_tests w ++ test (eqb (length work) (work_words (geometry_of w))) 5 ∷ []

unfoldable pub opening_both : List ℕ → List ℕ → ℕ
opening_both w work = first_failing (both_tests w work)

abbrev pub OpensBoth : List ℕ → List ℕ → Result Store Unopened → Type 0
OpensBoth w work (Ok s) = (opening_both w work ≡ 0) × (length work ≡ work_words s.geometry) × Opens w (Ok s)
OpensBoth w work (Err Range) = opening_both w work ≡ 1
OpensBoth w work (Err Length) = opening_both w work ≡ 5

-- The store's tests decide first, and then the work area's length.
module _ (w work : List ℕ) where
  both_first : opening_both w work ≡ by_first (opening w) (first_failing (test (eqb (length work) (work_words (geometry_of w))) 5 ∷ [])) (λ n. n)
  unfolding opening_both both_tests opening open_tests all
  both_first = first_of_both (open_tests w) (test (eqb (length work) (work_words (geometry_of w))) 5 ∷ []) refl

  pub both_refused : (n : ℕ) → opening w ≡ suc n → opening_both w work ≡ suc n
  both_refused n e = rw (both_first, e)

  module _ (e : opening w ≡ 0) where
    pub both_short : eqb (length work) (work_words (geometry_of w)) ≡ false → opening_both w work ≡ 5
    unfolding first_failing
    both_short q = rw (both_first, e, q, first_failing)

    pub both_pass : eqb (length work) (work_words (geometry_of w)) ≡ true → opening_both w work ≡ 0
    unfolding first_failing
    both_pass q = rw (both_first, e, q, first_failing)

  -- By the plan of the store's geometry.
  module _ (s : Store) (o : Opens w (Ok s)) where
    planned_words : s.plan.work_words ≡ work_words s.geometry
    unfolding plan_of
    planned_words = ap (λ (p : Plan). p.work_words) s.lent.planned

    work_words_lem : s.plan.work_words ≡ work_words (geometry_of w)
    work_words_lem = planned_words ∙ ap work_words o.1

    pub both_wrong : (length work ≡ s.plan.work_words → ⊥) → opening_both w work ≡ 5
    both_wrong n = both_short o.0 (ne_eqb (length work) (work_words (geometry_of w)) (λ x. n (x ∙ sym work_words_lem)))

    pub both_open : length work ≡ s.plan.work_words → OpensBoth w work (Ok s)
    both_open n = (both_pass o.0 (eq-eqb (length work) (work_words (geometry_of w)) (n ∙ work_words_lem)), n ∙ planned_words, o)

  -- By what the code's steps came to: the words are no store.
  pub both_unopened : (why : Unopened) (told : Result Store Unopened) → Opens w (Err why) → IsErrAnd told (λ x. x ≡ why) → OpensBoth w work told
  both_unopened Range told o e = rw (error_told told e) (both_refused 0 o)
  both_unopened Length told o e = rw (error_told told e) (both_refused 4 o)
