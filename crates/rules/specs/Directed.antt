-- Laws of a right directory: live is at most M, each level has 1..Pg pages and a level that does not exist none, and the mode is an open
-- store's. Assumes nothing.
use Rattle.std.specs.Prelude.{ℕ, zero, suc, ◌≤◌, ◌<◌, ◌≡◌, refl, Bool, true, false, ◌&&◌, List, [], ◌∷◌, get_or, leb, eqb}
use Rattle.std.proofs.Common.{arith}
use borrow.Author.Tests.{lt-ltb, le-ltb, leb-true, leb-false, eqb-true}
use Rattle.laws.specs.Tests.{and_left, and_right, and_three}
use Rattle.laws.specs.Lists.{all}
use Rattle.laws.specs.Flat.{all_first, all_rest}
use Rattle.geometry.specs.declared.Geometry.{Geometry}
use Rattle.geometry.specs.Geometry.{most, room}
use Rattle.geometry.specs.Places.{live_word, pages_word, mode_word, open_mode}
use Rattle.geometry.specs.Directory.{pages_of, pages_of_lem, pages_none}
use Rattle.rules.specs.Sound.{pages_right, directory_right}

module _ (g : Geometry) (w : List ℕ) (right : directory_right g w ≡ true) where
  three_tests : (leb (get_or w live_word 0) (most g) ≡ true) × (all (pages_right g w) (1 ∷ 2 ∷ 3 ∷ []) ≡ true) × (eqb (get_or w mode_word 0) open_mode ≡ true)
  unfolding directory_right
  three_tests = and_three (leb (get_or w live_word 0) (most g)) (all (pages_right g w) (1 ∷ 2 ∷ 3 ∷ [])) (eqb (get_or w mode_word 0) open_mode) right

  pub live_most : get_or w live_word 0 ≤ most g
  live_most = leb-true _ _ three_tests.0

  pub mode_open : get_or w mode_word 0 ≡ open_mode
  mode_open = eqb-true _ _ three_tests.2

  pages_right_lem : (i : ℕ) → 1 ≤ i → i ≤ 3 → pages_right g w i ≡ true
  pages_right_lem zero l u = absurd (omega arith)
  pages_right_lem (suc zero) l u = all_first (pages_right g w) 1 (2 ∷ 3 ∷ []) three_tests.1
  pages_right_lem (suc (suc zero)) l u = all_first (pages_right g w) 2 (3 ∷ []) (all_rest (pages_right g w) 1 (2 ∷ 3 ∷ []) three_tests.1)
  pages_right_lem (suc (suc (suc zero))) l u =
      all_first (pages_right g w) 3 [] (all_rest (pages_right g w) 2 (3 ∷ []) (all_rest (pages_right g w) 1 (2 ∷ 3 ∷ []) three_tests.1))
  pages_right_lem (suc (suc (suc (suc i)))) l u = absurd (omega arith)

  module _ (i : ℕ) (lower : 1 ≤ i) (four : i ≤ 3) where
    counted : i < g.levels → (leb 1 (pages_of g w i) && leb (pages_of g w i) (room g i)) ≡ true
    unfolding pages_right
    counted h = rw (pages_of_lem g w i h) (rw (lt-ltb i g.levels h, pages_right) at (pages_right_lem i lower four))

    pub pages_least : i < g.levels → 1 ≤ pages_of g w i
    pages_least h = leb-true 1 (pages_of g w i) (and_left (leb 1 (pages_of g w i)) (leb (pages_of g w i) (room g i)) (counted h))

    pub pages_most : i < g.levels → pages_of g w i ≤ room g i
    pages_most h = leb-true (pages_of g w i) (room g i) (and_right (leb 1 (pages_of g w i)) (leb (pages_of g w i) (room g i)) (counted h))

    pub no_count : g.levels ≤ i → get_or w (pages_word i) 0 ≡ 0
    unfolding pages_right
    no_count h = eqb-true _ _ (rw (le-ltb i g.levels h, pages_right) at (pages_right_lem i lower four))

    -- Whether the level exists or not.
    pub pages_fit : pages_of g w i ≤ room g i
    pages_fit = by (leb g.levels i) refl
      where
        by : (b : Bool) → leb g.levels i ≡ b → pages_of g w i ≤ room g i
        by true e = omega (arith, pages_none g w i (leb-true _ _ e))
        by false e = pages_most (leb-false _ _ e)
