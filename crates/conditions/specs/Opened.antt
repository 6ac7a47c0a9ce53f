-- The opening tests on the first words of a store that is the writing of a good state, whatever stands behind it, and the lines of a why there. Assumes nothing.
use Rattle.std.specs.Prelude.{ℕ, ◌≤◌, ◌<◌, ◌≡◌, refl, ◌≢◌, Bool, true, false, List, ◌++◌, length, get_or, take, drop, leb}
use Rattle.std.proofs.Common.{arith, sym, ◌∙◌, length-take-le, take_at, drop_at, get_or-take, le-leb, eq-eqb, ne_eqb, leb-true}
use Rattle.std.proofs.Math.ListN.{get_or-append}
use Rattle.geometry.specs.declared.Geometry.{Geometry}
use Rattle.geometry.specs.Geometry.{InRange}
use Rattle.geometry.specs.Bounds.{range_tested}
use Rattle.geometry.specs.Places.{store_words, plan_of, directory_words}
use Rattle.geometry.specs.Lent.{lent}
use Rattle.slot.specs.declared.Pair.{Pair}
use Rattle.rules.specs.Finding.{held}
use Rattle.rules.specs.Merging.{State}
use Rattle.rules.specs.Store.{writing}
use Rattle.geometry.specs.Directory.{geometry_of}
use Rattle.rules.specs.Good.{Good}
use Rattle.walk.specs.Trail.{trail}
use Rattle.finding.specs.Asked.{decider}
use Rattle.promises.specs.Written.{good_length, good_geometry, good_walks}
use Rattle.opening.specs.Opening.{opening, too_short, wrong_length, all_pass}
use Rattle.call_why.specs.Why.{why_lines}
use Rattle.trails.proofs.Decides.{found_lines}

module _ (g : Geometry) (fit : InRange g) (s : State) (good : Good g s) where
  abbrev w : List ℕ
  w = writing g s

  nine : directory_words ≤ length w
  nine = (lent g (plan_of g) w fit refl (good_length g s fit good)).nine

  -- A store lent in its exact length passes.
  pub opens : opening w ≡ 0
  opens =
      let stored = good_geometry g s fit good in
      all_pass w (le-leb directory_words (length w) nine) (rw stored (range_tested g fit)) (rw stored (eq-eqb (length w) (store_words g) (good_length g s fit good)))

  -- The lines of a why on it are the trail of its walk.
  pub why_lines_written : (p : Pair) → why_lines w p ≡ trail g w p
  unfolding why_lines
  why_lines_written p =
      rw (opens, good_geometry g s fit good) (found_lines g w p (held p s.tree) (decider p s.tree) (good_walks g s fit good p))

  -- With more words behind it.
  module _ (rest : List ℕ) where
    pub whole_lent : take (store_words g) (w ++ rest) ≡ w
    whole_lent = take_at w rest (store_words g) (good_length g s fit good)

    pub rest_stays : drop (store_words g) (w ++ rest) ≡ rest
    rest_stays = drop_at w rest (store_words g) (good_length g s fit good)

    -- Lent in any other length it is refused: too short for its geometry to be read, or of a wrong length for it.
    module _ (n : ℕ) (there : n ≤ length (w ++ rest)) (other : n ≢ store_words g) where
      abbrev v : List ℕ
      v = take n (w ++ rest)

      as_long : length v ≡ n
      as_long = length-take-le n (w ++ rest) there

      word_read : (i : ℕ) → i < n → i < directory_words → get_or v i 0 ≡ get_or w i 0
      word_read i h k =
          get_or-take n (w ++ rest) i 0 h ∙ get_or-append w rest 0 i (omega (arith, k, nine))

      geometry_read : directory_words ≤ n → geometry_of v ≡ g
      unfolding geometry_of
      geometry_read h =
          (λ i. record {
            head = word_read 0 (omega (arith, h)) (omega arith) i;
            ratio = word_read 1 (omega (arith, h)) (omega arith) i;
            levels = word_read 2 (omega (arith, h)) (omega arith) i;
          }) ∙
          good_geometry g s fit good

      pub other_refused : opening v ≡ 5
      other_refused = by_words (leb directory_words (length v)) refl
        where
          by_words : (b : Bool) → leb directory_words (length v) ≡ b → opening v ≡ 5
          by_words false h = too_short v h
          by_words true h =
              let read : geometry_of v ≡ g = geometry_read (omega (arith, as_long, leb-true directory_words (length v) h)) in
              wrong_length v h (rw read (range_tested g fit)) (rw read (ne_eqb (length v) (store_words g) (λ q. other (sym as_long ∙ q))))
