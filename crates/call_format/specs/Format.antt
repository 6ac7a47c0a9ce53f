-- Format on any words: the paper's numbers for what src/lib.rt answers, with every word of the store afterwards, as a total function of the
-- store's words and the geometry given. Assumes nothing.
use Rattle.std.specs.Prelude.{ℕ, zero, suc, ◌≡◌, true, false, List, [], ◌∷◌, length, eqb, Result, ⊤, Ok, Err}
use Rattle.geometry.specs.declared.Geometry.{Geometry}
use Rattle.geometry.specs.Geometry.{in_range}
use Rattle.geometry.specs.Places.{store_words}
use Rattle.rules.specs.Store.{empty_store}
use Rattle.opening.specs.declared.Unopened.{Unopened}
use Rattle.opening.specs.declared.Unopened.TheVariants.{Range, Length}
use Rattle.opening.specs.Reply.{Reply, replied, Filled, filled, Test, test, first_failing}

-- Format returns zeros.
abbrev pub formatted_reply : Result ⊤ Unopened → Reply
formatted_reply (Ok tt) = replied 0 (0 ∷ [])
formatted_reply (Err Range) = replied 1 (0 ∷ [])
formatted_reply (Err Length) = replied 5 (0 ∷ [])

abbrev pub format_reply : Result ⊤ Unopened → List ℕ → Filled
format_reply formatted words = record { reply = formatted_reply formatted; words = words }

-- The numbers given are tested before any length.
unfoldable pub format_tests : List ℕ → Geometry → List Test
format_tests w g = test (in_range g) 1 ∷ test (eqb (length w) (store_words g)) 5 ∷ []

-- The store of the empty set; a refusal leaves the store as it was.
abbrev pub format_after : ℕ → List ℕ → Geometry → Filled
format_after zero w g = filled 0 (0 ∷ []) (empty_store g)
format_after (suc n) w g = filled (suc n) (0 ∷ []) w

unfoldable pub format_of : List ℕ → Geometry → Filled
format_of w g = format_after (first_failing (format_tests w g)) w g

-- The reply by the first test that fails.
module _ (w : List ℕ) (g : Geometry) where
  pub format_range : in_range g ≡ false → filled 1 (0 ∷ []) w ≡ format_of w g
  unfolding format_of format_tests first_failing
  format_range e = rw (e, first_failing)

  pub format_length : in_range g ≡ true → eqb (length w) (store_words g) ≡ false → filled 5 (0 ∷ []) w ≡ format_of w g
  unfolding format_of format_tests first_failing
  format_length f e = rw (f, e, first_failing)

  pub format_done_lem : in_range g ≡ true → eqb (length w) (store_words g) ≡ true → filled 0 (0 ∷ []) (empty_store g) ≡ format_of w g
  unfolding format_of format_tests first_failing
  format_done_lem f e = rw (f, e, first_failing)
