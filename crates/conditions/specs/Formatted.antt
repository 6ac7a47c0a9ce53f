-- A format of any words with room for the store: the empty set stands in them. Assumes nothing.
use Rattle.std.specs.Prelude.{ℕ, ◌≤◌, ◌≡◌, List, [], ◌∷◌, ◌++◌, take, drop}
use Rattle.std.proofs.Common.{arith, ◌∙◌, length-take-le, eq-eqb}
use Rattle.std.proofs.Math.Path.{refl, ap}
use Rattle.std.proofs.Math.ListN.{length, length-append, length-drop}
use Rattle.geometry.specs.declared.Geometry.{Geometry}
use Rattle.geometry.specs.Geometry.{InRange}
use Rattle.geometry.specs.Places.{store_words}
use Rattle.geometry.specs.Bounds.{range_tested}
use Rattle.rules.specs.Merging.{formatted}
use Rattle.rules.specs.Store.{empty_store}
use Rattle.good.specs.Format.{formatted_good}
use Rattle.promises.specs.Written.{good_length}
use Rattle.call_format.specs.Format.{format_done_lem}
use Rattle.conditions.specs.Calls.{formatting, Call, comes_to, Made, make}
use Rattle.conditions.specs.Stands.{Stands, empty_stands}

-- A format that is lent the store's exact length.
abbrev pub format_call : Geometry → Call
format_call g = record { lent = store_words g; task = formatting g }

module _ (g : Geometry) (fit : InRange g) (before : List ℕ) (room : store_words g ≤ length before) where
  pub format_makes : make (format_call g) before ≡
      record { task = formatting g; reply = record { number = 0; values = 0 ∷ [] }; words = empty_store g ++ drop (store_words g) before; beside = [] }
  unfolding make comes_to
  format_makes =
      rw
      (← (format_done_lem (take (store_words g) before) g (range_tested g fit)
      (eq-eqb (length (take (store_words g) before)) (store_words g) (length-take-le (store_words g) before room))))
      refl

  pub format_stands : Stands g (formatted g) [] (make (format_call g) before).words
  format_stands = rw format_makes (empty_stands g fit (drop (store_words g) before))

  pub format_long : length (make (format_call g) before).words ≡ length before
  unfolding empty_store
  format_long =
      ap (λ (m : Made). length m.words) format_makes ∙ length-append (empty_store g) (drop (store_words g) before) ∙
      omega (arith, room, length-drop (store_words g) before, good_length g (formatted g) fit (formatted_good g fit))
