-- The store that the first call finds: it is formatted from zeros, and has no entries. Assumes nothing.
use Rattle.std.specs.Prelude.{ℕ, ◌<◌, ◌≡◌, refl, List, [], ◌∷◌, length, replicate, Result, ⊤}
use Rattle.std.proofs.Common.{arith, ◌∙◌, eq-eqb}
use Rattle.std.proofs.Math.Path.{sym, ap}
use Rattle.std.proofs.lemmas.List.{length-replicate}
use Rattle.laws.specs.Lists.{span}
use Rattle.geometry.specs.declared.Geometry.{Geometry}
use Rattle.geometry.specs.Geometry.{InRange}
use Rattle.geometry.specs.Bounds.{range_tested}
use Rattle.geometry.specs.Places.{live_word, store_words}
use Rattle.rules.specs.Merging.{entries, formatted}
use Rattle.rules.specs.Store.{directory, laid_out, writing, empty_store}
use Rattle.rules.specs.Sound.{tree_of}
use Rattle.geometry.specs.Directory.{geometry_of}
use Rattle.good.specs.Format.{formatted_levels, formatted_good}
use Rattle.promises.specs.Written.{good_tree}
use Rattle.opening.specs.Reply.{Filled}
use Rattle.opening.specs.declared.Unopened.{Unopened}
use Rattle.call_format.specs.Format.{format_reply, format_of, format_done_lem}
use Rattle.sheet_calls.specs.declared.Progress.{Progress}
use Rattle.sheet_calls.specs.Calls.{first_store}
use Rattle.sheet_calls.specs.Counts.{written_geometry}
use Rattle.sheet_calls.specs.Stepping.{Counted}

-- No call has been made on the store of a geometry.
pub record Begun (g : Geometry) (store : List ℕ) (progress : Progress) : Type 0 where
  pub formatted : store ≡ first_store g
  pub none_written : progress.pages ≡ 0
  pub counted : Counted progress store
  pub geometry : geometry_of store ≡ g
  pub long : live_word < length store

-- Formatting zeros gives the first store.
formats : (g : Geometry) (a : Result ⊤ Unopened) (w v : List ℕ) → w ≡ replicate (store_words g) 0 → format_reply a v ≡ format_of w g → v ≡ first_store g
unfolding first_store
formats g a w v z e = ap (λ (f : Filled). f.words) e ∙ ap (λ (l : List ℕ). (format_of l g).words) z

module _ (g : Geometry) (fit : InRange g) where
  -- The first store is that of the empty set, with geometry g.
  first_empty : first_store g ≡ empty_store g
  unfolding first_store
  first_empty =
      sym (ap (λ (f : Filled). f.words)
      (format_done_lem (replicate (store_words g) 0) g (range_tested g fit) (eq-eqb _ _ (length-replicate (store_words g) 0))))

  first_counts : 0 ∷ 0 ∷ 0 ∷ 0 ∷ [] ≡ entries (tree_of g (first_store g))
  unfolding empty_store entries span
  first_counts =
      rw (first_empty, good_tree g (formatted g) fit (formatted_good g fit), formatted_levels g 0, formatted_levels g 1, formatted_levels g 2, formatted_levels g 3)

  first_geometry : geometry_of (first_store g) ≡ g
  unfolding empty_store
  first_geometry = ap geometry_of first_empty ∙ written_geometry g (formatted g)

  first_long : live_word < length (first_store g)
  unfolding empty_store writing laid_out directory
  first_long = rw first_empty (omega arith)

  pub begins : (a : Result ⊤ Unopened) (w v : List ℕ) → w ≡ replicate (store_words g) 0 → format_reply a v ≡ format_of w g →
      Begun g v (record { told = 0; pages = 0; entries = 0 ∷ 0 ∷ 0 ∷ 0 ∷ [] })
  begins a w v z e =
      let first : v ≡ first_store g = formats g a w v z e in
      record {
        formatted = first;
        none_written = refl;
        counted = first_counts ∙ rw (first, first_geometry);
        geometry = ap geometry_of first ∙ first_geometry;
        long = rw first first_long;
      }
