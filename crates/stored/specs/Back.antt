-- The state that the words of a store hold, and that the writing of a tree is read back as that tree. Assumes nothing.
use Prim.Native.Nat.{ℕ, zero, suc, ◌≤◌, ◌<◌}
use Rattle.std.proofs.Common.{arith, sym, ◌∙◌, ext_get_or}
use Rattle.std.specs.Prelude.{◌≡◌, length, get_or}
use Rattle.std.proofs.Math.Path.{refl, ap}
use mathlib.Core.List.{List, []}
use Rattle.laws.specs.Lists.{length_span, get_d_span}
use Rattle.geometry.specs.declared.Geometry.{Geometry}
use Rattle.geometry.specs.Geometry.{InRange, bottom}
use Rattle.geometry.specs.Places.{live_word}
use Rattle.rules.specs.Tree.{Tree, level}
use Rattle.rules.specs.Level.{slots_of}
use Rattle.rules.specs.Merging.{State}
use Rattle.rules.specs.Store.{laid_out}
use Rattle.rules.specs.Sound.{head_slots, level_slots, entries_of, tree_of}
use Rattle.rules.specs.Good.{Fits}
use Rattle.rules.specs.Reading.{Reads}
use Rattle.stored.specs.Reading.{reads_back}
use Rattle.stored.specs.Slots.{slots_length, slots_level}

-- The live pairs and the tree of a store.
unfoldable pub state_of : Geometry → List ℕ → State
state_of g w = record { live = get_or w live_word 0; tree = tree_of g w }

-- The tree of a store, level by level.
module _ (g : Geometry) (w : List ℕ) (fit : InRange g) where
  pub tree_length : length (tree_of g w) ≡ g.levels
  unfolding tree_of
  tree_length = ap suc (length_span (λ i. entries_of (level_slots g w i)) 1 (bottom g)) ∙ omega (arith, fit.levels_least)

  pub tree_head : level 0 (tree_of g w) ≡ entries_of (head_slots g w)
  unfolding tree_of
  tree_head = refl

  pub tree_level : (i : ℕ) → 1 ≤ i → i < g.levels → level i (tree_of g w) ≡ entries_of (level_slots g w i)
  unfolding tree_of
  tree_level zero l u = absurd (omega arith)
  tree_level (suc i) l u = get_d_span (λ j. entries_of (level_slots g w j)) 1 (bottom g) i [] (omega arith) ∙ ap (λ (j : ℕ). entries_of (level_slots g w j)) (omega arith)

-- Words that are read as the slots of a tree hold that tree.
pub tree_read : (g : Geometry) (live : ℕ) (t : Tree) (w : List ℕ) → InRange g → Fits g (slots_of t) → Reads g live (slots_of t) w → tree_of g w ≡ t
tree_read g live t w fit fits r =
    ext_get_or [] (tree_of g w) t (tree_length g w fit ∙ sym fits.levels ∙ slots_length t) (λ i b. each i (omega (arith, tree_length g w fit)))
  where
    each : (i : ℕ) → i < g.levels → level i (tree_of g w) ≡ level i t
    each zero u = tree_head g w fit ∙ ap entries_of r.head_slots_lem ∙ slots_level t 0
    each (suc i) u = tree_level g w fit (suc i) (omega arith) u ∙ ap entries_of (r.level_slots_lem (suc i) (omega arith) u) ∙ slots_level t (suc i)

pub tree_back : (g : Geometry) (live : ℕ) (t : Tree) → InRange g → Fits g (slots_of t) → tree_of g (laid_out g live (slots_of t)) ≡ t
tree_back g live t fit fits = tree_read g live t (laid_out g live (slots_of t)) fit fits (reads_back g live (slots_of t) fit fits)
