-- The slots of a tree, level by level: its entries are read back from them. Assumes nothing.
use Rattle.std.specs.Prelude.{ℕ, ◌≡◌, refl, List, [], ◌∷◌, map, length, get_or}
use Rattle.std.proofs.Common.{sym, ap, ◌∙◌}
use Rattle.std.proofs.lemmas.List.{length-map}
use Rattle.std.proofs.Math.ListN.{get_or-map}
use Rattle.slot.specs.declared.Slot.{Slot}
use Rattle.rules.specs.Tree.{Level, Tree, level}
use Rattle.rules.specs.Level.{index, pages_for, first_among, fences, over, lay_on, laid, head_on, slots_of}
use Rattle.rules.specs.Sound.{entries_of}
use Rattle.rules.specs.Woven.{fences_all, entries_index}
use Rattle.rules.proofs.Woven.{entries_woven}
use Rattle.rules.proofs.Paged.{entries_paged}

-- Entries that stand alone, or over the slots below, are read back.
index_entries : (es : Level) → entries_of (map index es) ≡ es
unfolding entries_of
index_entries [] = refl
index_entries (e ∷ es) = entries_index e (map index es) ∙ ap (λ (l : Level). e ∷ l) (index_entries es)

over_entries : (es : Level) (below : List Slot) → entries_of (over es below) ≡ es
unfolding over fences
over_entries es below = entries_woven es (fences (first_among below) (pages_for (length below))) (fences_all (first_among below) 0 (pages_for (length below)))

-- The entries of a tree's slots are the tree.
laid_entries : (t : Tree) → map entries_of (laid t) ≡ t
unfolding laid lay_on
laid_entries [] = refl
laid_entries (es ∷ lower) = chosen (laid lower) (laid_entries lower)
  where
    chosen : (ss : List (List Slot)) → map entries_of ss ≡ lower → map entries_of (lay_on es ss) ≡ es ∷ lower
    chosen [] e = let h = index_entries es in cc
    chosen (below ∷ ss) e = let h = entries_paged 0 0 (over es below) ∙ over_entries es below in cc

slots_entries : (t : Tree) → map entries_of (slots_of t) ≡ t
unfolding slots_of head_on
slots_entries [] = refl
slots_entries (es ∷ lower) = chosen (laid lower) (laid_entries lower)
  where
    chosen : (ss : List (List Slot)) → map entries_of ss ≡ lower → entries_of (head_on es ss) ∷ map entries_of ss ≡ es ∷ lower
    chosen [] e = let h = index_entries es in cc
    chosen (below ∷ ss) e = let h = over_entries es below in cc

pub slots_length : (t : Tree) → length (slots_of t) ≡ length t
slots_length t = sym (length-map (slots_of t) entries_of) ∙ ap length (slots_entries t)

pub slots_level : (t : Tree) (i : ℕ) → entries_of (get_or (slots_of t) i []) ≡ level i t
unfolding entries_of
slots_level t i = sym (get_or-map entries_of (slots_of t) i []) ∙ ap (λ (l : Tree). get_or l i []) (slots_entries t)
