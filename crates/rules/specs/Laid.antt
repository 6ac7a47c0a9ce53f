-- Laws of the slots of a tree, level by level: how each is made of the level's entries and the slots below. Assumes nothing.
use Rattle.std.specs.Prelude.{ℕ, zero, suc, ◌≤◌, ◌<◌, ◌≡◌, refl, List, [], ◌∷◌, map, length, get_or}
use Rattle.std.proofs.Common.{arith}
use Rattle.slot.specs.declared.Slot.{Slot}
use Rattle.rules.specs.Tree.{Level, Tree, level}
use Rattle.rules.specs.Level.{index, paged, over, lay_on, laid, head_on, slots_of}

-- There are as many rows of slots as levels; a level above the bottom lies over the level below it, and so does the head.
pub laid_length : (t : Tree) → length (laid t) ≡ length t
unfolding laid lay_on
laid_length [] = refl
laid_length (es ∷ t) = laid_on (laid t) (laid_length t)
  where
    laid_on : (ss : List (List Slot)) → length ss ≡ length t → length (lay_on es ss) ≡ suc (length t)
    laid_on [] h = omega (arith, h)
    laid_on (below ∷ ss) h = omega (arith, h)

pub laid_above : (es ds : Level) (t : Tree) → laid (es ∷ ds ∷ t) ≡ paged 0 0 (over es (get_or (laid (ds ∷ t)) 0 [])) ∷ laid (ds ∷ t)
unfolding laid lay_on
laid_above es ds t = laid_on (laid (ds ∷ t)) (laid_length (ds ∷ t))
  where
    laid_on : (ss : List (List Slot)) → length ss ≡ suc (length t) → lay_on es ss ≡ paged 0 0 (over es (get_or ss 0 [])) ∷ ss
    laid_on [] h = absurd (omega (arith, h))
    laid_on (below ∷ ss) h = refl

pub head_over : (es ds : Level) (t : Tree) → head_on es (laid (ds ∷ t)) ≡ over es (get_or (laid (ds ∷ t)) 0 [])
unfolding head_on
head_over es ds t = head_on_lem (laid (ds ∷ t)) (laid_length (ds ∷ t))
  where
    head_on_lem : (ss : List (List Slot)) → length ss ≡ suc (length t) → head_on es ss ≡ over es (get_or ss 0 [])
    head_on_lem [] h = absurd (omega (arith, h))
    head_on_lem (below ∷ ss) h = refl

pub laid_alone : (es : Level) → laid (es ∷ []) ≡ map index es ∷ []
unfolding laid lay_on
laid_alone es = refl

-- By their numbers: index entries alone in the bottom, and else the level's entries over the slots below, cut into pages but in the head.
laid_upper : (t : Tree) (i : ℕ) → suc i < length t → get_or (laid t) i [] ≡ paged 0 0 (over (level i t) (get_or (laid t) (suc i) []))
laid_upper [] i h = absurd (omega arith)
laid_upper (es ∷ []) i h = absurd (omega arith)
laid_upper (es ∷ ds ∷ t) zero h = rw (laid_above es ds t) refl
laid_upper (es ∷ ds ∷ t) (suc i) h = rw (laid_above es ds t) (laid_upper (ds ∷ t) i (omega arith))

laid_bottom : (t : Tree) (i : ℕ) → suc i ≡ length t → get_or (laid t) i [] ≡ map index (level i t)
laid_bottom [] i h = absurd (omega arith)
laid_bottom (es ∷ []) zero h = rw (laid_alone es) refl
laid_bottom (es ∷ []) (suc i) h = absurd (omega arith)
laid_bottom (es ∷ ds ∷ t) zero h = absurd (omega arith)
laid_bottom (es ∷ ds ∷ t) (suc i) h = rw (laid_above es ds t) (laid_bottom (ds ∷ t) i (omega arith))

pub slots_head : (t : Tree) → 2 ≤ length t → get_or (slots_of t) 0 [] ≡ over (level 0 t) (get_or (slots_of t) 1 [])
unfolding slots_of
slots_head [] h = absurd (omega arith)
slots_head (es ∷ []) h = absurd (omega arith)
slots_head (es ∷ ds ∷ t) h = head_over es ds t

pub slots_upper : (t : Tree) (i : ℕ) → 1 ≤ i → suc i < length t → get_or (slots_of t) i [] ≡ paged 0 0 (over (level i t) (get_or (slots_of t) (suc i) []))
unfolding slots_of
slots_upper [] i l h = absurd (omega arith)
slots_upper (es ∷ lower) zero l h = absurd (omega arith)
slots_upper (es ∷ lower) (suc i) l h = laid_upper lower i (omega arith)

pub slots_bottom : (t : Tree) (i : ℕ) → 1 ≤ i → suc i ≡ length t → get_or (slots_of t) i [] ≡ map index (level i t)
unfolding slots_of
slots_bottom [] i l h = absurd (omega arith)
slots_bottom (es ∷ lower) zero l h = absurd (omega arith)
slots_bottom (es ∷ lower) (suc i) l h = laid_bottom lower i (omega arith)
