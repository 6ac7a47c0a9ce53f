-- The rows of a tree whose levels ascend: each one's weights rise and its tags are legal; above the bottom it begins with the least fence
-- and each of its pages with a fence. Assumes nothing.
use Rattle.std.specs.Prelude.{ℕ, zero, suc, ◌-◌, ◌*◌, ◌≤◌, ◌<◌, ◌≡◌, refl, true, false, List, [], ◌∷◌, map, length, get_or, drop}
use Rattle.std.proofs.Common.{arith, ap, ◌∙◌, drop_of_length-le}
use Rattle.std.proofs.lemmas.Bool.{false≢true}
use Rattle.laws.specs.Lists.{span, all}
use Rattle.laws.specs.Flat.{all_first, all_rest, all_drop}
use Rattle.slot.specs.declared.Slot.{Slot}
use Rattle.slot.specs.Pair.{least, least_first}
use Rattle.slot.specs.Order.{above_not_before, level_same}
use Rattle.rules.specs.Tree.{Level, Tree, level}
use Rattle.rules.specs.Level.{index, external, pages_for, first_among, fence_of, place, weave, paged, over, lay_on, laid, head_on, slots_of}
use Rattle.rules.specs.Sound.{legal, first_is_least, ascending}
use Rattle.finding.specs.Rising.{Rising}
use Rattle.finding.specs.Woven.{rising_entries, rising_woven}
use Rattle.finding.specs.Paged.{legal_paged, rising_paged, fence_opens}
use Rattle.rules.specs.Pages.{pages_some}
use Rattle.rules.specs.Woven.{fence, index_legal}
use Rattle.rules.proofs.Woven.{all_woven}
use Rattle.finding.specs.Fences.{fences_over, pages_under, fences_only, fences_legal, bottom_legal, fences_rising, fences_first}
use Rattle.geometry.specs.Places.{slots_in_page}

-- The row of a level over those below it.
unfoldable pub row_on : Level → List (List Slot) → List Slot
row_on es [] = weave es (fences_over [])
row_on es (below ∷ ss) = paged 0 0 (weave es (fences_over (below ∷ ss)))

-- The levels as these rows.
weave_alone : (es : Level) → map index es ≡ weave es []
unfolding weave place
weave_alone [] = refl
weave_alone (e ∷ es) = ap (λ (l : List Slot). index e ∷ l) (weave_alone es)

lay_row : (es : Level) (ss : List (List Slot)) → lay_on es ss ≡ row_on es ss ∷ ss
unfolding lay_on row_on over fences_over
lay_row es [] = ap (λ (l : List Slot). l ∷ []) (weave_alone es)
lay_row es (below ∷ ss) = refl

pub laid_row : (es : Level) (t : Tree) → laid (es ∷ t) ≡ row_on es (laid t) ∷ laid t
unfolding laid
laid_row es t = lay_row es (laid t)

pub head_row_lem : (es : Level) (ss : List (List Slot)) → head_on es ss ≡ weave es (fences_over ss)
unfolding head_on over fences_over
head_row_lem es [] = weave_alone es
head_row_lem es (below ∷ ss) = refl

-- The least fence stands before all entries.
weave_least : (es : Level) (fs : List Slot) → weave es (external least 0 ∷ fs) ≡ external least 0 ∷ weave es fs
unfolding weave place external
weave_least [] fs = refl
weave_least (e ∷ es) fs = rw (above_not_before e.pair least (omega (arith, least_first)), place)

pub paged_least : (ss : List Slot) → paged 0 0 (external least 0 ∷ ss) ≡ external least 0 ∷ paged 1 0 ss
unfolding paged external
paged_least ss = refl

-- What each row is, over the pages below.
pub record Row (below : ℕ) (slots : List Slot) : Type 0 where
  pub rising : Rising 0 slots
  pub tags : all (legal true below) slots ≡ true
  pub first_least : 1 ≤ below → first_is_least slots ≡ true
  pub opens : 1 ≤ below → (q : ℕ) (d : Slot) → slots_in_page * q < length slots → fence (get_or slots (slots_in_page * q) d) ≡ true

unfoldable pub Rows : List (List Slot) → Type 0
Rows [] = Unit {0}
Rows (slots ∷ ss) = Row (pages_under ss) slots × Rows ss

-- What is woven with the fences over rows.
pub woven_legal : (es : Level) (ss : List (List Slot)) → all (legal false (pages_under ss)) (weave es (fences_over ss)) ≡ true
woven_legal es ss = all_woven (legal false (pages_under ss)) (λ e. index_legal e false (pages_under ss)) es (fences_over ss) (fences_legal ss)

pub woven_rising : (es : Level) (ss : List (List Slot)) → ascending es ≡ true → Rows ss → Rising 0 (weave es (fences_over ss))
unfolding Rows Rising fences_over
woven_rising es [] a r = rising_woven es (fences_over []) 0 (fences_only []) (rising_entries es a) tt
woven_rising es (below ∷ ss) a r =
    rising_woven es (fences_over (below ∷ ss)) 0 (fences_only (below ∷ ss)) (rising_entries es a) (fences_rising below ss r.0.rising)

pub woven_first : (es : Level) (below : List Slot) (ss : List (List Slot)) →
    weave es (fences_over (below ∷ ss)) ≡ external least 0 ∷ weave es (span (fence_of (first_among below)) 1 (pages_for (length below) - 1))
unfolding fences_over
woven_first es below ss = ap (weave es) (fences_first (first_among below) (length below)) ∙ weave_least es _

pub least_fence_first : (ss : List Slot) → first_is_least (external least 0 ∷ ss) ≡ true
unfolding first_is_least external
least_fence_first ss = level_same least least refl

pub row_formed : (es : Level) (ss : List (List Slot)) → ascending es ≡ true → Rows ss → Row (pages_under ss) (row_on es ss)
unfolding row_on pages_under
row_formed es [] a r = record {
  rising = woven_rising es [] a r;
  tags = all_woven (legal true 0) (λ e. index_legal e true 0) es (fences_over []) bottom_legal;
  first_least = λ h. absurd (omega arith);
  opens = λ h. absurd (omega arith);
}
row_formed es (below ∷ ss) a r =
    let pages = pages_for (length below) in
    let row = weave es (fences_over (below ∷ ss)) in
    record {
      rising = rising_paged pages 0 0 row 0 (λ z. absurd (omega (arith, z))) (woven_legal es (below ∷ ss)) (woven_rising es (below ∷ ss) a r);
      tags = legal_paged pages 0 0 row (pages_some (length below)) (woven_legal es (below ∷ ss));
      first_least = λ h. rw (woven_first es below ss, paged_least) (least_fence_first _);
      opens = λ h q d b. fence_opens 0 0 row (21 * q) d (omega arith) (omega arith) b;
    }

-- A row that begins with a fence has a slot.
pub some_slot : (ss : List Slot) → first_is_least ss ≡ true → 1 ≤ length ss
unfolding first_is_least
some_slot [] e = absurd (false≢true e)
some_slot (s ∷ ss) e = omega arith

pub laid_rows : (t : Tree) → all ascending t ≡ true → Rows (laid t)
unfolding Rows laid
laid_rows [] a = tt
laid_rows (es ∷ t) a =
    let lower = laid_rows t (all_rest ascending es t a) in
    rw (lay_row es (laid t)) (row_formed es (laid t) (all_first ascending es t a) lower, lower)

-- So is every lower level of a tree; the head is woven over them.
pub head_woven : (t : Tree) → get_or (slots_of t) 0 [] ≡ weave (level 0 t) (fences_over (drop 1 (slots_of t)))
unfolding slots_of weave fences_over
head_woven [] = refl
head_woven (es ∷ t) = head_row_lem es (laid t)

pub lower_laid : (t : Tree) → drop 1 (slots_of t) ≡ laid (drop 1 t)
unfolding slots_of laid
lower_laid [] = refl
lower_laid (es ∷ t) = refl

pub lower_rows : (t : Tree) → all ascending t ≡ true → Rows (drop 1 (slots_of t))
lower_rows t a = rw (lower_laid t) (laid_rows (drop 1 t) (all_drop ascending 1 t a))

-- The row of a level, by its number, and the pages of the level below it.
row_at : (ss : List (List Slot)) (i : ℕ) → Rows ss → i < length ss → Row (pages_under (drop (suc i) ss)) (get_or ss i [])
unfolding Rows
row_at [] i r h = absurd (omega arith)
row_at (slots ∷ ss) zero r h = r.0
row_at (slots ∷ ss) (suc i) r h = row_at ss i r.1 (omega arith)

pub row_below : (ss : List (List Slot)) (i : ℕ) → Rows (drop 1 ss) → 1 ≤ i → i < length ss → Row (pages_under (drop (suc i) ss)) (get_or ss i [])
row_below [] i r l h = absurd (omega arith)
row_below (slots ∷ ss) zero r l h = absurd (omega arith)
row_below (slots ∷ ss) (suc i) r l h = row_at ss i r (omega arith)

pub pages_at : (ss : List (List Slot)) (i : ℕ) → i < length ss → pages_under (drop i ss) ≡ pages_for (length (get_or ss i []))
unfolding pages_under
pages_at [] i h = absurd (omega arith)
pages_at (slots ∷ ss) zero h = refl
pages_at (slots ∷ ss) (suc i) h = pages_at ss i (omega arith)

pub pages_past : (ss : List (List Slot)) (i : ℕ) → length ss ≤ i → pages_under (drop i ss) ≡ 0
unfolding pages_under
pages_past ss i h = rw (drop_of_length-le ss h)
