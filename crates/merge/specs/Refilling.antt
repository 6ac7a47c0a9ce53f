-- The slots of a tree's levels rebuilt from below: a level's row made anew over those below it, then rows of fences alone up to the head.
-- They are the slots of the merged tree. Assumes nothing.
use Rattle.std.specs.Prelude.{ℕ, zero, suc, ◌+◌, ◌<◌, ◌≡◌, refl, ◌≢◌, List, [], ◌∷◌, ◌++◌, length, get_or, set, take, drop, replicate}
use Rattle.std.proofs.Common.{arith, sym, ap, ◌∙◌, length-append, length-set, drop_at, get_or-set_same, get_or-set_other, length-take-le}
use Rattle.std.proofs.lemmas.List.{set_split}
use Rattle.laws.specs.Lists.{span, length_span}
use Rattle.slot.specs.declared.Slot.{Slot}
use Rattle.rules.specs.Tree.{Level, Tree, level}
use Rattle.rules.specs.Level.{pages_for, page_of, laid, head_on, slots_of}
use Rattle.rules.specs.Merging.{join, merge, PageWrite, pages_written}
use Rattle.finding.specs.Rows.{row_on, laid_row}

-- Level i's row made anew, over the levels below it as they stand.
unfoldable pub with_row : ℕ → Level → List (List Slot) → List (List Slot)
with_row i es ss = set ss i (row_on es (drop (suc i) ss))

unfoldable pub refill : ℕ → List (List Slot) → List (List Slot)
refill zero ss = set ss 0 (head_on [] (drop 1 ss))
refill (suc i) ss = refill i (with_row (suc i) [] ss)

-- From level i on, what is made anew stands over what was below.
drop_set : {A : Type 0} (l : List A) (i : ℕ) (a : A) → i < length l → drop i (set l i a) ≡ a ∷ drop (suc i) l
drop_set l i a h = rw (set_split l i a h) (drop_at (take i l) (a ∷ drop (suc i) l) i (length-take-le i l (omega arith)))

pub row_made : (i : ℕ) (es : Level) (ss : List (List Slot)) (lower : Tree) → i < length ss → drop (suc i) ss ≡ laid lower →
    drop i (with_row i es ss) ≡ laid (es ∷ lower)
unfolding with_row
row_made i es ss lower h e = drop_set ss i (row_on es (drop (suc i) ss)) h ∙ rw e (sym (laid_row es lower))

pub row_stands : (i : ℕ) (es : Level) (ss : List (List Slot)) → i < length ss → get_or (with_row i es ss) i [] ≡ row_on es (drop (suc i) ss)
unfolding with_row
row_stands i es ss h = get_or-set_same ss i (row_on es (drop (suc i) ss)) [] h

with_length : (i : ℕ) (es : Level) (ss : List (List Slot)) → length (with_row i es ss) ≡ length ss
unfolding with_row
with_length i es ss = length-set ss i (row_on es (drop (suc i) ss))

-- The levels below i stay.
pub refill_stays : (i j : ℕ) (ss : List (List Slot)) → i < j → get_or (refill i ss) j [] ≡ get_or ss j []
unfolding refill with_row
refill_stays zero j ss h =
    let n : j ≢ 0 = λ e. omega arith in
    get_or-set_other ss 0 j (head_on [] (drop 1 ss)) [] n
refill_stays (suc i) j ss h =
    let n : j ≢ suc i = λ e. omega arith in
    refill_stays i j (with_row (suc i) [] ss) (omega arith) ∙ get_or-set_other ss (suc i) j (row_on [] (drop (suc (suc i)) ss)) [] n

pub refill_row : (i : ℕ) (ss : List (List Slot)) → suc i < length ss → get_or (refill (suc i) ss) (suc i) [] ≡ row_on [] (drop (suc (suc i)) ss)
unfolding refill
refill_row i ss h = refill_stays i (suc i) (with_row (suc i) [] ss) (omega arith) ∙ row_stands (suc i) [] ss h

-- Over the slots of lower levels they are the slots of the tree with fences alone above those.
replicate_end : {A : Type 0} (n : ℕ) (a : A) (l : List A) → replicate n a ++ a ∷ l ≡ replicate (suc n) a ++ l
replicate_end zero a l = refl
replicate_end (suc n) a l = ap (λ (m : List _). a ∷ m) (replicate_end n a l)

pub refill_slots : (i : ℕ) (ss : List (List Slot)) (lower : Tree) → i < length ss → drop (suc i) ss ≡ laid lower →
    refill i ss ≡ slots_of (replicate (suc i) [] ++ lower)
unfolding refill slots_of
refill_slots zero [] lower h e = absurd (omega arith)
refill_slots zero (s ∷ ss) lower h e =
    let same : ss ≡ laid lower = e in
    rw same refl
refill_slots (suc i) ss lower h e =
    refill_slots i (with_row (suc i) [] ss) ([] ∷ lower) (omega (arith, with_length (suc i) [] ss)) (row_made (suc i) [] ss lower h e) ∙
    ap slots_of (replicate_end (suc i) [] lower)

-- A merge: the next level's row with the two joined, and fences alone above it.
drop_laid : (n : ℕ) (t : Tree) → drop n (laid t) ≡ laid (drop n t)
unfolding laid
drop_laid zero t = refl
drop_laid (suc n) [] = refl
drop_laid (suc n) (es ∷ t) = ap (drop (suc n)) (laid_row es t) ∙ drop_laid n t

pub lower_slots : (n : ℕ) (t : Tree) → drop (suc n) (slots_of t) ≡ laid (drop (suc n) t)
unfolding slots_of laid
lower_slots n [] = refl
lower_slots n (es ∷ t) = drop_laid n t

pub merge_slots : (i : ℕ) (t : Tree) → length (slots_of t) ≡ length t → suc i < length t →
    refill i (with_row (suc i) (join (level i t) (level (suc i) t)) (slots_of t)) ≡ slots_of (merge i t)
unfolding merge
merge_slots i t n h =
    let es : Level = join (level i t) (level (suc i) t) in
    refill_slots i (with_row (suc i) es (slots_of t)) (es ∷ drop (suc (suc i)) t) (omega (arith, with_length (suc i) es (slots_of t)))
    (row_made (suc i) es (slots_of t) (drop (suc (suc i)) t) (omega arith) (lower_slots (suc i) t))

-- The pages that a merge writes, level by level.
pub written_none : (ss : List (List Slot)) → length (pages_written 0 ss) ≡ 0
unfolding pages_written
written_none ss = refl

pub written_next : (i : ℕ) (ss : List (List Slot)) → length (pages_written (suc i) ss) ≡ pages_for (length (get_or ss (suc i) [])) + length (pages_written i ss)
unfolding pages_written
written_next i ss =
    let slots = get_or ss (suc i) [] in
    let page : ℕ → PageWrite = λ p. record { level = suc i; page = p; slots = page_of slots p } in
    length-append (span page 0 (pages_for (length slots))) (pages_written i ss) ∙
    ap (λ (n : ℕ). n + length (pages_written i ss)) (length_span page 0 (pages_for (length slots)))
