-- A row cut into pages with its internal fences: what is legal stays legal, rising weights go on rising, and each page begins with a
-- fence. Assumes nothing.
use Rattle.std.specs.Prelude.{ℕ, zero, suc, ◌+◌, ◌*◌, ◌%◌, ◌<◌, ◌≡◌, refl, ◌≢◌, true, false, List, ◌∷◌, length, get_or}
use Rattle.std.proofs.Common.{arith, lt-ltb, ltb-true}
use Rattle.std.proofs.lemmas.Bool.{false≢true}
use Rattle.laws.specs.Lists.{all}
use Rattle.laws.specs.Flat.{all_first, all_rest, all_join}
use Rattle.slot.specs.declared.Slot.{Slot}
use Rattle.slot.specs.declared.Kind.{Kind}
use Rattle.slot.specs.declared.Kind.TheVariants.{Normal, Filter, External, Internal}
use Rattle.slot.specs.Pair.{rank}
use Rattle.rules.specs.Level.{internal, fence_kind, paged}
use Rattle.rules.specs.Sound.{legal, legal_kind}
use Rattle.rules.specs.Woven.{fence}
use Rattle.rules.specs.Paged.{by_paging}
use Rattle.finding.specs.Rising.{turn, weight, Rising, entry_weight}
use Rattle.geometry.specs.Places.{slots_in_page}

-- A slot of a row that is not cut into pages: its fences are external, so a fence names a page below.
legal_inner : (below : ℕ) (s : Slot) → legal false below s ≡ true → legal true below s ≡ true
unfolding legal
legal_inner below s = by_kind s.kind
  where
    by_kind : (k : Kind) → legal_kind false below k s.page.0 ≡ true → legal_kind true below k s.page.0 ≡ true
    by_kind Normal e = e
    by_kind Filter e = e
    by_kind External e = e
    by_kind Internal e = absurd (false≢true e)

legal_page : (below : ℕ) (s : Slot) → fence s ≡ true → legal false below s ≡ true → s.page.0 < below
unfolding legal
legal_page below s = by_kind s.kind
  where
    by_kind : (k : Kind) → fence_kind k ≡ true → legal_kind false below k s.page.0 ≡ true → s.page.0 < below
    by_kind Normal f e = absurd (false≢true f)
    by_kind Filter f e = absurd (false≢true f)
    by_kind External f e = ltb-true s.page.0 below e
    by_kind Internal f e = absurd (false≢true e)

external_weight : (below : ℕ) (s : Slot) → fence s ≡ true → legal false below s ≡ true → weight s ≡ 3 * rank s.pair
unfolding legal weight
external_weight below s f e = omega (arith, by_kind s.kind f e)
  where
    by_kind : (k : Kind) → fence_kind k ≡ true → legal_kind false below k s.page.0 ≡ true → turn k ≡ 0
    by_kind Normal f e = absurd (false≢true f)
    by_kind Filter f e = absurd (false≢true f)
    by_kind External f e = refl
    by_kind Internal f e = absurd (false≢true e)

-- Its slots stay legal, and an internal fence names the page of the last fence before it.
legal_internal : (below n : ℕ) (s : Slot) → n < below → legal true below (internal s.pair n) ≡ true
unfolding legal internal
legal_internal below n s h = lt-ltb n below h

pub legal_paged : (below j last : ℕ) (ss : List Slot) → last < below → all (legal false below) ss ≡ true → all (legal true below) (paged j last ss) ≡ true
unfolding all
legal_paged below =
    by_paging (λ j last ss row. last < below → all (legal false below) ss ≡ true → all (legal true below) row ≡ true) (λ j last h a. refl)
    (λ j last s ss row k ih h a.
    let l = all_first (legal false below) s ss a in
    all_join (legal true below) s row (legal_inner below s l) (ih (legal_page below s k l) (all_rest (legal false below) s ss a)))
    (λ last s ss row k ih h a.
    all_join (legal true below) (internal s.pair last) (s ∷ row) (legal_internal below last s h)
    (all_join (legal true below) s row (legal_inner below s (all_first (legal false below) s ss a)) (ih h (all_rest (legal false below) s ss a))))
    (λ j last s ss row k d ih h a.
    all_join (legal true below) s row (legal_inner below s (all_first (legal false below) s ss a)) (ih h (all_rest (legal false below) s ss a)))

-- No slot of the row weighs what an internal fence does, so there is a weight left for one before each entry.
pub rising_paged : (below j last : ℕ) (ss : List Slot) (n : ℕ) → n % 3 ≢ 2 → all (legal false below) ss ≡ true → Rising n ss → Rising n (paged j last ss)
unfolding Rising weight internal
rising_paged below =
    by_paging (λ j last ss row. (n : ℕ) → n % 3 ≢ 2 → all (legal false below) ss ≡ true → Rising n ss → Rising n row) (λ j last n d a r. tt)
    (λ j last s ss row k ih n d a r.
    let e = external_weight below s k (all_first (legal false below) s ss a) in
    (r.0, ih (suc (weight s)) (omega (arith, e)) (all_rest (legal false below) s ss a) r.1))
    (λ last s ss row k ih n d a r.
    let e = entry_weight s k in
    (omega (arith, e, r.0, d), (omega (arith, e), ih (suc (weight s)) (omega (arith, e)) (all_rest (legal false below) s ss a) r.1)))
    (λ j last s ss row k o ih n d a r.
    let e = entry_weight s k in
    (r.0, ih (suc (weight s)) (omega (arith, e)) (all_rest (legal false below) s ss a) r.1))

-- Each page begins with a fence: the slot that stands m after one at j of its page, where j + m is a whole number of pages.
abbrev pub Opens : ℕ → List Slot → Type 0
Opens j row = (m : ℕ) (d : Slot) → j < slots_in_page → (j + m) % slots_in_page ≡ 0 → m < length row → fence (get_or row m d) ≡ true

pub fence_opens : (j last : ℕ) (ss : List Slot) → Opens j (paged j last ss)
unfolding internal
fence_opens = by_paging (λ j last ss row. Opens j row) (λ j last m d b o h. absurd (omega arith)) at_fence at_opening within_page
  where
    at_fence : (j last : ℕ) (s : Slot) (ss row : List Slot) → fence s ≡ true → Opens ((j + 1) % 21) row → Opens j (s ∷ row)
    at_fence j last s ss row k ih zero d b o h = k
    at_fence j last s ss row k ih (suc m) d b o h = ih m d (omega arith) (omega arith) (omega arith)

    at_opening : (last : ℕ) (s : Slot) (ss row : List Slot) → fence s ≡ false → Opens 2 row → Opens 0 (internal s.pair last ∷ s ∷ row)
    at_opening last s ss row k ih zero d b o h = refl
    at_opening last s ss row k ih (suc zero) d b o h = absurd (omega arith)
    at_opening last s ss row k ih (suc (suc m)) d b o h = ih m d (omega arith) (omega arith) (omega arith)

    within_page : (j last : ℕ) (s : Slot) (ss row : List Slot) → fence s ≡ false → j ≢ 0 → Opens ((j + 1) % 21) row → Opens j (s ∷ row)
    within_page j last s ss row k n ih zero d b o h = absurd (omega (arith, n))
    within_page j last s ss row k n ih (suc m) d b o h = ih m d (omega arith) (omega arith) (omega arith)
