-- The tests of words and of pages that decide whether a level is its writing, and what each tells. Assumes nothing.
use Prim.Native.Nat.{ℕ, zero, suc, ◌+◌, ◌-◌, ◌*◌, ◌/◌, ◌≤◌, ◌<◌, max}
use native.Mathlib.Omega.{arith}
use Rattle.std.specs.Prelude.{◌≡◌, Bool, ◌&&◌, ◌||◌, ◌≢◌, List, get_or, leb, eqb}
use Rattle.std.proofs.Math.Path.{refl}
use Rattle.std.proofs.Common.{◌∙◌}
use Rattle.std.proofs.Math.Bool.{true, false}
use borrow.Author.Tests.{eqb-true, eqb-false, eq-eqb, ne_eqb, leb-true, leb-false, le-leb}
use Rattle.laws.specs.Tests.{and_left, and_right, and_true}
use Rattle.geometry.specs.Places.{erased, slots_in_page}
use Rattle.rules.specs.Level.{pages_for}
use Rattle.layout.specs.Words.{count_of}
use Rattle.layout.specs.Pages.{last_count, row_length, Filled, Unused}

-- Words from a place on, k of them, that are all unused.
unfoldable pub blank : List ℕ → ℕ → ℕ → Bool
blank w i zero = true
blank w i (suc k) = elim (eqb (get_or w i 0) erased) [ true ↦ blank w (i + 1) k | false ↦ false ]

unfoldable pub unused : List ℕ → ℕ → ℕ → Bool
unused w from to = blank w from (to - from)

-- Pages from p on, k of them, that are all full; pages filled left to right.
unfoldable pub full_pages : List ℕ → ℕ → ℕ → ℕ → Bool
full_pages w start p zero = true
full_pages w start p (suc k) = elim (eqb (count_of w start p) slots_in_page) [ true ↦ full_pages w start (p + 1) k | false ↦ false ]

unfoldable pub last_right : ℕ → ℕ → Bool
last_right count last = leb count slots_in_page && (leb 1 count || eqb last 0)

unfoldable pub filled : List ℕ → ℕ → ℕ → Bool
filled w start pages = full_pages w start 0 (pages - 1) && last_right (last_count w start pages) (pages - 1)

-- The tests word by word, and page by page.
module _ (w : List ℕ) (i to : ℕ) where
  pub unused_goes_on : (all : Bool) → i < to → (all && unused w i to) ≡ (all && eqb (get_or w i 0) erased && unused w (i + 1) to)
  unfolding unused blank
  unused_goes_on all h =
      let n : to - i ≡ suc (to - (i + 1)) = omega arith in
      rw (n, blank) (chosen all (eqb (get_or w i 0) erased))
    where
      chosen : (a b : Bool) →
          (a && elim b [ true ↦ blank w (i + 1) (to - (i + 1)) | false ↦ false ]) ≡ (a && b && blank w (i + 1) (to - (i + 1)))
      chosen true true = refl
      chosen true false = refl
      chosen false b = refl

  pub unused_ends : (all : Bool) → to ≤ i → (all && unused w i to) ≡ all
  unfolding unused blank
  unused_ends all h =
      let n : to - i ≡ 0 = omega arith in
      rw (n, blank) (and_true all)

module _ (w : List ℕ) (start p last : ℕ) where
  pub full_passes : p < last → count_of w start p ≡ 21 → full_pages w start p (last - p) ≡ full_pages w start (p + 1) (last - (p + 1))
  unfolding full_pages
  full_passes h e =
      let n : last - p ≡ suc (last - (p + 1)) = omega arith in
      rw (n, full_pages, eq-eqb (count_of w start p) 21 e) refl

  pub full_stops : p < last → (count_of w start p ≡ 21 → ⊥) → full_pages w start p (last - p) ≡ false
  unfolding full_pages
  full_stops h e =
      let n : last - p ≡ suc (last - (p + 1)) = omega arith in
      rw (n, full_pages, ne_eqb (count_of w start p) 21 e) refl

  pub full_ends : last ≤ p → full_pages w start p (last - p) ≡ true
  unfolding full_pages
  full_ends h =
      let n : last - p ≡ 0 = omega arith in
      rw (n, full_pages) refl

-- Laws of the tests: each tells what it says.
blank_tells : (w : List ℕ) (k i j : ℕ) → blank w i k ≡ true → i ≤ j → j < i + k → get_or w j 0 ≡ erased
unfolding blank
blank_tells w zero i j e l u = absurd (omega arith)
blank_tells w (suc k) i j e l u = chosen (eqb (get_or w i 0) erased) refl e (blank_tells w k (i + 1) j)
  where
    at : get_or w i 0 ≡ erased → (b : Bool) → eqb i j ≡ b → (i + 1 ≤ j → j < i + 1 + k → get_or w j 0 ≡ erased) → get_or w j 0 ≡ erased
    at t true q more = rw (← eqb-true i j q) t
    at t false q more = let d : i ≢ j = eqb-false i j q in more (omega arith) (omega arith)

    chosen : (b : Bool) → eqb (get_or w i 0) erased ≡ b → elim b [ true ↦ blank w (i + 1) k | false ↦ false ] ≡ true →
        (blank w (i + 1) k ≡ true → i + 1 ≤ j → j < i + 1 + k → get_or w j 0 ≡ erased) → get_or w j 0 ≡ erased
    chosen true q t more = at (eqb-true (get_or w i 0) erased q) (eqb i j) refl (more t)
    chosen false q t more = cc

blank_told : (w : List ℕ) (k i : ℕ) → ((j : ℕ) → i ≤ j → j < i + k → get_or w j 0 ≡ erased) → blank w i k ≡ true
unfolding blank
blank_told w zero i h = refl
blank_told w (suc k) i h =
    rw (eq-eqb (get_or w i 0) erased (h i (omega arith) (omega arith)), blank) (blank_told w k (i + 1) (λ j l u. h j (omega arith) (omega arith)))

pub unused_tells : (w : List ℕ) (from to : ℕ) → unused w from to ≡ true → Unused w from to
unfolding unused
unused_tells w from to e = record { each = λ j l u. blank_tells w (to - from) from j e l (omega arith) }

pub unused_told : (w : List ℕ) (from to : ℕ) → Unused w from to → unused w from to ≡ true
unfolding unused
unused_told w from to h = blank_told w (to - from) from (λ j l u. h.each j l (omega arith))

full_tells : (w : List ℕ) (start k p q : ℕ) → full_pages w start p k ≡ true → p ≤ q → q < p + k → count_of w start q ≡ 21
unfolding full_pages
full_tells w start zero p q e l u = absurd (omega arith)
full_tells w start (suc k) p q e l u = chosen (eqb (count_of w start p) 21) refl e (full_tells w start k (p + 1) q)
  where
    at : count_of w start p ≡ 21 → (b : Bool) → eqb p q ≡ b → (p + 1 ≤ q → q < p + 1 + k → count_of w start q ≡ 21) → count_of w start q ≡ 21
    at t true h more = rw (← eqb-true p q h) t
    at t false h more = let d : p ≢ q = eqb-false p q h in more (omega arith) (omega arith)

    chosen : (b : Bool) → eqb (count_of w start p) 21 ≡ b → elim b [ true ↦ full_pages w start (p + 1) k | false ↦ false ] ≡ true →
        (full_pages w start (p + 1) k ≡ true → p + 1 ≤ q → q < p + 1 + k → count_of w start q ≡ 21) → count_of w start q ≡ 21
    chosen true h t more = at (eqb-true (count_of w start p) 21 h) (eqb p q) refl (more t)
    chosen false h t more = cc

full_told : (w : List ℕ) (start k p : ℕ) → ((q : ℕ) → p ≤ q → q < p + k → count_of w start q ≡ 21) → full_pages w start p k ≡ true
unfolding full_pages
full_told w start zero p h = refl
full_told w start (suc k) p h =
    rw (eq-eqb (count_of w start p) 21 (h p (omega arith) (omega arith)), full_pages) (full_told w start k (p + 1) (λ q l u. h q (omega arith) (omega arith)))

pub last_tells : (count last : ℕ) → last_right count last ≡ true → (count ≤ 21) × (pages_for (21 * last + count) ≡ suc last)
unfolding last_right pages_for
last_tells count last e =
    let m : count ≤ 21 = leb-true count 21 (and_left (leb count 21) (leb 1 count || eqb last 0) e) in
    (m, chosen (leb 1 count) refl (and_right (leb count 21) (leb 1 count || eqb last 0) e) m)
  where
    chosen : (b : Bool) → leb 1 count ≡ b → (b || eqb last 0) ≡ true → count ≤ 21 → max 1 ((21 * last + count + 20) / 21) ≡ suc last
    chosen true q t m = omega (arith, leb-true 1 count q)
    chosen false q t m = omega (arith, leb-false 1 count q, eqb-true last 0 t)

last_told : (count last : ℕ) → count ≤ 21 → pages_for (21 * last + count) ≡ suc last → last_right count last ≡ true
unfolding last_right pages_for
last_told count last m e = rw (le-leb count 21 m) (chosen (leb 1 count) refl)
  where
    chosen : (b : Bool) → leb 1 count ≡ b → (leb 1 count || eqb last 0) ≡ true
    chosen true q = rw q refl
    chosen false q = rw q (eq-eqb last 0 (omega (arith, leb-false 1 count q)))

pub filled_tells : (w : List ℕ) (start pages : ℕ) → 1 ≤ pages → filled w start pages ≡ true → Filled w start pages
unfolding filled row_length
filled_tells w start pages some e =
    let full = full_pages w start 0 (pages - 1) in
    let right = last_right (last_count w start pages) (pages - 1) in
    let l = last_tells (last_count w start pages) (pages - 1) (and_right full right e) in
    record {
      full = λ p h. full_tells w start (pages - 1) 0 p (and_left full right e) (omega arith) (omega arith);
      most = l.0;
      needed = l.1 ∙ omega arith;
    }

pub filled_told : (w : List ℕ) (start pages : ℕ) → 1 ≤ pages → Filled w start pages → filled w start pages ≡ true
unfolding filled row_length
filled_told w start pages some fill =
    rw (
      full_told w start (pages - 1) 0 (λ q l u. fill.full q (omega arith)),
      last_told (last_count w start pages) (pages - 1) fill.most (fill.needed ∙ omega arith),
    ) refl

-- A last page that is filled holds 21 slots at most.
pub filled_most : (w : List ℕ) (start pages : ℕ) → filled w start pages ≡ true → last_count w start pages ≤ 21
unfolding filled
filled_most w start pages e =
    (last_tells (last_count w start pages) (pages - 1) (and_right (full_pages w start 0 (pages - 1)) (last_right (last_count w start pages) (pages - 1)) e)).0
