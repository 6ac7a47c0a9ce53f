-- Lists that definitions are written with: a span of values, lists joined, those of a list that pass a test. Assumes nothing.
use Prim.Native.Nat.{ℕ, zero, suc, ◌+◌, ◌-◌, ◌<◌, ◌≤◌}
use Rattle.std.proofs.Common.{add-one, add-zero, sym, ap, ◌∙◌, take-suc}
use native.Mathlib.Omega.{arith}
use Rattle.std.specs.Prelude.{◌≡◌, Bool, ◌&&◌, get_or, take, eqb}
use Rattle.std.proofs.Math.Path.{refl}
use Rattle.std.proofs.Math.Bool.{true, false}
use mathlib.Core.List.{List, [], ◌∷◌, ◌++◌, reverse, reverse-append}
use Rattle.std.proofs.Math.ListN.{length}
use Rattle.laws.specs.Tests.{and_left, and_right, and_true}

module _ {A : Type 0} where
  -- f i, f (i + 1), … : n of them.
  unfoldable pub span : (ℕ → A) → ℕ → ℕ → List A
  span f i zero = []
  span f i (suc n) = f i ∷ span f (suc i) n

  -- Lists joined end to end.
  unfoldable pub concat : List (List A) → List A
  concat [] = []
  concat (l ∷ ls) = l ++ concat ls

  -- Those that pass a test, and whether all do.
  unfoldable pub passing : (A → Bool) → List A → List A
  passing t [] = []
  passing t (a ∷ l) = elim (t a) [ true ↦ a ∷ passing t l | false ↦ passing t l ]

  unfoldable pub all : (A → Bool) → List A → Bool
  all t [] = true
  all t (a ∷ l) = elim (t a) [ true ↦ all t l | false ↦ false ]

-- Whether two lists of numbers are equal.
unfoldable pub equal : List ℕ → List ℕ → Bool
equal [] [] = true
equal [] (n ∷ ns) = false
equal (m ∷ ms) [] = false
equal (m ∷ ms) (n ∷ ns) = elim (eqb m n) [ true ↦ equal ms ns | false ↦ false ]

-- A span goes on one further; from its end on there is nothing left.
pub span_next : {A : Type 0} (f : ℕ → A) (i n : ℕ) → i < n → span f i (n - i) ≡ f i ∷ span f (i + 1) (n - (i + 1))
unfolding span
span_next f i n h =
    let e : n - i ≡ suc (n - (i + 1)) = omega arith in
    rw (e, add-one i, span)

pub span_end : {A : Type 0} (f : ℕ → A) (i n : ℕ) → n ≤ i → span f i (n - i) ≡ []
unfolding span
span_end f i n h =
    let e : n - i ≡ 0 = omega arith in
    rw e

-- How long a span is, and what stands in it.
pub length_span : {A : Type 0} (f : ℕ → A) (i n : ℕ) → length (span f i n) ≡ n
unfolding span
length_span f i zero = refl
length_span f i (suc n) = ap suc (length_span f (suc i) n)

pub get_d_span : {A : Type 0} (f : ℕ → A) (i n j : ℕ) (d : A) → j < n → get_or (span f i n) j d ≡ f (i + j)
unfolding span
get_d_span f i zero j d h = absurd (omega arith)
get_d_span f i (suc n) zero d h = ap f (sym (add-zero i))
get_d_span f i (suc n) (suc j) d h = get_d_span f (suc i) n j d (omega arith) ∙ ap f (omega arith)

module _ {A : Type 0} (t : A → Bool) where
  -- All pass if the first does and all others do.
  pub all_cons : (a : A) (l : List A) → all t (a ∷ l) ≡ (t a && all t l)
  unfolding all
  all_cons a l = chosen (t a)
    where
      chosen : (b : Bool) → elim b as (λ x. Bool) [ true ↦ all t l | false ↦ false ] ≡ (b && all t l)
      chosen true = refl
      chosen false = refl

  pub all_three : (a b c : A) → all t (a ∷ b ∷ c ∷ []) ≡ (t a && (t b && t c))
  unfolding all
  all_three a b c = rw (all_cons a (b ∷ c ∷ []), all_cons b (c ∷ []), all_cons c [], and_true (t c))

  -- Where all pass, each does.
  pub all_at : (l : List A) (j : ℕ) (d : A) → all t l ≡ true → j < length l → t (get_or l j d) ≡ true
  all_at [] j d e h = absurd (omega arith)
  all_at (a ∷ l) zero d e h = and_left (t a) (all t l) (sym (all_cons a l) ∙ e)
  all_at (a ∷ l) (suc j) d e h = all_at l j d (and_right (t a) (all t l) (sym (all_cons a l) ∙ e)) (omega arith)

  -- One that passes is kept, one that fails is left out.
  pub passing_yes : (a : A) (l : List A) → t a ≡ true → passing t (a ∷ l) ≡ a ∷ passing t l
  unfolding passing
  passing_yes a l e = rw (e, passing)

  pub passing_no : (a : A) (l : List A) → t a ≡ false → passing t (a ∷ l) ≡ passing t l
  unfolding passing
  passing_no a l e = rw (e, passing)

  pub passing_small : (l : List A) → length (passing t l) ≤ length l
  unfolding passing
  passing_small [] = omega arith
  passing_small (a ∷ l) = kept (t a) refl (passing_small l)
    where
      kept : (b : Bool) → t a ≡ b → length (passing t l) ≤ length l → length (passing t (a ∷ l)) ≤ suc (length l)
      kept true e h = rw (passing_yes a l e) (omega arith)
      kept false e h = rw (passing_no a l e) (omega arith)

-- The last of the first j + 1, and then the j before it.
pub reverse_take : {A : Type 0} (l : List A) (j : ℕ) (d : A) → j < length l → reverse (take (suc j) l) ≡ get_or l j d ∷ reverse (take j l)
reverse_take l j d h = rw (take-suc l j d h) (reverse-append (take j l) (get_or l j d ∷ []))

-- Lists of numbers are equal if their first numbers are and the rest.
pub equal_cons : (m n : ℕ) (ms ns : List ℕ) → equal (m ∷ ms) (n ∷ ns) ≡ (eqb m n && equal ms ns)
unfolding equal
equal_cons m n ms ns = chosen (eqb m n)
  where
    chosen : (b : Bool) → elim b as (λ x. Bool) [ true ↦ equal ms ns | false ↦ false ] ≡ (b && equal ms ns)
    chosen true = refl
    chosen false = refl

-- Four numbers told one by one.
pub four_words : (l : List ℕ) → length l ≡ 4 → get_or l 0 0 ∷ get_or l 1 0 ∷ get_or l 2 0 ∷ get_or l 3 0 ∷ [] ≡ l
four_words (a ∷ b ∷ c ∷ d ∷ []) e = refl
four_words [] e = absurd (omega arith)
four_words (a ∷ []) e = absurd (omega arith)
four_words (a ∷ b ∷ []) e = absurd (omega arith)
four_words (a ∷ b ∷ c ∷ []) e = absurd (omega arith)
four_words (a ∷ b ∷ c ∷ d ∷ x ∷ l) e = absurd (omega arith)
