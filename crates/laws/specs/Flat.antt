-- Laws of spans, of lists joined, of the test of equality, of a test that all of a list pass, and of tests that pass together. Assumes nothing.
use Prim.Native.Nat.{ℕ, zero, suc, ◌+◌, ◌-◌, ◌≤◌, ◌<◌}
use Rattle.std.proofs.Math.Nat.{add-zero, add-suc, suc-add}
use Rattle.std.proofs.Common.{zero-add, arith, sym, ◌∙◌, length-take, length-drop, ext_get_or, get_or-take, get_or-drop, take_at, drop_at, eqb-true, eq-eqb}
use Rattle.std.proofs.Math.Numerals.{add-one}
use Rattle.std.specs.Prelude.{◌≡◌, Bool, length, get_or, take, drop, replicate, eqb}
use Rattle.std.proofs.Math.Path.{refl, ap}
use Rattle.std.proofs.Math.Bool.{true, false}
use mathlib.Core.List.{List, [], ◌∷◌, ◌++◌, append_assoc}
use Rattle.std.proofs.lemmas.List.{length-replicate, get_or-replicate}
use Rattle.laws.specs.Lists.{span, concat, equal, all}

-- Two tests that pass together are equal.
pub bool_agree : (a b : Bool) → (a ≡ true → b ≡ true) → (b ≡ true → a ≡ true) → a ≡ b
bool_agree true b f g = sym (f refl)
bool_agree false true f g = g refl
bool_agree false false f g = refl

-- A test that all of a list pass, its first passes, and so do all the rest.
module _ {A : Type 0} (t : A → Bool) (a : A) (l : List A) where
  pub all_first : all t (a ∷ l) ≡ true → t a ≡ true
  unfolding all
  all_first e = chosen (t a) e
    where
      chosen : (b : Bool) → elim b [ true ↦ all t l | false ↦ false ] ≡ true → b ≡ true
      chosen true h = refl
      chosen false h = h

  pub all_rest : all t (a ∷ l) ≡ true → all t l ≡ true
  unfolding all
  all_rest e = chosen (t a) e
    where
      chosen : (b : Bool) → elim b [ true ↦ all t l | false ↦ false ] ≡ true → all t l ≡ true
      chosen true h = h
      chosen false h = cc

-- It is passed by a list joined of its first and the rest, by parts of a list, and by a span.
module _ {A : Type 0} (t : A → Bool) where
  pub all_join : (a : A) (l : List A) → t a ≡ true → all t l ≡ true → all t (a ∷ l) ≡ true
  unfolding all
  all_join a l e h = rw (e, all) h

  pub all_take : (k : ℕ) (l : List A) → all t l ≡ true → all t (take k l) ≡ true
  unfolding all
  all_take zero l h = refl
  all_take (suc k) [] h = refl
  all_take (suc k) (a ∷ l) h = all_join a (take k l) (all_first t a l h) (all_take k l (all_rest t a l h))

  pub all_drop : (k : ℕ) (l : List A) → all t l ≡ true → all t (drop k l) ≡ true
  all_drop zero l h = h
  all_drop (suc k) [] h = h
  all_drop (suc k) (a ∷ l) h = all_drop k l (all_rest t a l h)

  pub all_span : (f : ℕ → A) (i n : ℕ) → ((k : ℕ) → k < i + n → t (f k) ≡ true) → all t (span f i n) ≡ true
  unfolding all span
  all_span f i zero h = refl
  all_span f i (suc n) h = all_join (f i) (span f (suc i) n) (h i (omega arith)) (all_span f (suc i) n (λ k b. h k (omega arith)))

-- Lists that pass the test of equality are equal, and equal lists pass it.
pub equal_true : (l m : List ℕ) → equal l m ≡ true → l ≡ m
unfolding equal
equal_true [] [] e = refl
equal_true [] (n ∷ ns) e = let z : ◌≡◌ {A = Bool} false true = e in cc
equal_true (m ∷ ms) [] e = let z : ◌≡◌ {A = Bool} false true = e in cc
equal_true (m ∷ ms) (n ∷ ns) e = chosen (equal_true ms ns) (eqb m n) refl e
  where
    chosen : (equal ms ns ≡ true → ms ≡ ns) → (b : Bool) → eqb m n ≡ b → elim b [ true ↦ equal ms ns | false ↦ false ] ≡ true → m ∷ ms ≡ n ∷ ns
    chosen rest true t h = let i : ms ≡ ns = rest h in let j : m ≡ n = eqb-true m n t in cc
    chosen rest false t h = cc

pub equal_refl : (l : List ℕ) → equal l l ≡ true
unfolding equal
equal_refl [] = refl
equal_refl (m ∷ ms) = rw (eq-eqb m m refl, equal) (equal_refl ms)

-- Joined lists that are equal have equal parts, where the first parts have one length.
pub append_left : {A : Type 0} (a b c d : List A) → length a ≡ length c → a ++ b ≡ c ++ d → a ≡ c
append_left a b c d h e = sym (take_at a b (length a) refl) ∙ ap (take (length a)) e ∙ take_at c d (length a) (sym h)

pub append_right : {A : Type 0} (a b c d : List A) → length a ≡ length c → a ++ b ≡ c ++ d → b ≡ d
append_right a b c d h e = sym (drop_at a b (length a) refl) ∙ ap (drop (length a)) e ∙ drop_at c d (length a) (sym h)

module _ {A : Type 0} (f : ℕ → A) where
  pub span_length : (i n : ℕ) → length (span f i n) ≡ n
  unfolding span
  span_length i zero = refl
  span_length i (suc n) = ap suc (span_length (suc i) n)

  pub span_append : (i m n : ℕ) → span f i (m + n) ≡ span f i m ++ span f (i + m) n
  unfolding span
  span_append i zero n = rw (zero-add n, add-zero i) refl
  span_append i (suc m) n = rw (suc-add m n) (ap (λ (l : List A). f i ∷ l) (rw (span_append (suc i) m n, suc-add i m, add-suc i m) refl))

  -- A span one longer at its front.
  pub span_first : (i n k : ℕ) → n ≡ suc k → span f i n ≡ f i ∷ span f (i + 1) k
  unfolding span
  span_first i n k e = rw (e, add-one i) refl

  pub span_none : (i n : ℕ) → n ≡ 0 → span f i n ≡ []
  unfolding span
  span_none i n e = rw e refl

  pub span_drop : (k i n : ℕ) → k ≤ n → drop k (span f i n) ≡ span f (i + k) (n - k)
  span_drop k i n h =
      let e : n ≡ k + (n - k) = omega arith in
      ap (λ (m : ℕ). drop k (span f i m)) e ∙ rw (span_append i k (n - k)) (drop_at (span f i k) (span f (i + k) (n - k)) k (span_length i k))

  pub span_take : (k i n : ℕ) → k ≤ n → take k (span f i n) ≡ span f i k
  span_take k i n h =
      let e : n ≡ k + (n - k) = omega arith in
      ap (λ (m : ℕ). take k (span f i m)) e ∙ rw (span_append i k (n - k)) (take_at (span f i k) (span f (i + k) (n - k)) k (span_length i k))

-- Spans whose values agree are equal.
pub span_agree : {A : Type 0} (f g : ℕ → A) (i j n : ℕ) → ((k : ℕ) → k < n → f (i + k) ≡ g (j + k)) → span f i n ≡ span g j n
unfolding span
span_agree f g i j zero h = refl
span_agree {A} f g i j (suc n) h =
    let first : f i ≡ g j = rw (add-zero i, add-zero j) at (h 0 (omega arith)) in
    let rest : span f (suc i) n ≡ span g (suc j) n = span_agree f g (suc i) (suc j) n (λ k b. rw (suc-add i k, suc-add j k, ← add-suc i k, ← add-suc j k) (h (suc k) (omega arith))) in
    cc

-- Words all of one value, told word by word.
pub slice_replicate : (w : List ℕ) (a k v : ℕ) → a + k ≤ length w → ((j : ℕ) → a ≤ j → j < a + k → get_or w j 0 ≡ v) → take k (drop a w) ≡ replicate k v
slice_replicate w a k v h p =
    let l : length (take k (drop a w)) ≡ k = length-take k (drop a w) ∙ rw (length-drop a w) (omega arith) in
    ext_get_or 0 (take k (drop a w)) (replicate k v) (l ∙ sym (length-replicate k v))
    (λ i b.
    let q : i < k = rw l at b in
    get_or-take k (drop a w) i 0 q ∙ get_or-drop a w i 0 ∙ p (a + i) (omega arith) (omega arith) ∙ sym (get_or-replicate k i v 0 q))

pub replicate_slice : (w : List ℕ) (a k v j : ℕ) → take k (drop a w) ≡ replicate k v → a ≤ j → j < a + k → get_or w j 0 ≡ v
replicate_slice w a k v j e l u =
    let q : j ≡ a + (j - a) = omega arith in
    let b : j - a < k = omega arith in
    ap (λ (n : ℕ). get_or w n 0) q ∙ sym (get_or-drop a w (j - a) 0) ∙ sym (get_or-take k (drop a w) (j - a) 0 b) ∙
    ap (λ (l : List ℕ). get_or l (j - a) 0) e ∙ get_or-replicate k (j - a) v 0 b

-- Lists of lists joined end to end.
pub concat_append : {A : Type 0} (ls ms : List (List A)) → concat (ls ++ ms) ≡ concat ls ++ concat ms
unfolding concat
concat_append [] ms = refl
concat_append (l ∷ ls) ms = rw (concat_append ls ms) (sym (append_assoc l (concat ls) (concat ms)))
