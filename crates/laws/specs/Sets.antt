-- Laws of words stored from a place on: stores that follow one another are one, and what stands elsewhere stays. Assumes nothing.
use Rattle.std.specs.Prelude.{ℕ, zero, suc, ◌+◌, ◌≤◌, ◌<◌, ◌≡◌, refl, ◌≢◌, List, [], ◌∷◌, ◌++◌, length, get_or, set, take, drop}
use Rattle.std.proofs.Common.{add-zero, zero-add, suc-add, arith, sym, ap, ◌∙◌, append_assoc, length-append, length-take, length-drop, take-append-drop, get_or-set_other, take_at, drop_at, take-add, drop-set-lt, length-take-le}
use Rattle.std.proofs.lemmas.List.Edits.{sets, sets-eq}
use Rattle.std.proofs.Math.Seq.{slice, take-nil, take-set-lt}
use Rattle.std.proofs.lemmas.List.{set_comm, take-set-le}

module _ {A : Type 0} where
  -- A store before a run of stores may be made first.
  pub set_sets_before : (l : List A) (i j : ℕ) (vs : List A) (a : A) → j < i → set (sets l i vs) j a ≡ sets (set l j a) i vs
  set_sets_before l i j [] a h = refl
  set_sets_before l i j (v ∷ vs) a h =
      let d : i ≢ j = λ e. omega arith in
      set_sets_before (set l i v) (suc i) j vs a (omega arith) ∙ ap (λ (m : List A). sets m (suc i) vs) (set_comm l i j v a d)

  -- Stores right before and right behind a run of stores lengthen it.
  pub sets_before : (l : List A) (i : ℕ) (xs ys : List A) → sets (sets l (i + length xs) ys) i xs ≡ sets l i (xs ++ ys)
  sets_before l i [] ys = rw (add-zero i)
  sets_before l i (x ∷ xs) ys =
      let e : i + suc (length xs) ≡ suc i + length xs = omega arith in
      rw (e, set_sets_before l (suc i + length xs) i ys x (omega arith)) (sets_before (set l i x) (suc i) xs ys)

  pub sets_behind : (l : List A) (i : ℕ) (xs ys : List A) → sets (sets l i xs) (i + length xs) ys ≡ sets l i (xs ++ ys)
  sets_behind l i [] ys = rw (add-zero i)
  sets_behind l i (x ∷ xs) ys =
      let e : i + suc (length xs) ≡ suc i + length xs = omega arith in
      rw e (sets_behind (set l i x) (suc i) xs ys)

  -- What stands already may be stored again: of three parts stored side by side, the middle one alone is new.
  pub sets_standing : (l : List A) (i : ℕ) (vs : List A) → take (length vs) (drop i l) ≡ vs → sets l i vs ≡ l
  sets_standing l i [] e = refl
  sets_standing l i (v ∷ vs) e =
      let n : ℕ = suc (length vs) in
      let inside : i + n ≤ length l = omega (arith, ap length e, length-take n (drop i l), length-drop i l) in
      sets-eq (v ∷ vs) l i inside ∙ ap (λ (m : List A). take i l ++ m ++ drop (i + n) l) (sym e) ∙ rw (← take-add i n l) (take-append-drop (i + n) l)

  pub sets_middle : (l : List A) (i : ℕ) (xs ys zs : List A) → take (length xs) (drop i l) ≡ xs →
      take (length zs) (drop (i + length xs + length ys) l) ≡ zs → sets l i (xs ++ ys ++ zs) ≡ sets l (i + length xs) ys
  sets_middle l i xs ys zs e f =
      let n : i + length (xs ++ ys) ≡ i + length xs + length ys = omega (arith, length-append xs ys) in
      sym (sets_before l i (xs ++ ys) zs) ∙
      rw (n, sets_standing l (i + length xs + length ys) zs f, ← sets_behind l i xs ys, sets_standing l i xs e) refl

  -- What stands before or behind a run of stores stays.
  pub get_d_sets_before : (l : List A) (i j : ℕ) (vs : List A) (d : A) → j < i → get_or (sets l i vs) j d ≡ get_or l j d
  get_d_sets_before l i j [] d h = refl
  get_d_sets_before l i j (v ∷ vs) d h =
      let n : j ≢ i = λ e. omega arith in
      get_d_sets_before (set l i v) (suc i) j vs d (omega arith) ∙ get_or-set_other l i j v d n

  pub get_d_sets_behind : (l : List A) (i j : ℕ) (vs : List A) (d : A) → i + length vs ≤ j → get_or (sets l i vs) j d ≡ get_or l j d
  get_d_sets_behind l i j [] d h = refl
  get_d_sets_behind l i j (v ∷ vs) d h =
      let n : j ≢ i = λ e. omega arith in
      get_d_sets_behind (set l i v) (suc i) j vs d (omega arith) ∙ get_or-set_other l i j v d n

  pub slice_set_before : (l : List A) (i f t : ℕ) (a : A) → i < f → f ≤ t → slice f t (set l i a) ≡ slice f t l
  slice_set_before l i f t a h b = rw (take-set-lt t l i a (omega arith)) (drop-set-lt f (take t l) i a h)

  -- A part of a list after a run of stores: as it was where the run does not reach, and the run where it stands. One store is a run of one:
  -- `set l i v` is `sets l i (v ∷ [])` by definition.
  part_slice : (a k : ℕ) (l : List A) → take k (drop a l) ≡ drop a (take (a + k) l)
  part_slice zero k l = rw (zero-add k) refl
  part_slice (suc a) k [] = take-nil k ∙ ap (drop (suc a)) (sym (take-nil (suc a + k)))
  part_slice (suc a) k (x ∷ l) = rw (suc-add a k) (part_slice a k l)

  take_sets : (l : List A) (i : ℕ) (vs : List A) (n : ℕ) → n ≤ i → take n (sets l i vs) ≡ take n l
  take_sets l i [] n h = refl
  take_sets l i (v ∷ vs) n h = take_sets (set l i v) (suc i) vs n (omega arith) ∙ take-set-le n l i v h

  drop_sets : (l : List A) (i : ℕ) (vs : List A) (n : ℕ) → i + length vs ≤ n → drop n (sets l i vs) ≡ drop n l
  drop_sets l i [] n h = refl
  drop_sets l i (v ∷ vs) n h = drop_sets (set l i v) (suc i) vs n (omega arith) ∙ drop-set-lt n l i v (omega arith)

  pub part_before : (l : List A) (i : ℕ) (vs : List A) (a k : ℕ) → a + k ≤ i → take k (drop a (sets l i vs)) ≡ take k (drop a l)
  part_before l i vs a k h = part_slice a k (sets l i vs) ∙ ap (drop a) (take_sets l i vs (a + k) h) ∙ sym (part_slice a k l)

  pub part_behind : (l : List A) (i : ℕ) (vs : List A) (a k : ℕ) → i + length vs ≤ a → take k (drop a (sets l i vs)) ≡ take k (drop a l)
  part_behind l i vs a k h = ap (take k) (drop_sets l i vs a h)

  pub part_stored : (l : List A) (i : ℕ) (vs : List A) → i + length vs ≤ length l → take (length vs) (drop i (sets l i vs)) ≡ vs
  part_stored l i vs h =
      let rest = drop (i + length vs) l in
      rw (sets-eq vs l i h, append_assoc (take i l) vs rest, drop_at (take i l) (vs ++ rest) i (length-take-le i l (omega arith))) (take_at vs rest (length vs) refl)
