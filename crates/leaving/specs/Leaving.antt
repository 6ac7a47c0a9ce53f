-- Where a level's words, or the head's, first leave the writing of its own entries: the first slot that does not stand. Assumes nothing.
use Prim.Native.Nat.{ℕ, zero, suc, ◌+◌, ◌-◌, ◌*◌, ◌/◌, ◌%◌, ◌≤◌, ◌<◌, min}
use Rattle.std.proofs.Common.{zero-add, add-zero, sym, ◌∙◌, get_or-append-add}
use Rattle.std.proofs.Math.Nat.{div-eq_of_lt, mod-eq_of_lt}
use native.Mathlib.Omega.{arith}
use Rattle.std.specs.Prelude.{◌≡◌, Bool, ◌&&◌, List, [], ◌∷◌, ◌++◌, drop, replicate}
use Rattle.std.proofs.Math.Path.{refl}
use Rattle.std.proofs.Math.Bool.{true, false, cond}
use Rattle.std.proofs.Math.ListN.{length, get_or, get_or-append, get_or-replicate}
use Rattle.std.proofs.Math.Seq.{get_or-take, get_or-drop}
use Rattle.std.proofs.Math.Dec.{leb, ltb}
use borrow.Author.Tests.{ltb-true, ltb-false, leb-true, le-leb}
use Rattle.laws.specs.Lists.{span, concat}
use Rattle.geometry.specs.Places.{erased}
use Rattle.slot.specs.declared.Slot.{Slot}
use Rattle.slot.specs.Pair.{least}
use Rattle.slot.specs.Slot.{words_of}
use Rattle.rules.specs.Level.{external, pages_for, page_of}
use Rattle.rules.specs.Store.{run_words, page_words, level_words}
use Rattle.layout.specs.Run.{words_of_all, words_length}
use Rattle.layout.specs.Pages.{level_page, level_pages, page_used, page_unused, page_length, level_page_length}
use Rattle.leaving.specs.Grouped.{words_at}
use Rattle.leaving.specs.Stands.{count_wanted, numbered, Holds}

-- The count of a page that has slots, and of an unused page.
module _ (total most n : ℕ) where
  count_used : (1 ≤ n → n < total) → count_wanted total most n ≡ min (total - n) most
  unfolding count_wanted
  count_used some = by (leb 1 n) refl (leb total n) refl
    where
      by : (b : Bool) → leb 1 n ≡ b → (c : Bool) → leb total n ≡ c → cond (b && c) erased (min (total - n) most) ≡ min (total - n) most
      by true p true q = absurd (omega (arith, some (leb-true 1 n p), leb-true total n q))
      by true p false q = refl
      by false p c q = refl

  count_unused : 1 ≤ n → total ≤ n → count_wanted total most n ≡ erased
  unfolding count_wanted
  count_unused h k = rw (le-leb 1 n h, le-leb total n k) refl

-- Slots in words ------------------------------------------------------------------------------------------------------------------------------------
-- The words of slots, slot by slot.
words_used : (ss : List Slot) (rest : List ℕ) (n k : ℕ) → n < length ss → k < 3 → get_or (words_of_all ss ++ rest) (3 * n + k) 0 ≡ get_or (words_of (numbered ss n)) k 0
unfolding concat words_of
words_used [] rest n k h b = absurd (omega arith)
words_used (s ∷ ss) rest zero k h b = rw (zero-add k) (first k b)
  where
    first : (k : ℕ) → k < 3 → get_or (words_of s ++ words_of_all ss ++ rest) k 0 ≡ get_or (words_of s) k 0
    first zero b = refl
    first (suc zero) b = refl
    first (suc (suc zero)) b = refl
    first (suc (suc (suc k))) b = absurd (omega arith)
words_used (s ∷ ss) rest (suc n) k h b =
    let e : 3 * suc n + k ≡ suc (suc (suc (3 * n + k))) = omega arith in
    rw e (words_used ss rest n k (omega arith) b)

-- A run of slots: those of the slots, and then unused ones.
module _ (ss : List Slot) (m n k : ℕ) (b : k < 3) where
  run_used : n < length ss → get_or (run_words ss m) (3 * n + k) 0 ≡ get_or (words_of (numbered ss n)) k 0
  unfolding run_words
  run_used h = words_used ss (replicate (3 * (m - length ss)) erased) n k h b

  run_unused : length ss ≤ n → n < m → get_or (run_words ss m) (3 * n + k) 0 ≡ erased
  unfolding run_words
  run_unused h u =
      let e : 3 * n + k ≡ length (words_of_all ss) + (3 * (n - length ss) + k) = omega (arith, words_length ss) in
      rw e (get_or-append-add (words_of_all ss) (replicate (3 * (m - length ss)) erased) (3 * (n - length ss) + k) 0 ∙
      get_or-replicate (3 * (m - length ss)) (3 * (n - length ss) + k) erased 0 (omega arith))

-- A level's words, page by page.
page_at_lem : (f : ℕ → List ℕ) → ((p : ℕ) → length (f p) ≡ 64) → (m q p j : ℕ) → p < m → j < 64 → get_or (concat (span f q m)) (64 * p + j) 0 ≡ get_or (f (q + p)) j 0
unfolding concat span
page_at_lem f size zero q p j h b = absurd (omega arith)
page_at_lem f size (suc m) q zero j h b = rw (zero-add j, add-zero q) (get_or-append (f q) (concat (span f (suc q) m)) 0 j (omega (arith, size q)))
page_at_lem f size (suc m) q (suc p) j h b =
    let e : 64 * suc p + j ≡ length (f q) + (64 * p + j) = omega (arith, size q) in
    let s : q + suc p ≡ suc q + p = omega arith in
    rw (e, s) (get_or-append-add (f q) (concat (span f (suc q) m)) (64 * p + j) 0 ∙ page_at_lem f size m (suc q) p j (omega arith) b)

-- The writing of slots in pages of 21.
module _ (slots : List Slot) (room : ℕ) where
  level_at : (p j : ℕ) → p < room → j < 64 → get_or (level_words slots room) (64 * p + j) 0 ≡ get_or (level_page slots p) j 0
  level_at p j h b = rw (level_pages slots room) (page_at_lem (level_page slots) (level_page_length slots) room 0 p j h b ∙ rw (zero-add p) refl)

  number_in : (p j : ℕ) → j < 21 → numbered (page_of slots p) j ≡ numbered slots (21 * p + j)
  unfolding page_of
  number_in p j b = get_or-take 21 (drop (21 * p) slots) j (external least 0) b ∙ get_or-drop (21 * p) slots j (external least 0)

  level_count : (n : ℕ) → n < 21 * room → n % 21 ≡ 0 → get_or (level_words slots room) (64 * (n / 21)) 0 ≡ count_wanted (length slots) 21 n
  unfolding pages_for page_words
  level_count n h z =
      let here : get_or (level_words slots room) (64 * (n / 21)) 0 ≡ get_or (level_page slots (n / 21)) 0 0 = rw (add-zero (64 * (n / 21))) at (level_at (n / 21) 0 (omega arith) (omega arith)) in
      here ∙ by (ltb (n / 21) (pages_for (length slots))) refl
    where
      by : (b : Bool) → ltb (n / 21) (pages_for (length slots)) ≡ b → get_or (level_page slots (n / 21)) 0 0 ≡ count_wanted (length slots) 21 n
      by true q =
          let p = ltb-true (n / 21) (pages_for (length slots)) q in
          rw (page_used slots (n / 21) p) (page_length slots (n / 21) ∙ omega (arith, count_used (length slots) 21 n (λ s. omega arith)))
      by false q =
          let p = ltb-false (n / 21) (pages_for (length slots)) q in
          rw (page_unused slots (n / 21) p) (sym (count_unused (length slots) 21 n (omega arith) (omega arith)))

  module _ (n k j : ℕ) (h : n < 21 * room) (u : k < 3) (e : j ≡ words_at 21 n + k) where
    abbrev p : ℕ
    p = n / 21

    slot_at : get_or (level_words slots room) j 0 ≡ get_or (level_page slots p) (suc (3 * (n % 21) + k)) 0
    unfolding words_at
    slot_at =
        let there : j ≡ 64 * p + suc (3 * (n % 21) + k) = omega arith in
        rw there (level_at p (suc (3 * (n % 21) + k)) (omega arith) (omega arith))

    level_used : n < length slots → get_or (level_words slots room) j 0 ≡ get_or (words_of (numbered slots n)) k 0
    unfolding pages_for page_words
    level_used b =
        let at : 21 * p + n % 21 ≡ n = omega arith in
        let used : level_page slots p ≡ page_words (page_of slots p) = page_used slots p (omega arith) in
        slot_at ∙ rw used (run_used (page_of slots p) 21 (n % 21) k u (omega (arith, page_length slots p)) ∙ rw (number_in p (n % 21) (omega arith), at) refl)

    level_unused : length slots ≤ n → get_or (level_words slots room) j 0 ≡ erased
    unfolding page_words
    level_unused b = slot_at ∙ by (ltb p (pages_for (length slots))) refl
      where
        by : (c : Bool) → ltb p (pages_for (length slots)) ≡ c → get_or (level_page slots p) (suc (3 * (n % 21) + k)) 0 ≡ erased
        by true q =
            rw (page_used slots p (ltb-true p (pages_for (length slots)) q))
            (run_unused (page_of slots p) 21 (n % 21) k u (omega (arith, page_length slots p)) (omega arith))
        by false q = rw (page_unused slots p (ltb-false p (pages_for (length slots)) q)) (get_or-replicate 64 (suc (3 * (n % 21) + k)) erased 0 (omega arith))

  pub level_holds : Holds 21 (21 * room) slots (level_words slots room)
  level_holds = record {
    counts = level_count;
    used = λ n k j h b u e. level_used n k j h u e b;
    unused = λ n k j h b u e. level_unused n k j h u e b;
  }

-- The writing of slots in one page that has room for them.
module _ (slots : List Slot) (most : ℕ) (fits : length slots ≤ most) where
  head_at : (n k j : ℕ) → n < most → j ≡ words_at most n + k → j ≡ suc (3 * n + k)
  unfolding words_at
  head_at n k j h e = e ∙ rw (div-eq_of_lt h, mod-eq_of_lt h) (omega arith)

  head_count_lem : (n : ℕ) → n < most → n % most ≡ 0 → get_or (length slots ∷ run_words slots most) (64 * (n / most)) 0 ≡ count_wanted (length slots) most n
  head_count_lem n h z =
      let first : n ≡ 0 = sym (mod-eq_of_lt h) ∙ z in
      rw (div-eq_of_lt h) (omega (arith, count_used (length slots) most n (λ s. omega arith)))

  pub head_holds : Holds most (most * 1) slots (length slots ∷ run_words slots most)
  head_holds = record {
    counts = λ n h z. head_count_lem n (omega arith) z;
    used = λ n k j h b u e. rw (head_at n k j (omega arith) e) (run_used slots most n k u b);
    unused = λ n k j h b u e. rw (head_at n k j (omega arith) e) (run_unused slots most n k u b (omega arith));
  }
