-- A level's pages in words: the level's words are those of slots in a row, page by page, exactly if its pages hold them, each full but the
-- last, with unused words behind. Assumes nothing.
use Prim.Native.Nat.{ℕ, zero, suc, ◌+◌, ◌-◌, ◌*◌, ◌/◌, ◌%◌, ◌≤◌, ◌<◌, min}
use Rattle.std.proofs.Math.Nat.{zero-add}
use Rattle.std.proofs.Common.{add-one, ◌∙◌, append-nil, length-take, length-drop, drop-cons, drop-drop, take-add, length-take-le}
use native.Mathlib.Omega.{arith}
use Rattle.std.specs.Prelude.{◌≡◌, Bool, List, ◌∷◌, ◌++◌, drop, replicate, ◌≢◌, eqb}
use Rattle.std.proofs.Math.Path.{refl, sym, ap}
use Rattle.std.proofs.Math.Bool.{true, false}
use Rattle.std.proofs.Math.ListN.{length, get_or, take}
use Rattle.std.proofs.lemmas.List.{length-replicate}
use Rattle.std.proofs.Math.Seq.{take_all}
use Rattle.std.proofs.Math.Dec.{ltb}
use borrow.Author.Tests.{lt-ltb, le-ltb, ltb-true, ltb-false, eqb-true, eqb-false}
use Rattle.laws.specs.Lists.{span, concat}
use Rattle.laws.specs.Flat.{span_agree, span_length, span_append, span_take, span_drop, append_left, append_right, slice_replicate, replicate_slice}
use Rattle.laws.specs.Joined.{joined_length}
use Rattle.geometry.specs.Places.{erased, words_in_page, words_in_slot, slots_in_page}
use Rattle.slot.specs.declared.Slot.{Slot}
use Rattle.slot.specs.Slot.{slot_at}
use Rattle.rules.specs.Level.{pages_for, page_of}
use Rattle.rules.specs.Store.{run_words, page_words, level_words}
use Rattle.rules.specs.Sound.{slots_from}
use Rattle.layout.specs.Words.{count_of, page_run, level_run}
use Rattle.layout.specs.Run.{run_words_lem, run_written, run_slots, run_rest}

-- The slot at position n of the row of a level that starts at a place.
unfoldable pub flat_slot : List ℕ → ℕ → ℕ → Slot
flat_slot w start n = slot_at w (start + words_in_page * (n / slots_in_page) + 1 + words_in_slot * (n % slots_in_page))

-- The words of page p of a level that is written in slots.
unfoldable pub level_page : List Slot → ℕ → List ℕ
level_page slots p = elim (ltb p (pages_for (length slots))) [ true ↦ page_words (page_of slots p) | false ↦ replicate words_in_page erased ]

pub level_pages : (slots : List Slot) (n : ℕ) → level_words slots n ≡ concat (span (level_page slots) 0 n)
unfolding level_words level_page
level_pages slots n = refl

pub page_used : (slots : List Slot) (p : ℕ) → p < pages_for (length slots) → level_page slots p ≡ page_words (page_of slots p)
unfolding level_page
page_used slots p h = rw (lt-ltb p (pages_for (length slots)) h, level_page) refl

pub page_unused : (slots : List Slot) (p : ℕ) → pages_for (length slots) ≤ p → level_page slots p ≡ replicate 64 erased
unfolding level_page
page_unused slots p h = rw (le-ltb p (pages_for (length slots)) h, level_page) refl

-- Every page is 64 words.
pub page_length : (slots : List Slot) (p : ℕ) → length (page_of slots p) ≡ min 21 (length slots - 21 * p)
unfolding page_of
page_length slots p = length-take 21 (drop (21 * p) slots) ∙ ap (min 21) (length-drop (21 * p) slots)

page_most : (slots : List Slot) (p : ℕ) → length (page_of slots p) ≤ 21
page_most slots p = omega (arith, page_length slots p)

pub level_page_length : (slots : List Slot) (p : ℕ) → length (level_page slots p) ≡ 64
unfolding level_page page_words
level_page_length slots p = chosen (ltb p (pages_for (length slots)))
  where
    chosen : (b : Bool) → length {A = ℕ} (elim b [ true ↦ page_words (page_of slots p) | false ↦ replicate 64 erased ]) ≡ 64
    chosen true = ap suc (run_words_lem (page_of slots p) 21 (page_most slots p))
    chosen false = length-replicate 64 erased

-- A level's words fill its room.
pub level_words_lem : (slots : List Slot) (n : ℕ) → length (level_words slots n) ≡ 64 * n
level_words_lem slots n =
    rw (level_pages slots n) (rw (zero-add n, zero-add) at (joined_length (level_page slots) (λ p. 64 * p) (λ p. omega (arith, level_page_length slots p)) 0 n))

-- Pages joined are a level's words exactly if each stands in its place.
pub pages_joined : (w : List ℕ) (start : ℕ) (f : ℕ → List ℕ) (q m : ℕ) →
    ((p : ℕ) → q ≤ p → p < q + m → take 64 (drop (start + 64 * p) w) ≡ f p) → take (64 * m) (drop (start + 64 * q) w) ≡ concat (span f q m)
unfolding concat span
pages_joined w start f q zero h = refl
pages_joined w start f q (suc m) h =
    let e : 64 * suc m ≡ 64 + 64 * m = omega arith in
    let n : start + 64 * q + 64 ≡ start + 64 * suc q = omega arith in
    rw (
      e,
      take-add 64 (64 * m) (drop (start + 64 * q) w),
      drop-drop 64 (start + 64 * q) w,
      n,
      h q (omega arith) (omega arith),
      pages_joined w start f (suc q) m (λ p l u. h p (omega arith) (omega arith)),
    ) refl

pub pages_apart : (w : List ℕ) (start : ℕ) (f : ℕ → List ℕ) → ((p : ℕ) → length (f p) ≡ 64) → (q m p : ℕ) → start + 64 * (q + m) ≤ length w →
    take (64 * m) (drop (start + 64 * q) w) ≡ concat (span f q m) → q ≤ p → p < q + m → take 64 (drop (start + 64 * p) w) ≡ f p
unfolding concat span
pages_apart w start f k q zero p h e l u = absurd (omega arith)
pages_apart w start f k q (suc m) p h e l u =
    let s : 64 * suc m ≡ 64 + 64 * m = omega arith in
    let n : start + 64 * q + 64 ≡ start + 64 * suc q = omega arith in
    let all : take 64 (drop (start + 64 * q) w) ++ take (64 * m) (drop (start + 64 * suc q) w) ≡ f q ++ concat (span f (suc q) m) =
    sym (rw (s, take-add 64 (64 * m) (drop (start + 64 * q) w), drop-drop 64 (start + 64 * q) w, n) refl) ∙ e in
    let here = take 64 (drop (start + 64 * q) w) in
    let there = take (64 * m) (drop (start + 64 * suc q) w) in
    let g : length here ≡ length (f q) =
    length-take-le 64 (drop (start + 64 * q) w) (rw (length-drop (start + 64 * q) w) (omega arith)) ∙ sym (k q) in
    let first : take 64 (drop (start + 64 * q) w) ≡ f q = append_left here there (f q) (concat (span f (suc q) m)) g all in
    let rest : take (64 * m) (drop (start + 64 * suc q) w) ≡ concat (span f (suc q) m) = append_right here there (f q) (concat (span f (suc q) m)) g all in
    chosen (eqb q p) refl first (pages_apart w start f k (suc q) m p (omega arith) rest)
  where
    chosen : (b : Bool) → eqb q p ≡ b → take 64 (drop (start + 64 * q) w) ≡ f q → (suc q ≤ p → p < suc q + m → take 64 (drop (start + 64 * p) w) ≡ f p) →
        take 64 (drop (start + 64 * p) w) ≡ f p
    chosen true t a b = rw (← (eqb-true q p t)) a
    chosen false t a b =
        let d : q ≢ p = eqb-false q p t in
        b (omega arith) (omega arith)

-- A page's words are its count, and then its run of slots.
page_split : (w : List ℕ) (a : ℕ) → a + 64 ≤ length w → take 64 (drop a w) ≡ get_or w a 0 ∷ take 63 (drop (a + 1) w)
page_split w a h = rw (drop-cons w a 0 (omega arith), add-one a) refl

-- The slots of a page, as positions of the level's row.
pub page_flat : (w : List ℕ) (start p m : ℕ) → m ≤ 21 → slots_from w (start + 64 * p + 1) m ≡ span (flat_slot w start) (21 * p) m
unfolding slots_from flat_slot
page_flat w start p m h =
    span_agree (λ j. slot_at w (start + 64 * p + 1 + 3 * j)) (λ n. slot_at w (start + 64 * (n / 21) + 1 + 3 * (n % 21))) 0 (21 * p) m
    (λ k b.
    let d : (21 * p + k) / 21 ≡ p = omega arith in
    let r : (21 * p + k) % 21 ≡ k = omega arith in
    rw (d, r, zero-add k) refl)

pub slots_length : (w : List ℕ) (at m : ℕ) → length (slots_from w at m) ≡ m
unfolding slots_from
slots_length w at m = span_length (λ j. slot_at w (at + 3 * j)) 0 m

-- Slots cut into pages and joined again.
pub pages_whole : (slots : List Slot) (q m : ℕ) → concat (span (page_of slots) q m) ≡ take (21 * m) (drop (21 * q) slots)
unfolding concat span page_of
pages_whole slots q zero = refl
pages_whole slots q (suc m) =
    let e : 21 * suc m ≡ 21 + 21 * m = omega arith in
    let n : 21 * q + 21 ≡ 21 * suc q = omega arith in
    rw (e, take-add 21 (21 * m) (drop (21 * q) slots), drop-drop 21 (21 * q) slots, n, pages_whole slots (suc q) m) refl

-- Full pages and one more are one span of the level's row.
pages_flat : (w : List ℕ) (start q m : ℕ) → ((p : ℕ) → q ≤ p → p < q + m → count_of w start p ≡ 21) → count_of w start (q + m) ≤ 21 →
    concat (span (page_run w start) q (suc m)) ≡ span (flat_slot w start) (21 * q) (21 * m + count_of w start (q + m))
unfolding concat span page_run
pages_flat w start q zero h l =
    let z : q + 0 ≡ q = omega arith in
    let c : min (count_of w start q) 21 ≡ count_of w start q = omega (arith, rw z at l) in
    let n : 21 * 0 + count_of w start q ≡ count_of w start q = omega arith in
    rw (z, n, append-nil, c) (page_flat w start q (count_of w start q) (rw z at l))
pages_flat w start q (suc m) h l =
    let s : q + suc m ≡ suc q + m = omega arith in
    let e : 21 * suc m + count_of w start (suc q + m) ≡ 21 + (21 * m + count_of w start (suc q + m)) = omega arith in
    let n : 21 * q + 21 ≡ 21 * suc q = omega arith in
    rw (s, e, h q (omega arith) (omega arith), page_flat w start q 21 (omega arith), span_append (flat_slot w start) (21 * q) 21 (21 * m + count_of w start (suc q + m)), n)
    (ap (λ (l : List Slot). span (flat_slot w start) (21 * q) 21 ++ l) (pages_flat w start (suc q) m (λ p a b. h p (omega arith) (omega arith)) (rw s at l)))

-- The last page's count, the slots of the level's row, and the place behind the last used slot.
unfoldable pub last_count : List ℕ → ℕ → ℕ → ℕ
last_count w start pages = count_of w start (pages - 1)

unfoldable pub row_length : List ℕ → ℕ → ℕ → ℕ
row_length w start pages = slots_in_page * (pages - 1) + last_count w start pages

unfoldable pub used_end : List ℕ → ℕ → ℕ → ℕ
used_end w start pages = start + words_in_page * (pages - 1) + 1 + words_in_slot * last_count w start pages

-- Pages filled left to right: all full but the last, which has a slot unless it is the only one.
pub record Filled (w : List ℕ) (start pages : ℕ) : Type 0 where
  pub full : (p : ℕ) → suc p < pages → count_of w start p ≡ slots_in_page
  pub most : last_count w start pages ≤ slots_in_page
  pub needed : pages_for (row_length w start pages) ≡ pages

-- Words from a place to another that are all unused.
pub record Unused (w : List ℕ) (from to : ℕ) : Type 0 where
  pub each : (j : ℕ) → from ≤ j → j < to → get_or w j 0 ≡ erased

module _ (w : List ℕ) (start room pages : ℕ) (inside : start + 64 * room ≤ length w) (some : 1 ≤ pages) (few : pages ≤ room) where
  -- The slots of filled pages are the row.
  pub level_flat : Filled w start pages → level_run w start pages ≡ span (flat_slot w start) 0 (row_length w start pages)
  unfolding level_run row_length last_count
  level_flat fill =
      let s : pages ≡ suc (pages - 1) = omega arith in
      let z : 0 + (pages - 1) ≡ pages - 1 = omega arith in
      ap (λ (n : ℕ). concat (span (page_run w start) 0 n)) s ∙
      (rw z at (pages_flat w start 0 (pages - 1) (λ p a b. fill.full p (omega arith)) (rw z fill.most)))

  -- Of the pages counted, each is full or the last.
  last_page : (p : ℕ) → p < pages → ltb (suc p) pages ≡ false → p ≡ pages - 1
  last_page p b t = omega (arith, ltb-false (suc p) pages t)

  count_most : Filled w start pages → (p : ℕ) → p < pages → count_of w start p ≤ 21
  unfolding last_count
  count_most fill p b = chosen (ltb (suc p) pages) refl
    where
      chosen : (t : Bool) → ltb (suc p) pages ≡ t → count_of w start p ≤ 21
      chosen true t = omega (arith, fill.full p (ltb-true (suc p) pages t))
      chosen false t = rw (last_page p b t) fill.most

  used_end_inside : Filled w start pages → (j : ℕ) → start + 64 * pages ≤ j → used_end w start pages ≤ j
  unfolding used_end last_count
  used_end_inside fill j h = omega (arith, count_most fill (pages - 1) (omega arith))

  -- Filled pages that hold the row of slots, with unused words behind it, are the level's words.
  page_holds : (slots : List Slot) → Filled w start pages → slots ≡ span (flat_slot w start) 0 (row_length w start pages) → (p : ℕ) → p < pages →
      page_of slots p ≡ slots_from w (start + 64 * p + 1) (count_of w start p)
  unfolding row_length last_count page_of
  page_holds slots fill e p b = rw e (chosen (ltb (suc p) pages) refl)
    where
      chosen : (t : Bool) → ltb (suc p) pages ≡ t →
          take 21 (drop (21 * p) (span (flat_slot w start) 0 (21 * (pages - 1) + count_of w start (pages - 1)))) ≡
          slots_from w (start + 64 * p + 1) (count_of w start p)
      chosen true t =
          let l = ltb-true (suc p) pages t in
          rw (
            span_drop (flat_slot w start) (21 * p) 0 (21 * (pages - 1) + count_of w start (pages - 1)) (omega arith),
            zero-add (21 * p),
            span_take (flat_slot w start) 21 (21 * p) (21 * (pages - 1) + count_of w start (pages - 1) - 21 * p) (omega arith),
            fill.full p l,
          )
          (sym (page_flat w start p 21 (omega arith)))
      chosen false t =
          let q : p ≡ pages - 1 = last_page p b t in
          let n : 21 * p + count_of w start p - 21 * p ≡ count_of w start p = omega arith in
          let m : count_of w start p ≤ 21 = count_most fill p b in
          rw (← q, span_drop (flat_slot w start) (21 * p) 0 (21 * p + count_of w start p) (omega arith), zero-add (21 * p), n)
          (take_all 21 (span (flat_slot w start) (21 * p) (count_of w start p)) (rw (span_length (flat_slot w start) (21 * p) (count_of w start p)) m) ∙
          sym (page_flat w start p (count_of w start p) m))

  page_rest : Filled w start pages → Unused w (used_end w start pages) (start + 64 * room) → (p j : ℕ) → p < pages →
      start + 64 * p + 1 + 3 * count_of w start p ≤ j → j < start + 64 * suc p → get_or w j 0 ≡ erased
  unfolding used_end last_count
  page_rest fill rest p j b l u = chosen (ltb (suc p) pages) refl
    where
      chosen : (t : Bool) → ltb (suc p) pages ≡ t → get_or w j 0 ≡ erased
      chosen true t = absurd (omega (arith, fill.full p (ltb-true (suc p) pages t)))
      chosen false t = rest.each j (rw (← last_page p b t) (omega arith)) (omega arith)

  page_written : (ss : List Slot) (p : ℕ) → p < room → length ss ≡ count_of w start p → length ss ≤ 21 → ss ≡ slots_from w (start + 64 * p + 1) (count_of w start p) →
      ((j : ℕ) → start + 64 * p + 1 + 3 * count_of w start p ≤ j → j < start + 64 * suc p → get_or w j 0 ≡ erased) →
      take 64 (drop (start + 64 * p) w) ≡ page_words ss
  unfolding page_words count_of
  page_written ss p b n m e rest =
      let at = start + 64 * p + 1 in
      let run : take (3 * 21) (drop at w) ≡ run_words ss 21 =
      run_written w at 21 ss (omega arith) m (rw n e)
      (slice_replicate w (at + 3 * length ss) (3 * (21 - length ss)) erased (omega arith) (λ j l u. rest j (omega arith) (omega arith))) in
      page_split w (start + 64 * p) (omega arith) ∙ rw (n, run) refl

  pub level_written_lem : (slots : List Slot) → Filled w start pages → slots ≡ span (flat_slot w start) 0 (row_length w start pages) →
      Unused w (used_end w start pages) (start + 64 * room) → take (64 * room) (drop start w) ≡ level_words slots room
  level_written_lem slots fill e rest =
      let z : start + 64 * 0 ≡ start = omega arith in
      level_joined (rw z at (pages_joined w start (level_page slots) 0 room (λ p l u. each p (omega arith) (ltb p pages) refl)))
    where
      level_joined : take (64 * room) (drop start w) ≡ concat (span (level_page slots) 0 room) → take (64 * room) (drop start w) ≡ level_words slots room
      level_joined h = h ∙ sym (level_pages slots room)

      counted : pages_for (length slots) ≡ pages
      counted = ap pages_for (ap length e ∙ span_length (flat_slot w start) 0 (row_length w start pages)) ∙ fill.needed

      each : (p : ℕ) → p < room → (t : Bool) → ltb p pages ≡ t → take 64 (drop (start + 64 * p) w) ≡ level_page slots p
      each p u true t =
          let b : p < pages = ltb-true p pages t in
          let h = page_holds slots fill e p b in
          let n : length (page_of slots p) ≡ count_of w start p = ap length h ∙ slots_length w (start + 64 * p + 1) (count_of w start p) in
          page_written (page_of slots p) p u n (page_most slots p) h (λ j l v. page_rest fill rest p j b l v) ∙ sym (page_used slots p (rw counted b))
      each p u false t =
          let b : pages ≤ p = ltb-false p pages t in
          slice_replicate w (start + 64 * p) 64 erased (omega arith) (λ j l v. rest.each j (ends j p b l) (omega arith)) ∙
          sym (page_unused slots p (rw counted b))
        where
          ends : (j p : ℕ) → pages ≤ p → start + 64 * p ≤ j → used_end w start pages ≤ j
          ends j p b l = used_end_inside fill j (omega arith)

  -- Words that are the writing of slots in as many pages: the pages are filled, the row is those slots, and what is behind is unused.
  page_stands : (slots : List Slot) → pages_for (length slots) ≡ pages → take (64 * room) (drop start w) ≡ level_words slots room → (p : ℕ) → p < room →
      take 64 (drop (start + 64 * p) w) ≡ level_page slots p
  page_stands slots c e p b =
      let z : start + 64 * 0 ≡ start = omega arith in
      let y : 0 + room ≡ room = omega arith in
      pages_apart w start (level_page slots) (level_page_length slots) 0 room p (rw y inside) (rw z (e ∙ level_pages slots room)) (omega arith) (rw y b)

  module _ (slots : List Slot) (counted : pages_for (length slots) ≡ pages) (written : take (64 * room) (drop start w) ≡ level_words slots room) where
    page_words_lem : (p : ℕ) → p < pages → get_or w (start + 64 * p) 0 ∷ take (3 * 21) (drop (start + 64 * p + 1) w) ≡ length (page_of slots p) ∷ run_words (page_of slots p) 21
    unfolding page_words
    page_words_lem p b =
        sym (page_split w (start + 64 * p) (omega arith)) ∙ page_stands slots counted written p (omega arith) ∙ page_used slots p (rw counted b)

    pub count_read : (p : ℕ) → p < pages → count_of w start p ≡ length (page_of slots p)
    unfolding count_of
    count_read p b = let h = page_words_lem p b in cc

    run_read : (p : ℕ) → p < pages → take (3 * 21) (drop (start + 64 * p + 1) w) ≡ run_words (page_of slots p) 21
    run_read p b = let h = page_words_lem p b in cc

    pub page_read : (p : ℕ) → p < pages → page_run w start p ≡ page_of slots p
    unfolding page_run
    page_read p b =
        let c = count_read p b in
        let m : min (count_of w start p) 21 ≡ length (page_of slots p) = omega (arith, page_most slots p) in
        rw m (sym (run_slots w (start + 64 * p + 1) 21 (page_of slots p) (omega arith) (page_most slots p) (run_read p b)))

    slots_most : length slots ≤ 21 * pages
    unfolding pages_for
    slots_most = omega arith

    slots_least : 21 * (pages - 1) ≤ length slots
    unfolding pages_for
    slots_least = omega arith

    pub row_length_lem : row_length w start pages ≡ length slots
    unfolding row_length last_count
    row_length_lem = omega (arith, count_read (pages - 1) (omega arith), page_length slots (pages - 1), slots_most, slots_least)

    pub level_filled : Filled w start pages
    unfolding last_count
    level_filled = record {
      full = λ p h. omega (arith, count_read p (omega arith), page_length slots p, slots_least);
      most = omega (arith, count_read (pages - 1) (omega arith), page_most slots (pages - 1));
      needed = rw row_length_lem counted;
    }

    pub level_read : level_run w start pages ≡ slots
    unfolding level_run
    level_read =
        let same : span (page_run w start) 0 pages ≡ span (page_of slots) 0 pages =
        span_agree (page_run w start) (page_of slots) 0 0 pages (λ k b. rw (zero-add k) (page_read k b)) in
        rw same (pages_whole slots 0 pages ∙ take_all (21 * pages) slots slots_most)

    pub level_rest : Unused w (used_end w start pages) (start + 64 * room)
    unfolding used_end last_count
    level_rest = record { each = λ j l u. chosen j l u (ltb j (start + 64 * pages)) refl }
      where
        chosen : (j : ℕ) → start + 64 * (pages - 1) + 1 + 3 * count_of w start (pages - 1) ≤ j → j < start + 64 * room →
            (t : Bool) → ltb j (start + 64 * pages) ≡ t → get_or w j 0 ≡ erased
        chosen j l u true t =
            let b = ltb-true j (start + 64 * pages) t in
            let p = pages - 1 in
            let ss = page_of slots p in
            replicate_slice w (start + 64 * p + 1 + 3 * length ss) (3 * (21 - length ss)) erased j
            (run_rest w (start + 64 * p + 1) 21 ss (omega arith) (page_most slots p) (run_read p (omega arith)))
            (omega (arith, count_read p (omega arith))) (omega (arith, page_most slots p))
        chosen j l u false t =
            let b = ltb-false j (start + 64 * pages) t in
            let p = (j - start) / 64 in
            replicate_slice w (start + 64 * p) 64 erased j
            (page_stands slots counted written p (omega arith) ∙ page_unused slots p (rw counted (omega arith))) (omega arith) (omega arith)
