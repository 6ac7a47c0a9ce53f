-- A level's words in a lent area, slot by slot: those of no slots, and those of one slot more. Assumes nothing.
use Prim.Native.Nat.{ℕ, zero, suc, ◌+◌, ◌-◌, ◌*◌, ◌/◌, ◌%◌, ◌≤◌, ◌<◌}
use Rattle.std.proofs.Math.Nat.{zero-add}
use Rattle.std.proofs.Common.{suc-add, ◌∙◌, length-set, drop_of_length-le, ltb-true, ltb-false}
use native.Mathlib.Omega.{arith}
use Rattle.std.specs.Prelude.{◌≡◌, Bool, true, false, drop, set, replicate, ltb}
use Rattle.std.proofs.Math.Path.{refl, sym, ap}
use mathlib.Core.List.{List, [], ◌∷◌, ◌++◌, append_assoc, append-nil}
use Rattle.std.proofs.Math.ListN.{length, length-append, length-drop}
use Rattle.std.proofs.lemmas.List.{length-replicate, replicate-append-replicate, set-append_left, take-append-le, drop-append-le}
use Rattle.std.proofs.lemmas.List.Edits.{sets, sets-eq}
use Rattle.std.proofs.Math.Seq.{length-sets, take_all}
use Rattle.laws.specs.Lists.{span, concat}
use Rattle.laws.specs.Flat.{concat_append, span_append, span_agree}
use Rattle.geometry.specs.Places.{erased, words_in_page, words_in_slot, slots_in_page}
use Rattle.slot.specs.declared.Slot.{Slot}
use Rattle.slot.specs.Slot.{words_of}
use Rattle.rules.specs.Level.{pages_for, page_of}
use Rattle.rules.specs.Store.{run_words, page_words, level_words}
use Rattle.layout.specs.Run.{words_of_all, words_three, words_length}
use Rattle.layout.specs.Pages.{level_page, level_pages, page_used, page_unused, level_page_length}

-- Words with a slot put at position n of the row that begins with them: its three words, and its page's count.
unfoldable pub slot_put : List ℕ → ℕ → Slot → List ℕ
slot_put w n s = set (sets w (words_in_page * (n / slots_in_page) + 1 + words_in_slot * (n % slots_in_page)) (words_of s)) (words_in_page * (n / slots_in_page)) (n % slots_in_page + 1)

-- Stores in one part of joined lists -----------------------------------------------------------------------------------------------------------

module _ {A : Type 0} where
  set_right : (xs ys : List A) (i : ℕ) (a : A) → set (xs ++ ys) (length xs + i) a ≡ xs ++ set ys i a
  set_right [] ys i a = rw (zero-add i) refl
  set_right (x ∷ xs) ys i a = rw (suc-add (length xs) i) (ap (λ (l : List A). x ∷ l) (set_right xs ys i a))

  sets_right : (xs ys : List A) (i : ℕ) (vs : List A) → sets (xs ++ ys) (length xs + i) vs ≡ xs ++ sets ys i vs
  sets_right xs ys i [] = refl
  sets_right xs ys i (v ∷ vs) =
      let e : suc (length xs + i) ≡ length xs + suc i = omega arith in
      rw (set_right xs ys i v, e) (sets_right xs (set ys i v) (suc i) vs)

  sets_left : (xs ys : List A) (i : ℕ) (vs : List A) → i + length vs ≤ length xs → sets (xs ++ ys) i vs ≡ sets xs i vs ++ ys
  sets_left xs ys i [] h = refl
  sets_left xs ys i (v ∷ vs) h = rw (set-append_left xs ys i v (omega arith)) (sets_left (set xs i v) ys (suc i) vs (simp length-set (omega arith)))

-- Stores in the middle part of three, the last of them at its beginning.
stored_between : (a p c : List ℕ) (j v : ℕ) (vs : List ℕ) → j + length vs ≤ length p → 0 < j →
    set (sets (a ++ (p ++ c)) (length a + j) vs) (length a + 0) v ≡ a ++ (set (sets p j vs) 0 v ++ c)
stored_between a p c j v vs h k =
    rw (sets_right a (p ++ c) j vs, sets_left p c j vs h, set_right a (sets p j vs ++ c) 0 v)
    (ap (λ (l : List ℕ). a ++ l) (set-append_left (sets p j vs) c 0 v (omega (arith, length-sets p j vs))))

-- A level's pages around one of them -----------------------------------------------------------------------------------------------------------

module _ (f : ℕ → List ℕ) where
  pages_around : (q room : ℕ) → q < room → concat (span f 0 room) ≡ concat (span f 0 q) ++ (f q ++ concat (span f (suc q) (room - suc q)))
  unfolding concat span
  pages_around q room h =
      let e : room ≡ q + suc (room - suc q) = omega arith in
      ap (λ (n : ℕ). concat (span f 0 n)) e ∙ rw (span_append f 0 q (suc (room - suc q)), zero-add q) (concat_append (span f 0 q) (f q ∷ span f (suc q) (room - suc q)))

  pages_length : ((p : ℕ) → length (f p) ≡ 64) → (i m : ℕ) → length (concat (span f i m)) ≡ 64 * m
  unfolding concat span
  pages_length h i zero = refl
  pages_length h i (suc m) = length-append (f i) (concat (span f (suc i) m)) ∙ omega (arith, h i, pages_length h (suc i) m)

  pages_blank : (i m : ℕ) → ((p : ℕ) → i ≤ p → f p ≡ replicate 64 erased) → concat (span f i m) ≡ replicate (64 * m) erased
  unfolding concat span
  pages_blank i zero h = refl
  pages_blank i (suc m) h =
      let e : 64 * suc m ≡ 64 + 64 * m = omega arith in
      rw (h i (omega arith), pages_blank (suc i) m (λ p l. h p (omega arith)), e) (replicate-append-replicate 64 (64 * m) erased)

-- A page with one slot more --------------------------------------------------------------------------------------------------------------------

words_more : (ss : List Slot) (s : Slot) → words_of_all (ss ++ s ∷ []) ≡ words_of_all ss ++ words_of s
unfolding concat
words_more [] s = append-nil (words_of s)
words_more (r ∷ ss) s = rw (words_more ss s) (sym (append_assoc (words_of r) (words_of_all ss) (words_of s)))

-- A run of unused slots takes the slot first.
blank_takes : (k : ℕ) (s : Slot) → sets (replicate (suc (suc (suc k))) erased) 0 (words_of s) ≡ words_of s ++ replicate k erased
unfolding words_of
blank_takes k s = refl

run_more : (ss : List Slot) (s : Slot) → length ss < 21 → sets (run_words ss 21) (3 * length ss) (words_of s) ≡ run_words (ss ++ s ∷ []) 21
unfolding run_words
run_more ss s h =
    let e : 3 * length ss ≡ length (words_of_all ss) + 0 = omega (arith, words_length ss) in
    let k : 3 * (21 - length ss) ≡ suc (suc (suc (3 * (20 - length ss)))) = omega arith in
    let n : 3 * (21 - length (ss ++ s ∷ [])) ≡ 3 * (20 - length ss) = omega (arith, length-append ss (s ∷ [])) in
    let rest : List ℕ = replicate (3 * (20 - length ss)) erased in
    rw (n, words_more ss s)
    (rw (e, k)
    (sets_right (words_of_all ss) (replicate (suc (suc (suc (3 * (20 - length ss))))) erased) 0 (words_of s) ∙
    rw (blank_takes (3 * (20 - length ss)) s) (sym (append_assoc (words_of_all ss) (words_of s) rest))))

page_more : (c : ℕ) (ss : List Slot) (s : Slot) → length ss < 21 →
    set (sets (c ∷ run_words ss 21) (1 + 3 * length ss) (words_of s)) 0 (length ss + 1) ≡ page_words (ss ++ s ∷ [])
unfolding page_words
page_more c ss s h = rw (sets_right (c ∷ []) (run_words ss 21) (3 * length ss) (words_of s), run_more ss s h, length-append ss (s ∷ [])) refl

-- A level with one slot more: the page that takes it changes, and no other -----------------------------------------------------------------------

module _ (slots : List Slot) (s : Slot) where
  abbrev page : ℕ
  page = length slots / 21

  more_length : length (slots ++ s ∷ []) ≡ length slots + 1
  more_length = length-append slots (s ∷ [])

  page_before : (p : ℕ) → p < page → level_page slots p ≡ level_page (slots ++ s ∷ []) p
  unfolding page_of pages_for
  page_before p h =
      let full : 21 ≤ length (drop (21 * p) slots) = omega (arith, length-drop (21 * p) slots) in
      page_used slots p (omega arith) ∙
      ap page_words (sym (rw (drop-append-le (21 * p) slots (s ∷ []) (omega arith)) (take-append-le 21 (drop (21 * p) slots) (s ∷ []) full))) ∙
      sym (page_used (slots ++ s ∷ []) p (omega (arith, more_length)))

  page_after : (p : ℕ) → page < p → level_page slots p ≡ level_page (slots ++ s ∷ []) p
  unfolding pages_for
  page_after p h = page_unused slots p (omega arith) ∙ sym (page_unused (slots ++ s ∷ []) p (omega (arith, more_length)))

  -- The slots of the page that takes it.
  last_length : length (drop (21 * page) slots) ≡ length slots % 21
  last_length = length-drop (21 * page) slots ∙ omega arith

  page_last : page_of slots page ≡ drop (21 * page) slots
  unfolding page_of
  page_last = take_all 21 (drop (21 * page) slots) (omega (arith, last_length))

  page_longer : page_of (slots ++ s ∷ []) page ≡ drop (21 * page) slots ++ s ∷ []
  unfolding page_of
  page_longer =
      rw (drop-append-le (21 * page) slots (s ∷ []) (omega arith))
      (take_all 21 (drop (21 * page) slots ++ s ∷ []) (omega (arith, last_length, length-append (drop (21 * page) slots) (s ∷ []))))

  page_takes : set (sets (level_page slots page) (1 + 3 * (length slots % 21)) (words_of s)) 0 (length slots % 21 + 1) ≡ level_page (slots ++ s ∷ []) page
  unfolding pages_for page_words run_words concat
  page_takes = chosen (ltb page (pages_for (length slots))) refl
    where
      used : level_page (slots ++ s ∷ []) page ≡ page_words (drop (21 * page) slots ++ s ∷ [])
      used = page_used (slots ++ s ∷ []) page (omega (arith, more_length)) ∙ ap page_words page_longer

      takes : (c : ℕ) →
          set (sets (c ∷ run_words (drop (21 * page) slots) 21) (1 + 3 * (length slots % 21)) (words_of s)) 0 (length slots % 21 + 1) ≡ level_page (slots ++ s ∷ []) page
      takes c = rw (← last_length) (page_more c (drop (21 * page) slots) s (omega (arith, last_length))) ∙ sym used

      chosen : (b : Bool) → ltb page (pages_for (length slots)) ≡ b →
          set (sets (level_page slots page) (1 + 3 * (length slots % 21)) (words_of s)) 0 (length slots % 21 + 1) ≡ level_page (slots ++ s ∷ []) page
      chosen true t = rw (page_used slots page (ltb-true page (pages_for (length slots)) t), page_last) (takes (length (drop (21 * page) slots)))
      chosen false t =
          let over : pages_for (length slots) ≤ page = ltb-false page (pages_for (length slots)) t in
          let none : drop (21 * page) slots ≡ [] = drop_of_length-le slots {i = 21 * page} (omega arith) in
          rw (page_unused slots page over) (rw none at (takes erased))

  -- The level's words of the slots and one more are those of the slots with it put behind them.
  pub slot_appended : (room : ℕ) → length slots < 21 * room → slot_put (level_words slots room) (length slots) s ≡ level_words (slots ++ s ∷ []) room
  unfolding slot_put
  slot_appended room h =
      let before : List ℕ = concat (span (level_page slots) 0 page) in
      let here : List ℕ = level_page slots page in
      let after : List ℕ = concat (span (level_page slots) (suc page) (room - suc page)) in
      let number : ℕ = length slots % 21 in
      let size : length before ≡ 64 * page = pages_length (level_page slots) (level_page_length slots) 0 page in
      let place : 64 * page + 1 + 3 * number ≡ length before + (1 + 3 * number) = omega (arith, size) in
      let start : 64 * page ≡ length before + 0 = omega (arith, size) in
      let fits : 1 + 3 * number + length (words_of s) ≤ length here = omega (arith, level_page_length slots page, words_three s) in
      ap (λ (w : List ℕ). slot_put w (length slots) s) (level_pages slots room ∙ pages_around (level_page slots) page room (omega arith)) ∙
      rw (place, start) (stored_between before here after (1 + 3 * number) (number + 1) (words_of s) fits (omega arith) ∙
      rw (page_takes, same_before, same_after (room - suc page)) (sym (level_pages (slots ++ s ∷ []) room ∙ pages_around (level_page (slots ++ s ∷ [])) page room (omega arith))))
    where
      same_before : concat (span (level_page slots) 0 page) ≡ concat (span (level_page (slots ++ s ∷ [])) 0 page)
      same_before = ap concat (span_agree (level_page slots) (level_page (slots ++ s ∷ [])) 0 0 page (λ k b. rw (zero-add k) (page_before k b)))

      same_after : (m : ℕ) → concat (span (level_page slots) (suc page) m) ≡ concat (span (level_page (slots ++ s ∷ [])) (suc page) m)
      same_after m = ap concat (span_agree (level_page slots) (level_page (slots ++ s ∷ [])) (suc page) (suc page) m (λ k b. page_after (suc page + k) (omega arith)))

-- Slots put one behind the other --------------------------------------------------------------------------------------------------------------

-- An area with slots put from position n on, and the position behind them.
unfoldable pub slots_put : List ℕ → ℕ → List Slot → List ℕ × ℕ
slots_put work n [] = (work, n)
slots_put work n (s ∷ ss) = slots_put (slot_put work n s) (n + 1) ss

pub put_joined : (work : List ℕ) (n : ℕ) (ss ts : List Slot) → slots_put work n (ss ++ ts) ≡ slots_put (slots_put work n ss).0 (slots_put work n ss).1 ts
unfolding slots_put
put_joined work n [] ts = refl
put_joined work n (s ∷ ss) ts = put_joined (slot_put work n s) (n + 1) ss ts

pub put_count : (work : List ℕ) (n : ℕ) (ss : List Slot) → (slots_put work n ss).1 ≡ n + length ss
unfolding slots_put
put_count work n [] = omega arith
put_count work n (s ∷ ss) = omega (arith, put_count (slot_put work n s) (n + 1) ss)

-- Put behind the slots of a level they make the level of all.
pub slots_appended : (room : ℕ) (ss ts : List Slot) → length ss + length ts ≤ 21 * room →
    slots_put (level_words ss room) (length ss) ts ≡ (level_words (ss ++ ts) room, length (ss ++ ts))
unfolding slots_put
slots_appended room ss [] h = rw (append-nil ss) refl
slots_appended room ss (t ∷ ts) h =
    rw (slot_appended ss t room (omega arith), ← (more_length ss t))
    (slots_appended room (ss ++ t ∷ []) ts (omega (arith, more_length ss t)) ∙ rw (append_assoc ss (t ∷ []) ts) refl)

-- The level without slots: one page with none, and all else unused ---------------------------------------------------------------------------------

pub level_empty : (room : ℕ) → 1 ≤ room → set (replicate (64 * room) erased) 0 0 ≡ level_words [] room
unfolding pages_for page_of page_words run_words concat span
level_empty room h =
    let e : 64 * room ≡ suc (63 + 64 * (room - 1)) = omega arith in
    let first : level_page [] 0 ≡ 0 ∷ replicate 63 erased = page_used [] 0 (omega arith) in
    let rest : concat (span (level_page []) 1 (room - 1)) ≡ replicate (64 * (room - 1)) erased = pages_blank (level_page []) 1 (room - 1) (λ p l. page_unused [] p (omega arith)) in
    let all : level_words [] room ≡ 0 ∷ replicate 63 erased ++ replicate (64 * (room - 1)) erased =
    level_pages [] room ∙ pages_around (level_page []) 0 room h ∙ rw (first, rest) refl in
    rw e (sym (all ∙ ap (λ (l : List ℕ). 0 ∷ l) (replicate-append-replicate 63 (64 * (room - 1)) erased)))

-- All words set to unused.
pub all_erased : (w : List ℕ) → sets w 0 (replicate (length w) erased) ≡ replicate (length w) erased
all_erased w =
    let n : length (replicate (length w) erased) ≡ length w = length-replicate (length w) erased in
    sets-eq (replicate (length w) erased) w 0 (omega arith) ∙
    rw (drop_of_length-le w {i = 0 + length (replicate (length w) erased)} (omega arith)) (append-nil (replicate (length w) erased))

-- A level's words fill its room.
pub level_length : (slots : List Slot) (room : ℕ) → length (level_words slots room) ≡ 64 * room
level_length slots room = ap length (level_pages slots room) ∙ pages_length (level_page slots) (level_page_length slots) 0 room
