-- A run of slots in words: its words are those of the slots read from it, then unused ones, exactly if it is written so. Assumes nothing.
use Rattle.std.specs.Prelude.{ℕ, zero, suc, ◌+◌, ◌-◌, ◌*◌, ◌≤◌, ◌≡◌, refl, length, get_or, drop, replicate}
use Rattle.std.proofs.Common.{add-one, arith, sym, ◌∙◌, length-append, drop-cons, drop-drop, take-add}
use Rattle.std.proofs.Math.Numerals.{add-two}
use Rattle.std.proofs.Math.Path.{ap}
use mathlib.Core.List.{List, [], ◌∷◌, ◌++◌, map}
use Rattle.std.proofs.Math.ListN.{take}
use Rattle.std.proofs.lemmas.List.{length-replicate}
use Rattle.laws.specs.Lists.{span, concat}
use Rattle.laws.specs.Flat.{span_agree, span_length, append_left, append_right}
use Rattle.geometry.specs.Places.{erased}
use Rattle.slot.specs.declared.Slot.{Slot}
use Rattle.slot.specs.Tag.{kind_of, page_of, tag_of, tag_again, kind_back, page_back}
use Rattle.slot.specs.Slot.{slot_at, words_of}
use Rattle.rules.specs.Store.{run_words}
use Rattle.rules.specs.Sound.{slots_from}

-- The words of slots, one after the other.
abbrev pub words_of_all : List Slot → List ℕ
words_of_all ss = concat (map words_of ss)

-- A slot's words are three, and no two slots have the same.
pub words_three : (s : Slot) → length (words_of s) ≡ 3
unfolding words_of
words_three s = refl

words_one : (a b : Slot) → words_of a ≡ words_of b → a ≡ b
unfolding words_of
words_one a b e =
    let x : a.pair.badge ≡ b.pair.badge = cc in
    let y : a.pair.floor.0 ≡ b.pair.floor.0 = cc in
    let t : tag_of a.kind a.page ≡ tag_of b.kind b.page = cc in
    let k : a.kind ≡ b.kind = sym (kind_back a.kind a.page) ∙ ap kind_of t ∙ kind_back b.kind b.page in
    let p : a.page ≡ b.page = sym (page_back a.kind a.page) ∙ ap page_of t ∙ page_back b.kind b.page in
    λ i. record { pair = record { badge = x i; floor = record { 0 = y i } }; kind = k i; page = p i }

pub words_length : (ss : List Slot) → length (words_of_all ss) ≡ 3 * length ss
unfolding concat
words_length [] = refl
words_length (s ∷ ss) = length-append (words_of s) (words_of_all ss) ∙ omega (arith, words_three s, words_length ss)

-- The words of a run of slots fill its room, where the slots do not pass it.
pub run_words_lem : (slots : List Slot) (n : ℕ) → length slots ≤ n → length (run_words slots n) ≡ 3 * n
unfolding run_words
run_words_lem slots n h =
    length-append (words_of_all slots) (replicate (3 * (n - length slots)) erased) ∙
    omega (arith, words_length slots, length-replicate (3 * (n - length slots)) erased)

words_all : (ss ts : List Slot) → length ss ≡ length ts → words_of_all ss ≡ words_of_all ts → ss ≡ ts
unfolding concat
words_all [] [] l e = refl
words_all [] (t ∷ ts) l e = let z : ◌≡◌ {A = ℕ} 0 1 = omega arith in cc
words_all (s ∷ ss) [] l e = let z : ◌≡◌ {A = ℕ} 0 1 = omega arith in cc
words_all (s ∷ ss) (t ∷ ts) l e =
    let h : length (words_of s) ≡ length (words_of t) = words_three s ∙ sym (words_three t) in
    let a : s ≡ t = words_one s t (append_left (words_of s) (words_of_all ss) (words_of t) (words_of_all ts) h e) in
    let b : ss ≡ ts = words_all ss ts (omega arith) (append_right (words_of s) (words_of_all ss) (words_of t) (words_of_all ts) h e) in
    cc

-- The words of the slots that were read are the words that they were read from.
slot_words : (w : List ℕ) (i : ℕ) → i + 3 ≤ length w → words_of (slot_at w i) ≡ take 3 (drop i w)
unfolding slot_at words_of
slot_words w i h =
    let a : drop i w ≡ get_or w i 0 ∷ drop (suc i) w = drop-cons w i 0 (omega arith) in
    let b : drop (suc i) w ≡ get_or w (suc i) 0 ∷ drop (suc (suc i)) w = drop-cons w (suc i) 0 (omega arith) in
    let c : drop (suc (suc i)) w ≡ get_or w (suc (suc i)) 0 ∷ drop (suc (suc (suc i))) w = drop-cons w (suc (suc i)) 0 (omega arith) in
    rw (tag_again (get_or w (i + 2) 0), a, b, c, add-one i, add-two i) refl

slots_none : (w : List ℕ) (at : ℕ) → slots_from w at 0 ≡ []
unfolding slots_from span
slots_none w at = refl

slots_first : (w : List ℕ) (at m : ℕ) → slots_from w at (suc m) ≡ slot_at w at ∷ slots_from w (at + 3) m
unfolding slots_from span
slots_first w at m =
    let a : at + 3 * 0 ≡ at = omega arith in
    let rest : span (λ j. slot_at w (at + 3 * j)) 1 m ≡ span (λ j. slot_at w (at + 3 + 3 * j)) 0 m =
    span_agree (λ j. slot_at w (at + 3 * j)) (λ j. slot_at w (at + 3 + 3 * j)) 1 0 m (λ k b. ap (slot_at w) (omega arith)) in
    rw (a, rest) refl

pub slots_words : (w : List ℕ) (at m : ℕ) → at + 3 * m ≤ length w → words_of_all (slots_from w at m) ≡ take (3 * m) (drop at w)
unfolding concat
slots_words w at zero h = rw (slots_none w at) refl
slots_words w at (suc m) h =
    let e : 3 * suc m ≡ 3 + 3 * m = omega arith in
    rw (slots_first w at m, e, take-add 3 (3 * m) (drop at w), drop-drop 3 at w, slot_words w at (omega arith), slots_words w (at + 3) m (omega arith)) refl

module _ (w : List ℕ) (at m : ℕ) (ss : List Slot) (inside : at + 3 * m ≤ length w) (fits : length ss ≤ m) where
  abbrev used : ℕ
  used = length ss

  -- The words of the run: those of its used slots, and the rest.
  run_split : take (3 * m) (drop at w) ≡ words_of_all (slots_from w at used) ++ take (3 * (m - used)) (drop (at + 3 * used) w)
  run_split =
      let e : 3 * m ≡ 3 * used + 3 * (m - used) = omega arith in
      rw (e, take-add (3 * used) (3 * (m - used)) (drop at w), drop-drop (3 * used) at w, slots_words w at used (omega arith)) refl

  slots_count : length (slots_from w at used) ≡ used
  unfolding slots_from
  slots_count = span_length (λ j. slot_at w (at + 3 * j)) 0 used

  words_count : length (words_of_all (slots_from w at used)) ≡ length (words_of_all ss)
  words_count = words_length (slots_from w at used) ∙ ap (λ (n : ℕ). 3 * n) slots_count ∙ sym (words_length ss)

  -- Slots that stand in the run, with unused words behind them, are written in it; and slots that are written in it stand in it.
  pub run_written : ss ≡ slots_from w at used → take (3 * (m - used)) (drop (at + 3 * used) w) ≡ replicate (3 * (m - used)) erased →
      take (3 * m) (drop at w) ≡ run_words ss m
  unfolding run_words
  run_written e f = run_split ∙ ap (λ (l : List Slot). words_of_all l ++ take (3 * (m - used)) (drop (at + 3 * used) w)) (sym e) ∙ ap (λ (l : List ℕ). words_of_all ss ++ l) f

  pub run_slots : take (3 * m) (drop at w) ≡ run_words ss m → ss ≡ slots_from w at used
  unfolding run_words
  run_slots e =
      words_all ss (slots_from w at used) (sym slots_count)
      (sym
      (append_left (words_of_all (slots_from w at used)) (take (3 * (m - used)) (drop (at + 3 * used) w)) (words_of_all ss) (replicate (3 * (m - used)) erased)
      words_count (sym run_split ∙ e)))

  pub run_rest : take (3 * m) (drop at w) ≡ run_words ss m → take (3 * (m - used)) (drop (at + 3 * used) w) ≡ replicate (3 * (m - used)) erased
  unfolding run_words
  run_rest e =
      append_right (words_of_all (slots_from w at used)) (take (3 * (m - used)) (drop (at + 3 * used) w)) (words_of_all ss) (replicate (3 * (m - used)) erased)
      words_count (sym run_split ∙ e)
