-- A slot put into a run of slots in words, or taken out of it: the run is then written anew with that slot more or less. Assumes nothing.
use Prim.Native.Nat.{ℕ, suc, ◌+◌, ◌-◌, ◌*◌, ◌≤◌, ◌<◌}
use native.Mathlib.Omega.{arith}
use Rattle.std.specs.Prelude.{◌≡◌, take}
use Rattle.std.proofs.Math.Path.{refl, sym, ap}
use Rattle.std.proofs.Common.{◌∙◌, take-append-drop, drop_at, take-take, take-add, drop-drop}
use mathlib.Core.List.{List, [], ◌∷◌, ◌++◌, append_assoc}
use Rattle.std.proofs.Math.ListN.{length, drop, replicate, length-append, length-drop}
use Rattle.std.proofs.lemmas.List.{length-replicate}
use Rattle.std.proofs.lemmas.List.Edits.{sets}
use Rattle.std.proofs.Math.Seq.{slice, take_at, length-take-le}
use Rattle.laws.specs.Lists.{concat}
use Rattle.laws.specs.Flat.{slice_replicate, replicate_slice}
use Rattle.laws.specs.Sets.{sets_middle}
use Rattle.geometry.specs.Places.{erased}
use Rattle.slot.specs.declared.Slot.{Slot}
use Rattle.slot.specs.Slot.{words_of}
use Rattle.rules.specs.Store.{run_words}
use Rattle.layout.specs.Run.{words_of_all, words_length, run_rest}
use Rattle.edit.specs.Head.{slot_in, slot_out}

-- The words of slots joined, and of the first slots and the later ones.
words_append : (ss ts : List Slot) → words_of_all (ss ++ ts) ≡ words_of_all ss ++ words_of_all ts
unfolding concat
words_append [] ts = refl
words_append (s ∷ ss) ts = ap (λ (l : List ℕ). words_of s ++ l) (words_append ss ts) ∙ sym (append_assoc (words_of s) (words_of_all ss) (words_of_all ts))

module _ (ss : List Slot) (j : ℕ) (h : j ≤ length ss) where
  words_split : words_of_all ss ≡ words_of_all (take j ss) ++ words_of_all (drop j ss)
  words_split = ap words_of_all (sym (take-append-drop j ss)) ∙ words_append (take j ss) (drop j ss)

  first_words : length (words_of_all (take j ss)) ≡ 3 * j
  first_words = words_length (take j ss) ∙ ap (λ (n : ℕ). 3 * n) (length-take-le j ss h)

  words_first : take (3 * j) (words_of_all ss) ≡ words_of_all (take j ss)
  words_first = ap (take (3 * j)) words_split ∙ take_at (words_of_all (take j ss)) (words_of_all (drop j ss)) (3 * j) first_words

  words_later : drop (3 * j) (words_of_all ss) ≡ words_of_all (drop j ss)
  words_later = ap (drop (3 * j)) words_split ∙ drop_at (words_of_all (take j ss)) (words_of_all (drop j ss)) (3 * j) first_words

  later_words : length (words_of_all (drop j ss)) ≡ 3 * (length ss - j)
  later_words = words_length (drop j ss) ∙ ap (λ (n : ℕ). 3 * n) (length-drop j ss)

-- A run that is written at a place, and what stands of it there.
module _ (w : List ℕ) (at room : ℕ) (ss : List Slot) (inside : at + 3 * room ≤ length w) (fits : length ss ≤ room)
    (stands : take (3 * room) (drop at w) ≡ run_words ss room) where
  abbrev used : ℕ
  used = length ss

  used_stand : take (3 * used) (drop at w) ≡ words_of_all ss
  unfolding run_words
  used_stand =
      sym (take-take (3 * used) (3 * room) (drop at w) (omega arith)) ∙ ap (take (3 * used)) stands ∙
      take_at (words_of_all ss) (replicate (3 * (room - used)) erased) (3 * used) (words_length ss)

  first_stand : (j : ℕ) → j ≤ used → take (3 * j) (drop at w) ≡ words_of_all (take j ss)
  first_stand j h = sym (take-take (3 * j) (3 * used) (drop at w) (omega arith)) ∙ ap (take (3 * j)) used_stand ∙ words_first ss j h

  later_stand : (j : ℕ) → j ≤ used → slice (at + 3 * j) (at + 3 * used) w ≡ words_of_all (drop j ss)
  later_stand j h =
      rw (take-add at (3 * used) w, used_stand, ← drop-drop (3 * j) at (take at w ++ words_of_all ss), drop_at (take at w) (words_of_all ss) at (length-take-le at w (omega arith)))
      (words_later ss j h)

  unused_stand : (k : ℕ) → used ≤ k → k ≤ room → take (3 * (room - k)) (drop (at + 3 * k) w) ≡ replicate (3 * (room - k)) erased
  unused_stand k l h =
      slice_replicate w (at + 3 * k) (3 * (room - k)) erased (omega arith)
      (λ i a b. replicate_slice w (at + 3 * used) (3 * (room - used)) erased i (run_rest w at room ss inside fits stands) (omega arith) (omega arith))

  -- Three parts stored at the run's place, of which the first and the last stand already.
  stored : (j k : ℕ) (ys : List ℕ) → j ≤ used → used ≤ k → k ≤ room → length ys ≡ 3 * (k - j) →
      sets w at (words_of_all (take j ss) ++ ys ++ replicate (3 * (room - k)) erased) ≡ sets w (at + 3 * j) ys
  stored j k ys h l b e =
      let xs : List ℕ = words_of_all (take j ss) in
      let zs : List ℕ = replicate (3 * (room - k)) erased in
      let m : length xs ≡ 3 * j = first_words ss j h in
      let n : at + 3 * j + length ys ≡ at + 3 * k = omega arith in
      sets_middle w at xs ys zs (rw m (first_stand j h)) (rw (m, n, length-replicate (3 * (room - k)) erased) (unused_stand k l b)) ∙ rw m refl

  -- A slot more: the later ones move up.
  module _ (s : Slot) (j : ℕ) (h : j ≤ used) (more : suc used ≤ room) where
    with_slot : run_words (take j ss ++ s ∷ drop j ss) room ≡ words_of_all (take j ss) ++ (words_of s ++ words_of_all (drop j ss)) ++ replicate (3 * (room - suc used)) erased
    unfolding run_words concat
    with_slot =
        let n : length (take j ss ++ s ∷ drop j ss) ≡ suc used =
        length-append (take j ss) (s ∷ drop j ss) ∙ omega (arith, length-take-le j ss h, length-drop j ss) in
        rw (n, words_append (take j ss) (s ∷ drop j ss)) refl

    pub run_in : slot_in s (at + 3 * j) (at + 3 * used) w ≡ sets w at (run_words (take j ss ++ s ∷ drop j ss) room)
    unfolding slot_in words_of
    run_in =
        rw (later_stand j h, with_slot)
        (sym (stored j (suc used) (words_of s ++ words_of_all (drop j ss)) h (omega arith) more (omega (arith, later_words ss j h))))

  -- A slot less: the later ones move down, and three words are erased.
  module _ (j : ℕ) (h : j < used) where
    abbrev left : List ℕ
    left = erased ∷ erased ∷ erased ∷ []

    without_slot : run_words (take j ss ++ drop (suc j) ss) room ≡ words_of_all (take j ss) ++ (words_of_all (drop (suc j) ss) ++ left) ++ replicate (3 * (room - used)) erased
    unfolding run_words
    without_slot =
        let xs : List ℕ = words_of_all (take j ss) in
        let ys : List ℕ = words_of_all (drop (suc j) ss) in
        let zs : List ℕ = replicate (3 * (room - used)) erased in
        let n : length (take j ss ++ drop (suc j) ss) ≡ used - 1 =
        length-append (take j ss) (drop (suc j) ss) ∙ omega (arith, length-take-le j ss (omega arith), length-drop (suc j) ss) in
        let m : 3 * (room - (used - 1)) ≡ suc (suc (suc (3 * (room - used)))) = omega arith in
        rw (n, m, words_append (take j ss) (drop (suc j) ss), append_assoc xs ys (erased ∷ erased ∷ erased ∷ zs), append_assoc xs (ys ++ left) zs, append_assoc ys left zs) refl

    pub run_out : slot_out (at + 3 * j) (at + 3 * used) w ≡ sets w at (run_words (take j ss ++ drop (suc j) ss) room)
    unfolding slot_out
    run_out =
        let e : at + 3 * j + 3 ≡ at + 3 * suc j = omega arith in
        let ys : List ℕ = words_of_all (drop (suc j) ss) in
        rw (e, later_stand (suc j) h, without_slot)
        (sym
        (stored j used (ys ++ left) (omega arith) (omega arith) fits
        (length-append ys left ∙ omega (arith, later_words ss (suc j) h))))
