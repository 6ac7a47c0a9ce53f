-- 11: the slot with which the head breaks what ask tests of it. Assumes nothing.
use Prim.Native.Nat.{ℕ, zero, suc, ◌+◌, ◌-◌, ◌*◌, ◌≤◌, ◌<◌, min}
use Rattle.std.proofs.Common.{zero-add, sym, ◌∙◌, take-suc}
use native.Mathlib.Omega.{arith}
use Rattle.std.specs.Prelude.{◌≡◌, Bool, ◌&&◌, cond, ◌≢◌, List, [], ◌∷◌, ◌++◌, ltb, eqb}
use Rattle.std.proofs.Math.Path.{refl, ap}
use Rattle.std.proofs.Math.Bool.{true, false}
use Rattle.std.proofs.lemmas.Bool.{false≢true}
use Rattle.std.proofs.Math.ListN.{length, get_or, take, length-map}
use Rattle.std.proofs.Math.Dec.{leb}
use borrow.Author.Tests.{leb-true, leb-false, ltb-true, ltb-false, lt-ltb, le-leb, eqb-true, eqb-false}
use Rattle.laws.specs.Tests.{and_right, and_true, and_six}
use Rattle.laws.specs.Lists.{span, all, equal, length_span, get_d_span, all_at, passing, passing_small}
use Rattle.laws.specs.Flat.{all_first, all_rest, all_join, equal_true, equal_refl}
use Rattle.geometry.specs.declared.Geometry.{Geometry}
use Rattle.geometry.specs.Geometry.{InRange}
use Rattle.geometry.specs.Places.{head_count_word, head_start, head_room, head_place, words_in_slot}
use Rattle.geometry.specs.Directory.{pages_of}
use Rattle.slot.specs.declared.Slot.{Slot}
use Rattle.slot.specs.Slot.{slot_at}
use Rattle.slot.specs.declared.Kind.{Kind}
use Rattle.slot.specs.declared.Kind.TheVariants.{Normal, Filter, External, Internal}
use Rattle.rules.specs.Level.{fence_kind}
use Rattle.rules.specs.Sound.{slots_from, head_slots, entries_of, directory_right, follows, in_order, legal_kind, legal, fence_pages, first_is_least, head_right}
use Rattle.rules.specs.Faults.{breaking, head_rule, head_slot}
use Rattle.rules.specs.Directed.{pages_least}
use Rattle.rules.specs.Woven.{fence, pages_fence}
use Rattle.faults.specs.Chains.{linked, unlinked}
use Rattle.faults.specs.Slots.{order_up, legal_up, entry_up, pages_other, in_turn, turn_up, least_first, least_up}
use Rattle.faults.specs.Broken.{BreaksAt, breaks_first, none_breaks, none_keeps}

-- Slot s of the head is wrong: it holds the Hth index entry; it is out of order after the slot before it; its tag is not legal; it is a fence that
-- does not name the next page in turn; or it is the first slot and not the least fence.
pub data SlotWrong (g : Geometry) (w : List ℕ) (s : ℕ) : Type 0 where
  full_entry : fence (slot_at w (head_place s)) ≡ false → suc (length (entries_of (take s (head_slots g w)))) ≡ g.head → SlotWrong g w s
  out_of_order : 1 ≤ s → follows (slot_at w (head_place (s - 1))) (slot_at w (head_place s)) ≡ false → SlotWrong g w s
  illegal_tag : legal false (pages_of g w 1) (slot_at w (head_place s)) ≡ false → SlotWrong g w s
  out_of_turn : fence (slot_at w (head_place s)) ≡ true → (slot_at w (head_place s)).page.0 ≢ length (fence_pages (take s (head_slots g w))) → SlotWrong g w s
  not_least : s ≡ 0 → first_is_least (head_slots g w) ≡ false → SlotWrong g w s

-- Where the head breaks what ask tests of it: its count is out of range, which is told as slot 0; the slots that it counts keep the rules before
-- slot s and not with it, since that slot is wrong; or they keep them all, and there are fewer fences than level 1 has pages, which is told as
-- slot 0 too.
pub data HeadBreaks (g : Geometry) (w : List ℕ) (s : ℕ) : Type 0 where
  count_out : head_room g < get_or w head_count_word 0 → s ≡ 0 → HeadBreaks g w s
  slot_breaks : get_or w head_count_word 0 ≤ head_room g → s < get_or w head_count_word 0 → BreaksAt (head_rule g w) (head_slots g w) s → SlotWrong g w s → HeadBreaks g w s
  fences_few : get_or w head_count_word 0 ≤ head_room g → ((n : ℕ) → n < get_or w head_count_word 0 → head_rule g w (take (suc n) (head_slots g w)) ≡ true) →
      length (fence_pages (head_slots g w)) < pages_of g w 1 → s ≡ 0 → HeadBreaks g w s

-- Fences with legal tags name pages that the level below has.
fence_legal : (inner : Bool) (below : ℕ) (k : Kind) (page : ℕ) → fence_kind k ≡ true → legal_kind inner below k page ≡ true → ltb page below ≡ true
fence_legal inner below Normal page f e = absurd (false≢true f)
fence_legal inner below Filter page f e = absurd (false≢true f)
fence_legal inner below External page f e = e
fence_legal inner below Internal page f e = and_right inner (ltb page below) e

fences_below_lem : (inner : Bool) (below : ℕ) (ss : List Slot) → all (legal inner below) ss ≡ true → all (λ p. ltb p below) (fence_pages ss) ≡ true
unfolding fence_pages legal all passing
fences_below_lem inner below [] e = refl
fences_below_lem inner below (s ∷ ss) e = chosen (fence s) refl (fences_below_lem inner below ss (all_rest (legal inner below) s ss e))
  where
    chosen : (b : Bool) → fence s ≡ b → all (λ p. ltb p below) (fence_pages ss) ≡ true → all (λ p. ltb p below) (fence_pages (s ∷ ss)) ≡ true
    chosen true f rest =
        rw (pages_fence s ss f)
        (all_join (λ p. ltb p below) s.page.0 (fence_pages ss) (fence_legal inner below s.kind s.page.0 f (all_first (legal inner below) s ss e)) rest)
    chosen false f rest = rw (pages_other s ss f) rest

-- So fences in turn with legal tags are no more than the pages below.
fences_most : (inner : Bool) (below : ℕ) (ss : List Slot) → all (legal inner below) ss ≡ true →
    fence_pages ss ≡ span (λ p. p) 0 (length (fence_pages ss)) → length (fence_pages ss) ≤ below
fences_most inner below ss e turn = chosen (ltb below (length (fence_pages ss))) refl
  where
    chosen : (b : Bool) → ltb below (length (fence_pages ss)) ≡ b → length (fence_pages ss) ≤ below
    chosen true t =
        let more : below < length (fence_pages ss) = ltb-true _ _ t in
        let named : get_or (fence_pages ss) below 0 ≡ below =
        ap (λ (l : List ℕ). get_or l below 0) turn ∙ get_d_span (λ p. p) 0 (length (fence_pages ss)) below 0 more ∙ zero-add below in
        let less : get_or (fence_pages ss) below 0 < below = ltb-true _ _ (all_at (λ p. ltb p below) (fence_pages ss) below 0 (fences_below_lem inner below ss e) more) in
        absurd (omega arith)
    chosen false t = ltb-false _ _ t

module _ (g : Geometry) (w : List ℕ) where
  abbrev ss : List Slot
  ss = head_slots g w

  head_counted : get_or w head_count_word 0 ≤ head_room g → length ss ≡ get_or w head_count_word 0
  unfolding head_slots slots_from
  head_counted h = length_span _ 0 (min (get_or w head_count_word 0) (head_room g)) ∙ omega arith

  -- A head that keeps every rule of its slots and is not right has too few fences.
  rules_kept : get_or w head_count_word 0 ≤ head_room g → head_right g w ≡ false → head_rule g w ss ≡ true → length (fence_pages ss) < pages_of g w 1
  unfolding head_right head_rule
  rules_kept h wrong kept = chosen (eqb (length (fence_pages ss)) (pages_of g w 1)) refl
    where
      parts : (ltb (length (entries_of ss)) g.head ≡ true) × (in_order ss ≡ true) × (all (legal false (pages_of g w 1)) ss ≡ true) ×
          (fence_pages ss ≡ span (λ p. p) 0 (length (fence_pages ss))) × (first_is_least ss ≡ true)
      parts =
          let told = and_six true (ltb (length (entries_of ss)) g.head) (in_order ss) (all (legal false (pages_of g w 1)) ss) _ (first_is_least ss) kept in
          (told.1, told.2, told.3, equal_true _ _ told.4, told.5)

      unequal : equal (fence_pages ss) (span (λ p. p) 0 (pages_of g w 1)) ≡ false
      unequal = sym (and_true _) ∙ rw (le-leb _ _ h, parts.0, parts.1, parts.2, parts.4) at wrong

      chosen : (b : Bool) → eqb (length (fence_pages ss)) (pages_of g w 1) ≡ b → length (fence_pages ss) < pages_of g w 1
      chosen true t =
          let same : fence_pages ss ≡ span (λ p. p) 0 (pages_of g w 1) = parts.3 ∙ ap (span (λ p. p) 0) (eqb-true _ _ t) in
          absurd (false≢true (sym unequal ∙ rw (← same) (equal_refl (fence_pages ss))))
      chosen false t =
          let other : length (fence_pages ss) ≢ pages_of g w 1 = eqb-false _ _ t in
          omega (arith, fences_most false (pages_of g w 1) ss parts.2 parts.3)

  -- So has a head with no slot at all.
  none_few : InRange g → directory_right g w ≡ true → length ss ≡ 0 → length (fence_pages ss) < pages_of g w 1
  unfolding fence_pages
  none_few fit right none =
      let some = pages_least g w right 1 (omega arith) (omega arith) (omega (arith, fit.levels_least)) in
      omega (arith, length-map (passing fence ss) (λ s. s.page.0), passing_small fence ss)

  -- The slot with which a rule is broken is wrong, as all before it keep the rules.
  slot_read : (d : Slot) (s : ℕ) → s < length ss → get_or ss s d ≡ slot_at w (head_place s)
  unfolding head_slots slots_from head_place
  slot_read d s h =
      let n = min (get_or w head_count_word 0) (head_room g) in
      get_d_span (λ j. slot_at w (head_start + words_in_slot * j)) 0 n s d (rw (length_span _ 0 n) at h) ∙ ap (slot_at w) (omega arith)

  record Kept (s : ℕ) : Type 0 where
    few : length (entries_of (take s ss)) < g.head
    ordered : in_order (take s ss) ≡ true
    tagged : all (legal false (pages_of g w 1)) (take s ss) ≡ true
    turned : in_turn (fence_pages (take s ss)) ≡ true
    led : 1 ≤ s → first_is_least (take s ss) ≡ true

  kept_before : InRange g → (s : ℕ) → ((n : ℕ) → n < s → head_rule g w (take (suc n) ss) ≡ true) → Kept s
  unfolding head_rule entries_of in_order all fence_pages passing equal span
  kept_before fit zero before = record { few = omega (arith, fit.head_least); ordered = refl; tagged = refl; turned = refl; led = λ h. absurd (omega arith) }
  kept_before fit (suc n) before =
      let front = take (suc n) ss in
      let told = and_six true (ltb (length (entries_of front)) g.head) (in_order front) (all (legal false (pages_of g w 1)) front) _ (first_is_least front) (before n (omega arith)) in
      record { few = ltb-true _ _ told.1; ordered = told.2; tagged = told.3; turned = told.4; led = λ h. told.5 }

  slot_wrong : InRange g → (s : ℕ) → BreaksAt (head_rule g w) ss s → SlotWrong g w s
  unfolding head_rule
  slot_wrong fit s at =
      by (ltb (length (entries_of more)) g.head) refl (linked follows ss s d) refl (legal false (pages_of g w 1) x) refl (in_turn (fence_pages more)) refl (first_is_least more) refl
    where
      d : Slot
      d = slot_at w 0

      x : Slot
      x = get_or ss s d

      more : List Slot
      more = take (suc s) ss

      front : Kept s
      front = kept_before fit s at.before

      one_more : more ≡ take s ss ++ x ∷ []
      one_more = take-suc ss s d at.within

      read : x ≡ slot_at w (head_place s)
      read = slot_read d s at.within

      first_slot : first_is_least more ≡ false → (b : Bool) → leb 1 s ≡ b → SlotWrong g w s
      first_slot e true t =
          let some : 1 ≤ s = leb-true 1 s t in
          absurd (false≢true (sym e ∙ least_up ss s some ∙ front.led some))
      first_slot e false t =
          let none : s ≡ 0 = omega (arith, leb-false 1 s t) in
          not_least none (sym (least_first ss s) ∙ e)

      by : (a : Bool) → ltb (length (entries_of more)) g.head ≡ a → (b : Bool) → linked follows ss s d ≡ b → (c : Bool) → legal false (pages_of g w 1) x ≡ c →
          (e : Bool) → in_turn (fence_pages more) ≡ e → (l : Bool) → first_is_least more ≡ l → SlotWrong g w s
      by false p b q c r e t l u =
          let told = entry_up g.head (take s ss) x front.few (rw one_more at p) in
          full_entry (rw read at told.0) told.1
      by true p false q c r e t l u =
          let told = unlinked follows ss s d q in
          out_of_order told.0 (rw (read, slot_read d (s - 1) (omega (arith, at.within))) at told.1)
      by true p true q false r e t l u = illegal_tag (rw read at r)
      by true p true q true r false t l u =
          let told = turn_up (take s ss) x front.turned (rw one_more at t) in
          out_of_turn (rw read at told.0) (rw read at told.1)
      by true p true q true r true t false u = first_slot u (leb 1 s) refl
      by true p true q true r true t true u =
          absurd (false≢true (sym at.breaks ∙
          rw (p, order_up ss s d at.within, legal_up (legal false (pages_of g w 1)) ss s d at.within, front.ordered, front.tagged, q, r, t, u) refl))

  pub head_breaks : InRange g → directory_right g w ≡ true → head_right g w ≡ false → HeadBreaks g w (head_slot g w)
  unfolding head_slot breaking
  head_breaks fit right wrong = chosen (leb (get_or w head_count_word 0) (head_room g)) refl (ltb (breaking (head_rule g w) ss) (length ss)) refl
    where
      few : get_or w head_count_word 0 ≤ head_room g → length ss ≤ breaking (head_rule g w) ss → (b : Bool) → leb 1 (length ss) ≡ b → length (fence_pages ss) < pages_of g w 1
      few h none true t = rules_kept h wrong (none_keeps (head_rule g w) ss none (leb-true _ _ t))
      few h none false t = none_few fit right (omega (arith, leb-false 1 (length ss) t))

      chosen : (b : Bool) → leb (get_or w head_count_word 0) (head_room g) ≡ b → (c : Bool) → ltb (breaking (head_rule g w) ss) (length ss) ≡ c →
          HeadBreaks g w (cond (b && c) (breaking (head_rule g w) ss) 0)
      chosen true t true u =
          let h = leb-true _ _ t in
          let within : breaking (head_rule g w) ss < length ss = ltb-true _ _ u in
          let first = breaks_first (head_rule g w) ss within in
          slot_breaks h (omega (arith, head_counted h)) first (slot_wrong fit _ first)
      chosen true t false u =
          let h = leb-true _ _ t in
          let none : length ss ≤ breaking (head_rule g w) ss = ltb-false _ _ u in
          fences_few h (λ n v. none_breaks (head_rule g w) ss none n (omega (arith, head_counted h))) (few h none (leb 1 (length ss)) refl) refl
      chosen false t c u = count_out (leb-false _ _ t) refl

-- A slot that breaks a rule of the head is one that the head counts.
pub head_slot_counted : (g : Geometry) (w : List ℕ) → get_or w head_count_word 0 ≤ head_room g → breaking (head_rule g w) (head_slots g w) < length (head_slots g w) →
    head_slot g w < get_or w head_count_word 0
unfolding head_slot
head_slot_counted g w h within = rw (le-leb _ _ h, lt-ltb _ _ within) (omega (arith, head_counted g w h))
