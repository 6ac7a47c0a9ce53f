-- The page that the fences above lead to tells of the pair what its whole row does. Assumes nothing.
use Prim.Native.Nat.{ℕ, zero, suc, ◌+◌, ◌*◌, ◌≤◌, ◌<◌}
use native.Mathlib.Omega.{arith}
use Rattle.std.specs.Prelude.{◌≡◌, Bool, false, length, get_or, drop, ltb}
use Rattle.std.proofs.Math.Path.{refl, sym, ap}
use Rattle.std.proofs.Common.{◌∙◌, take-append-drop, drop_of_length-le, drop-cons, drop-drop, ltb-true, ltb-false}
use Rattle.std.proofs.Math.Bool.{true}
use Rattle.std.proofs.lemmas.Bool.{false≢true}
use mathlib.Core.List.{List, [], ◌∷◌, ◌++◌}
use Rattle.std.proofs.Math.ListN.{take}
use Rattle.std.proofs.Math.Seq.{split_at}
use Rattle.laws.specs.Tests.{and_right}
use Rattle.laws.specs.Lists.{all}
use Rattle.laws.specs.Flat.{all_first, all_rest, all_take}
use Rattle.slot.specs.declared.Pair.{Pair}
use Rattle.slot.specs.declared.Slot.{Slot}
use Rattle.slot.specs.Pair.{least, before, same, none_before_least}
use Rattle.slot.specs.Order.{before_below, not_before_above, same_level}
use Rattle.page.specs.Told.{no_fence}
use Rattle.rules.specs.Level.{external, pages_for, page_of, first_among}
use Rattle.rules.specs.Finding.{Told, follow, nothing, tell}
use Rattle.rules.specs.Sound.{legal, first_is_least, first_right}
use Rattle.finding.specs.Rising.{weight, Rising, weight_least, weight_most, entry_weight, rising_take, rising_drop}
use Rattle.rules.specs.Pages.{pages_inside, pages_reach}
use Rattle.rules.specs.Woven.{fence}
use Rattle.finding.specs.Rows.{Row, some_slot}
use Rattle.finding.specs.Telling.{tell_on, by_slot, on_above, on_fence, on_entry, on_past, tell_forward}
use Rattle.finding.specs.RowTold.{Leads}

module _ (p : Pair) where
  -- Slots that begin above the pair tell nothing more.
  unfoldable Above : List Slot → Type 0
  Above [] = Unit {0}
  Above (s ∷ ss) = before p s.pair ≡ true

  tell_above : (ss : List Slot) (last : Told) → Above ss → tell_on p last ss ≡ last
  unfolding Above tell_on
  tell_above [] last a = refl
  tell_above (s ∷ ss) last a = on_above p s last ss a

  tell_front : (front ss : List Slot) (last : Told) → Above ss → tell_on p last (front ++ ss) ≡ tell_on p last front
  unfolding tell_on
  tell_front [] ss last a = tell_above ss last a
  tell_front (s ∷ front) ss last a =
      by_slot p s (tell_on p last (s ∷ (front ++ ss)) ≡ tell_on p last (s ∷ front))
      (λ b. rw (on_above p s last (front ++ ss) b, on_above p s last front b))
      (λ b k. rw (on_fence p s last (front ++ ss) b k, on_fence p s last front b k) (tell_front front ss (follow s.page.0) a))
      (λ b k m. rw (on_entry p s last (front ++ ss) b k m, on_entry p s last front b k m))
      (λ b k m. rw (on_past p s last (front ++ ss) b k m, on_past p s last front b k m) (tell_front front ss last a))

  -- Slots before one that is at most the pair tell their last fence alone.
  unfoldable last_fence : Told → List Slot → Told
  last_fence last [] = last
  last_fence last (s ∷ ss) = elim (fence s) [ true ↦ last_fence (follow s.page.0) ss | false ↦ last_fence last ss ]

  tell_past : (n : ℕ) (front : List Slot) (f : Slot) (ss : List Slot) (last : Told) → Rising n (front ++ f ∷ ss) → before p f.pair ≡ false →
      tell_on p last (front ++ f ∷ ss) ≡ tell_on p (last_fence last front) (f ∷ ss)
  unfolding Rising last_fence
  tell_past n [] f ss last r a = refl
  tell_past n (s ∷ front) f ss last r a =
      let w : suc (weight s) ≤ weight f = omega (arith, ahead (suc (weight s)) front r.1) in
      by_slot p s (tell_on p last (s ∷ (front ++ f ∷ ss)) ≡ tell_on p (last_fence last (s ∷ front)) (f ∷ ss))
      (λ b. absurd (omega (arith, w, before_below p s.pair b, not_before_above p f.pair a, weight_least s, weight_most f)))
      (λ b k. rw (on_fence p s last (front ++ f ∷ ss) b k, k, last_fence) (tell_past (suc (weight s)) front f ss (follow s.page.0) r.1 a))
      (λ b k m. absurd (omega (arith, w, same_level p s.pair m, not_before_above p f.pair a, entry_weight s k, weight_most f)))
      (λ b k m. rw (on_past p s last (front ++ f ∷ ss) b k m, k, last_fence) (tell_past (suc (weight s)) front f ss last r.1 a))
    where
      ahead : (n : ℕ) (front : List Slot) → Rising n (front ++ f ∷ ss) → n ≤ weight f
      ahead n [] r = r.0
      ahead n (s ∷ front) r = omega (arith, r.0, ahead (suc (weight s)) front r.1)

  -- In the bottom there is none.
  no_last_fence : (ss : List Slot) (last : Told) → all (legal true 0) ss ≡ true → last_fence last ss ≡ last
  unfolding last_fence
  no_last_fence [] last a = refl
  no_last_fence (s ∷ ss) last a =
      rw (no_fence true s (all_first (legal true 0) s ss a), last_fence) (no_last_fence ss last (all_rest (legal true 0) s ss a))

  -- The least fence is at most the pair.
  least_at_most : (ss : List Slot) → first_is_least ss ≡ true → before p (first_among ss 0) ≡ false
  unfolding first_is_least first_among
  least_at_most [] e = absurd (false≢true e)
  least_at_most (s ∷ ss) e = none_before_least p s.pair (and_right (fence s) (same least s.pair) e)

  module _ (below : ℕ) (slots : List Slot) (row : Row below slots) where
    -- From the first slot of a page on, where that is at most the pair.
    tell_from_lem : (q : ℕ) → 21 * q < length slots → before p (first_among slots q) ≡ false → tell_on p nothing slots ≡ tell_on p nothing (drop (21 * q) slots)
    unfolding first_among
    tell_from_lem q h a =
        let split = split_at slots (21 * q) (external least 0) h in
        ap (tell_on p nothing) split ∙ tell_past 0 front first after nothing (rw split at row.rising) a ∙ opened below refl ∙
        sym (ap (tell_on p nothing) (drop-cons slots (21 * q) (external least 0) h))
      where
        front : List Slot
        front = take (21 * q) slots

        first : Slot
        first = get_or slots (21 * q) (external least 0)

        after : List Slot
        after = drop (suc (21 * q)) slots

        opened : (b : ℕ) → below ≡ b → tell_on p (last_fence nothing front) (first ∷ after) ≡ tell_on p nothing (first ∷ after)
        opened zero e = ap (λ (last : Told). tell_on p last (first ∷ after)) (no_last_fence front nothing (all_take (legal true 0) (21 * q) slots (rw e at row.tags)))
        opened (suc b) e =
            let k = row.opens (omega arith) q (external least 0) h in
            on_fence p first (last_fence nothing front) after a k ∙ sym (on_fence p first nothing after a k)

    module _ (told : Told) (led : Leads p (first_among slots) (pages_for (length slots)) told) where
      abbrev rest : List Slot
      rest = drop (21 * led.page) slots

      -- The next page, if there is one, begins above the pair.
      above_next : Above (drop 21 rest)
      unfolding Above first_among
      above_next = rw (drop-drop 21 (21 * led.page) slots) (compared (ltb (21 * suc led.page) (length slots)) refl)
        where
          next : 21 * led.page + 21 ≡ 21 * suc led.page
          next = omega arith

          compared : (b : Bool) → ltb (21 * suc led.page) (length slots) ≡ b → Above (drop (21 * led.page + 21) slots)
          compared true e =
              let h = ltb-true (21 * suc led.page) (length slots) e in
              rw (next, drop-cons slots (21 * suc led.page) (external least 0) h) (led.ends (pages_reach (length slots) (suc led.page) h))
          compared false e = rw (next, drop_of_length-le slots (ltb-false (21 * suc led.page) (length slots) e)) tt

      -- The page itself begins at most at the pair, but for page 0.
      tell_rest : tell_on p nothing slots ≡ tell_on p nothing rest
      tell_rest = counted led.page refl
        where
          counted : (q : ℕ) → led.page ≡ q → tell_on p nothing slots ≡ tell_on p nothing (drop (21 * q) slots)
          counted zero e = refl
          counted (suc q) e =
              tell_from_lem (suc q) (rw e at (pages_inside (length slots) led.page (omega arith) led.within)) (rw e at (led.starts (omega arith)))

      pub page_tells : tell p (page_of slots led.page) ≡ tell p slots
      unfolding page_of
      page_tells =
          tell_forward p 0 (take 21 rest) (rising_take 21 0 rest (rising_drop (21 * led.page) 0 slots row.rising)) ∙
          sym (tell_front (take 21 rest) (drop 21 rest) nothing above_next) ∙ ap (tell_on p nothing) (take-append-drop 21 rest) ∙ sym tell_rest ∙
          sym (tell_forward p 0 slots row.rising)

      -- Above the bottom it begins with a fence at most the pair.
      first_at_most : 1 ≤ below → (21 * led.page < length slots) × (before p (first_among slots led.page) ≡ false)
      first_at_most some = counted led.page refl
        where
          counted : (q : ℕ) → led.page ≡ q → (21 * q < length slots) × (before p (first_among slots q) ≡ false)
          counted zero e = (some_slot slots (row.first_least some), least_at_most slots (row.first_least some))
          counted (suc q) e =
              (rw e at (pages_inside (length slots) led.page (omega arith) led.within), rw e at (led.starts (omega arith)))

      pub page_first : 1 ≤ below → first_right p (page_of slots led.page) ≡ true
      unfolding first_right page_of first_among
      page_first some =
          let at = first_at_most some in
          rw (drop-cons slots (21 * led.page) (external least 0) at.0, row.opens some led.page (external least 0) at.0, at.1)
