-- What a whole row tells of a pair: its level's entry of the pair decides; else the fences tell the page of the level below whose slots
-- can hold the pair. Assumes nothing.
use Rattle.std.specs.Prelude.{ℕ, zero, suc, ◌+◌, ◌-◌, ◌≤◌, ◌<◌, ◌≡◌, Bool, true, false, length}
use Rattle.std.proofs.Common.{arith, sym, ap, ◌∙◌}
use Rattle.std.proofs.Math.Path.{refl}
use Rattle.std.proofs.lemmas.Bool.{false≢true}
use mathlib.Core.List.{List, [], ◌∷◌}
use Rattle.laws.specs.Lists.{span, all}
use Rattle.laws.specs.Flat.{all_first, all_rest}
use Rattle.slot.specs.declared.Pair.{Pair}
use Rattle.slot.specs.declared.Slot.{Slot}
use Rattle.slot.specs.Pair.{rank, least, before, least_first}
use Rattle.slot.specs.Order.{before_below, not_before_above, below_before, above_not_before}
use Rattle.rules.specs.Tree.{Entry, Level, rank_of}
use Rattle.rules.specs.Level.{index, external, internal, pages_for, first_among, fence_of, weave, paged}
use Rattle.rules.specs.Sound.{ascending}
use Rattle.rules.specs.Finding.{Met, absent, met, find, Told, decided, follow, nothing}
use Rattle.entries.specs.Ascending.{From, from_ascending, find_here, find_on, find_above}
use Rattle.rules.specs.Pages.{pages_some}
use Rattle.rules.specs.Woven.{fence, index_entry, index_normal, StandsFirst, by_weaving}
use Rattle.rules.specs.Paged.{by_paging}
use Rattle.finding.specs.Fences.{fences_over, fences_only, fences_first}
use Rattle.finding.specs.Rows.{row_on, woven_first, paged_least}
use Rattle.finding.specs.Telling.{tell_on, by_slot, on_above, on_fence, on_entry, on_past}

-- An entry decides; else it is as the fences tell.
unfoldable pub decide : Met → Told → Told
decide absent told = told
decide (met normal) told = decided normal

-- No slot is both a fence and an index entry.
not_both : (s : Slot) (Q : Type 0) → fence s ≡ true → fence s ≡ false → Q
not_both s Q k n = absurd (false≢true (sym n ∙ k))

module _ (p : Pair) where
  -- What is woven.
  told_first : (e : Entry) (fs : List Slot) (last : Told) → before p e.pair ≡ true → StandsFirst e fs → tell_on p last fs ≡ last
  unfolding StandsFirst tell_on
  told_first e [] last a c = refl
  told_first e (f ∷ fs) last a c =
      on_above p f last fs (below_before p f.pair (omega (arith, before_below p e.pair a, before_below e.pair f.pair c)))

  absent_below : (e : Entry) (es : Level) (n : ℕ) → rank p < rank_of e → From n (e ∷ es) → find p (e ∷ es) ≡ absent
  unfolding From
  absent_below e es n h a = find_above p (e ∷ es) (h, a.1)

  abbrev TellsWoven : Level → List Slot → List Slot → Type 0
  TellsWoven es fs row = (last : Told) (n : ℕ) → all fence fs ≡ true → From n es → tell_on p last row ≡ decide (find p es) (tell_on p last fs)

  woven_entry : (e : Entry) (es : Level) (fs row : List Slot) → StandsFirst e fs → TellsWoven es fs row → TellsWoven (e ∷ es) fs (index e ∷ row)
  unfolding From index decide
  woven_entry e es fs row c ih last n a r =
      by_slot p (index e) (tell_on p last (index e ∷ row) ≡ decide (find p (e ∷ es)) (tell_on p last fs))
      (λ b. rw (on_above p (index e) last row b, absent_below e es n (before_below p e.pair b) r, told_first e fs last b c))
      (λ b k. not_both (index e) _ k (index_entry e))
      (λ b k m. rw (on_entry p (index e) last row b k m, find_here p e es m) (ap decided (index_normal e)))
      (λ b k m. rw (on_past p (index e) last row b k m, find_on p e es m) (ih last (suc (rank_of e)) a r.1))

  woven_fence : (e : Entry) (es : Level) (f : Slot) (fs row : List Slot) → before e.pair f.pair ≡ false → TellsWoven (e ∷ es) fs row →
      TellsWoven (e ∷ es) (f ∷ fs) (f ∷ row)
  unfolding From decide
  woven_fence e es f fs row c ih last n a r =
      let k = all_first fence f fs a in
      by_slot p f (tell_on p last (f ∷ row) ≡ decide (find p (e ∷ es)) (tell_on p last (f ∷ fs)))
      (λ b.
      rw (
        on_above p f last row b,
        on_above p f last fs b,
        absent_below e es n (omega (arith, before_below p f.pair b, not_before_above e.pair f.pair c)) r,
      ))
      (λ b k. rw (on_fence p f last row b k, on_fence p f last fs b k) (ih (follow f.page.0) n (all_rest fence f fs a) r))
      (λ b n m. not_both f _ k n)
      (λ b n m. not_both f _ k n)

  tell_woven : (es : Level) (fs : List Slot) → TellsWoven es fs (weave es fs)
  unfolding decide find
  tell_woven = by_weaving TellsWoven (λ fs last n a r. refl) woven_entry woven_fence

  -- Cut into pages it tells the same: an internal fence names the page of the last fence before it.
  abbrev TellsPaged : ℕ → ℕ → List Slot → List Slot → Type 0
  TellsPaged j last ss row = tell_on p (follow last) row ≡ tell_on p (follow last) ss

  tell_paged : (j last : ℕ) (ss : List Slot) → tell_on p (follow last) (paged j last ss) ≡ tell_on p (follow last) ss
  unfolding internal
  tell_paged =
      by_paging TellsPaged (λ j last. refl)
      (λ j last s ss row k ih.
      by_slot p s (tell_on p (follow last) (s ∷ row) ≡ tell_on p (follow last) (s ∷ ss))
      (λ b. rw (on_above p s (follow last) row b, on_above p s (follow last) ss b))
      (λ b k. rw (on_fence p s (follow last) row b k, on_fence p s (follow last) ss b k) ih)
      (λ b n m. not_both s _ k n)
      (λ b n m. not_both s _ k n))
      (λ last s ss row n ih.
      let i = internal s.pair last in
      by_slot p s (tell_on p (follow last) (i ∷ s ∷ row) ≡ tell_on p (follow last) (s ∷ ss))
      (λ b. rw (on_above p i (follow last) (s ∷ row) b, on_above p s (follow last) ss b))
      (λ b k. not_both s _ k n)
      (λ b n m. rw (on_fence p i (follow last) (s ∷ row) b refl, on_entry p s (follow last) row b n m, on_entry p s (follow last) ss b n m))
      (λ b n m. rw (on_fence p i (follow last) (s ∷ row) b refl, on_past p s (follow last) row b n m, on_past p s (follow last) ss b n m) ih))
      (λ j last s ss row n d ih.
      by_slot p s (tell_on p (follow last) (s ∷ row) ≡ tell_on p (follow last) (s ∷ ss))
      (λ b. rw (on_above p s (follow last) row b, on_above p s (follow last) ss b))
      (λ b k. not_both s _ k n)
      (λ b n m. rw (on_entry p s (follow last) row b n m, on_entry p s (follow last) ss b n m))
      (λ b n m. rw (on_past p s (follow last) row b n m, on_past p s (follow last) ss b n m) ih))

  -- The least fence is at most every pair.
  on_least : (last : Told) (ss : List Slot) → tell_on p last (external least 0 ∷ ss) ≡ tell_on p (follow 0) ss
  unfolding external
  on_least last ss = on_fence p (external least 0) last ss (above_not_before p least (omega (arith, least_first))) refl

  -- So a row tells what its entries and its fences do, cut into pages or not.
  pub tell_head : (es : Level) (ss : List (List Slot)) → ascending es ≡ true →
      tell_on p nothing (weave es (fences_over ss)) ≡ decide (find p es) (tell_on p nothing (fences_over ss))
  tell_head es ss a = tell_woven es (fences_over ss) nothing 0 (fences_only ss) (from_ascending es a)

  pub tell_row : (es : Level) (ss : List (List Slot)) → ascending es ≡ true →
      tell_on p nothing (row_on es ss) ≡ decide (find p es) (tell_on p nothing (fences_over ss))
  unfolding row_on
  tell_row es [] a = tell_head es [] a
  tell_row es (below ∷ ss) a =
      let rest = weave es (span (fence_of (first_among below)) 1 (pages_for (length below) - 1)) in
      rw (woven_first es below ss, paged_least rest, on_least nothing (paged 1 0 rest), tell_paged 1 0 rest, ← on_least nothing rest, ← woven_first es below ss)
      (tell_head es (below ∷ ss) a)

-- The page that is told: the last of the pages whose first pair is at most the pair, page 0 where there is none.
pub record Leads (p : Pair) (first : ℕ → Pair) (pages : ℕ) (told : Told) : Type 0 where
  pub page : ℕ
  pub follows : told ≡ follow page
  pub within : page < pages
  pub starts : 1 ≤ page → before p (first page) ≡ false
  pub ends : suc page < pages → before p (first (suc page)) ≡ true

leads_from : (p : Pair) (first : ℕ → Pair) (pages i m : ℕ) → pages ≡ suc i + m → (1 ≤ i → before p (first i) ≡ false) →
    Leads p first pages (tell_on p (follow i) (span (fence_of first) (suc i) m))
unfolding span tell_on fence_of external
leads_from p first pages i zero e h = record { page = i; follows = refl; within = omega arith; starts = h; ends = λ b. absurd (omega arith) }
leads_from p first pages i (suc m) e h = compared (before p (first (suc i))) refl (leads_from p first pages (suc i) m (omega arith))
  where
    rest : List Slot
    rest = span (fence_of first) (suc (suc i)) m

    compared : (b : Bool) → before p (first (suc i)) ≡ b →
        ((1 ≤ suc i → before p (first (suc i)) ≡ false) → Leads p first pages (tell_on p (follow (suc i)) rest)) →
        Leads p first pages (tell_on p (follow i) (fence_of first (suc i) ∷ rest))
    compared true b ih =
        record { page = i; follows = on_above p (fence_of first (suc i)) (follow i) rest b; within = omega arith; starts = h; ends = λ u. b }
    compared false b ih = rw (on_fence p (fence_of first (suc i)) (follow i) rest b refl) (ih (λ u. b))

-- The fences over a level lead to one of its pages.
pub fences_lead : (p : Pair) (below : List Slot) (ss : List (List Slot)) → Leads p (first_among below) (pages_for (length below)) (tell_on p nothing (fences_over (below ∷ ss)))
unfolding fences_over
fences_lead p below ss =
    rw (fences_first (first_among below) (length below), on_least p nothing (span (fence_of (first_among below)) 1 (pages_for (length below) - 1)))
    (leads_from p (first_among below) (pages_for (length below)) 0 (pages_for (length below) - 1) (omega (arith, pages_some (length below))) (λ h. absurd (omega arith)))

-- The bottom has none.
pub no_fences_lead : (p : Pair) → tell_on p nothing (fences_over []) ≡ nothing
unfolding fences_over tell_on
no_fences_lead p = refl
