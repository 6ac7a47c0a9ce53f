-- On the slots of a good tree the walk's answer is whether the topmost entry of the pair is normal, and its deciding level is that
-- entry's. Assumes nothing.
use Prim.Native.Nat.{ℕ, zero, suc, ◌+◌, ◌≤◌, ◌<◌}
use native.Mathlib.Omega.{arith}
use Rattle.std.proofs.Math.Path.{◌≡◌, refl, sym}
use Rattle.std.proofs.Common.{ap, ◌∙◌}
use Rattle.std.specs.Prelude.{Bool, false, length}
use Rattle.std.proofs.Math.Bool.{true}
use mathlib.Core.List.{List, [], ◌∷◌}
use Rattle.laws.specs.Lists.{all}
use Rattle.laws.specs.Flat.{all_first, all_rest}
use Rattle.geometry.specs.declared.Geometry.{Geometry}
use Rattle.slot.specs.declared.Pair.{Pair}
use Rattle.slot.specs.declared.Slot.{Slot}
use Rattle.rules.specs.Tree.{Level, Tree, level}
use Rattle.rules.specs.Level.{pages_for, page_of, first_among, weave, laid, slots_of}
use Rattle.rules.specs.Finding.{Met, absent, met, find, held, decided, follow, nothing, tell, Answer, walk, ask}
use Rattle.rules.specs.Merging.{State}
use Rattle.rules.specs.Sound.{ascending}
use Rattle.rules.specs.Good.{Good}
use Rattle.entries.specs.Ascending.{held_met, held_absent}
use Rattle.finding.specs.Fences.{fences_over, pages_under}
use Rattle.finding.specs.Rows.{row_on, laid_row, head_row_lem, woven_rising, row_formed, laid_rows}
use Rattle.finding.specs.Telling.{tell_on, tell_forward}
use Rattle.finding.specs.RowTold.{decide, tell_head, tell_row, Leads, fences_lead, no_fences_lead}
use Rattle.finding.specs.PageTold.{page_tells}

-- The number of the first level that has an entry of the pair, of levels numbered from i on; where none has, of the level past the last.
unfoldable pub deciding : Pair → ℕ → Tree → ℕ
deciding p i [] = i
deciding p i (es ∷ t) = elim (find p es) [ absent ↦ deciding p (suc i) t | met normal ↦ i ]

module _ (p : Pair) where
  pub deciding_met : (i : ℕ) (es : Level) (t : Tree) (normal : Bool) → find p es ≡ met normal → deciding p i (es ∷ t) ≡ i
  unfolding deciding
  deciding_met i es t normal e = rw (e, deciding)

  pub deciding_absent : (i : ℕ) (es : Level) (t : Tree) → find p es ≡ absent → deciding p i (es ∷ t) ≡ deciding p (suc i) t
  unfolding deciding
  deciding_absent i es t e = rw (e, deciding)

  -- What a run of a level's slots tells, where they are the level's entries over the levels below.
  unfoldable pub Tells : List Slot → Level → Tree → Type 0
  Tells run es t = tell p run ≡ decide (find p es) (tell_on p nothing (fences_over (laid t)))

  module _ (es : Level) (t : Tree) (up : ascending es ≡ true) (lower : all ascending t ≡ true) where
    pub head_tells : Tells (weave es (fences_over (laid t))) es t
    unfolding Tells
    head_tells = tell_forward p 0 (weave es (fences_over (laid t))) (woven_rising es (laid t) up (laid_rows t lower)) ∙ tell_head p es (laid t) up

    pub row_tells : Tells (row_on es (laid t)) es t
    unfolding Tells
    row_tells = tell_forward p 0 (row_on es (laid t)) (row_formed es (laid t) up (laid_rows t lower)).rising ∙ tell_row p es (laid t) up

  -- The fences over a row lead to one of its pages, which tells the same.
  module _ (es : Level) (t : Tree) where
    pub led : Leads p (first_among (row_on es (laid t))) (pages_for (length (row_on es (laid t)))) (tell_on p nothing (fences_over (row_on es (laid t) ∷ laid t)))
    led = fences_lead p (row_on es (laid t)) (laid t)

    abbrev pub page_below : ℕ
    page_below = led.page

    pub page_led : ascending es ≡ true → all ascending t ≡ true → Tells (page_of (row_on es (laid t)) page_below) es t
    unfolding Tells
    page_led up lower =
        page_tells p (pages_under (laid t)) (row_on es (laid t)) (row_formed es (laid t) up (laid_rows t lower)) _ led ∙ row_tells es t up lower

  -- So a run tells of one of three: the entry of its level; in the bottom, nothing; above it, the page that the fences lead to.
  module _ (run : List Slot) (es : Level) where
    pub tells_met : (t : Tree) (normal : Bool) → find p es ≡ met normal → Tells run es t → tell p run ≡ decided normal
    unfolding Tells decide
    tells_met t normal f e = e ∙ rw f

    pub tells_nothing : find p es ≡ absent → Tells run es [] → tell p run ≡ nothing
    unfolding Tells decide laid
    tells_nothing f e = e ∙ rw f (no_fences_lead p)

    pub tells_page : (fs : Level) (t : Tree) → find p es ≡ absent → Tells run es (fs ∷ t) → tell p run ≡ follow (page_below fs t)
    unfolding Tells decide
    tells_page fs t f e = e ∙ rw (f, laid_row fs t) (led fs t).follows

  -- The walk on slots.
  pub walk_met : (i : ℕ) (run : List Slot) (ss : List (List Slot)) (b : Bool) → tell p run ≡ decided b → walk p i run ss ≡ record { is_held = b; decider = i; read = [] }
  unfolding walk
  walk_met i run [] b e = rw (e, walk)
  walk_met i run (slots ∷ ss) b e = rw (e, walk)

  pub walk_ends : (i : ℕ) (run : List Slot) → tell p run ≡ nothing → walk p i run [] ≡ record { is_held = false; decider = suc i; read = [] }
  unfolding walk
  walk_ends i run e = rw (e, walk)

  pub walk_goes_on : (i : ℕ) (run slots : List Slot) (ss : List (List Slot)) (q : ℕ) → tell p run ≡ follow q →
      walk p i run (slots ∷ ss) ≡ (let rest = walk p (suc i) (page_of slots q) ss in record { is_held = rest.is_held; decider = rest.decider; read = q ∷ rest.read })
  unfolding walk
  walk_goes_on i run slots ss q e = rw (e, walk)

  -- An answer that finds the topmost entry of the pair, in levels numbered from i on.
  pub record Finds (i : ℕ) (t : Tree) (a : Answer) : Type 0 where
    pub is_held_lem : a.is_held ≡ held p t
    pub decides : a.decider ≡ deciding p i t

  finds_met : (i : ℕ) (es : Level) (t : Tree) (normal : Bool) → find p es ≡ met normal → Finds i (es ∷ t) (record { is_held = normal; decider = i; read = [] })
  finds_met i es t normal f = record { is_held_lem = sym (held_met p es t normal f); decides = sym (deciding_met i es t normal f) }

  walk_finds : (t : Tree) (i : ℕ) (run : List Slot) (es : Level) → all ascending t ≡ true → Tells run es t → Finds i (es ∷ t) (walk p i run (laid t))
  unfolding laid held deciding
  walk_finds [] i run es a e = by_entry (find p es) refl
    where
      by_entry : (m : Met) → find p es ≡ m → Finds i (es ∷ []) (walk p i run [])
      by_entry (met normal) f = rw (walk_met i run [] normal (tells_met run es [] normal f e)) (finds_met i es [] normal f)
      by_entry absent f =
          rw (walk_ends i run (tells_nothing run es f e)) (record { is_held_lem = sym (held_absent p es [] f); decides = sym (deciding_absent i es [] f) })
  walk_finds (fs ∷ t) i run es a e =
      by_entry (find p es) refl (walk_finds t (suc i) (page_of (row_on fs (laid t)) (page_below fs t)) fs lower (page_led fs t (all_first ascending fs t a) lower))
    where
      lower : all ascending t ≡ true
      lower = all_rest ascending fs t a

      by_entry : (m : Met) → find p es ≡ m → Finds (suc i) (fs ∷ t) (walk p (suc i) (page_of (row_on fs (laid t)) (page_below fs t)) (laid t)) →
          Finds i (es ∷ fs ∷ t) (walk p i run (laid (fs ∷ t)))
      by_entry (met normal) f ih = rw (walk_met i run (laid (fs ∷ t)) normal (tells_met run es (fs ∷ t) normal f e)) (finds_met i es (fs ∷ t) normal f)
      by_entry absent f ih =
          rw (laid_row fs t, walk_goes_on i run (row_on fs (laid t)) (laid t) (page_below fs t) (tells_page run es fs t f e))
          (record { is_held_lem = ih.is_held_lem ∙ sym (held_absent p es (fs ∷ t) f); decides = ih.decides ∙ sym (deciding_absent i es (fs ∷ t) f) })

  pub ask_finds : (t : Tree) → all ascending t ≡ true → Finds 0 t (ask p (slots_of t))
  unfolding ask slots_of held deciding
  ask_finds [] a = record { is_held_lem = refl; decides = refl }
  ask_finds (es ∷ t) a =
      let lower = all_rest ascending es t a in
      rw (head_row_lem es (laid t)) (walk_finds t 0 (weave es (fences_over (laid t))) es lower (head_tells es t (all_first ascending es t a) lower))

-- The number of the level that decides: the topmost that has an entry of the pair, or the number of levels.
unfoldable pub decider : Pair → Tree → ℕ
decider p t = deciding p 0 t

pub ask_held : (g : Geometry) (s : State) (p : Pair) → Good g s → (ask p (slots_of s.tree)).is_held ≡ held p s.tree
ask_held g s p good = (ask_finds p s.tree good.ascends).is_held_lem

pub ask_decider : (g : Geometry) (s : State) (p : Pair) → Good g s → (ask p (slots_of s.tree)).decider ≡ decider p s.tree
unfolding decider
ask_decider g s p good = (ask_finds p s.tree good.ascends).decides

-- The head decides just where it has an entry of the pair.
module _ (p : Pair) where
  deciding_from : (i : ℕ) (t : Tree) → i ≤ deciding p i t
  unfolding deciding
  deciding_from i [] = omega arith
  deciding_from i (es ∷ t) = stands (find p es) refl (deciding_from (suc i) t)
    where
      stands : (m : Met) → find p es ≡ m → suc i ≤ deciding p (suc i) t → i ≤ deciding p i (es ∷ t)
      stands absent f rest = rw (deciding_absent p i es t f) (omega (arith, rest))
      stands (met b) f rest = rw (deciding_met p i es t b f) (omega arith)

  pub head_decides : (t : Tree) (b : Bool) → find p (level 0 t) ≡ met b → decider p t ≡ 0
  unfolding decider find
  head_decides [] b f = absurd (let z : ◌≡◌ {A = ℕ} 0 1 = cc in omega arith)
  head_decides (es ∷ t) b f = deciding_met p 0 es t b f

  pub below_decides : (t : Tree) → 1 ≤ length t → find p (level 0 t) ≡ absent → 1 ≤ decider p t
  unfolding decider
  below_decides [] k f = absurd (omega arith)
  below_decides (es ∷ t) k f = rw (deciding_absent p 0 es t f) (deciding_from 1 t)

  -- No level above the deciding one has an entry of the pair, and the entry of that one tells whether the pair is held.
  deciding_above : (i j : ℕ) (t : Tree) → i + j < deciding p i t → find p (level j t) ≡ absent
  unfolding find
  deciding_above i j [] h = refl
  deciding_above i j (es ∷ t) h = by_level j h (find p es) refl (λ k. deciding_above (suc i) k t)
    where
      by_level : (j : ℕ) → i + j < deciding p i (es ∷ t) → (m : Met) → find p es ≡ m → ((k : ℕ) → suc i + k < deciding p (suc i) t → find p (level k t) ≡ absent) →
          find p (level j (es ∷ t)) ≡ absent
      by_level j h (met b) f rest = absurd (omega (arith, h, deciding_met p i es t b f))
      by_level zero h absent f rest = f
      by_level (suc k) h absent f rest = rest k (omega (arith, h, deciding_absent p i es t f))

  deciding_here : (i j : ℕ) (t : Tree) → deciding p i t ≡ i + j → j < length t → find p (level j t) ≡ met (held p t)
  deciding_here i j [] e h = absurd (omega arith)
  deciding_here i j (es ∷ t) e h = by_level j e h (find p es) refl (λ k. deciding_here (suc i) k t)
    where
      by_level : (j : ℕ) → deciding p i (es ∷ t) ≡ i + j → j < length (es ∷ t) → (m : Met) → find p es ≡ m →
          ((k : ℕ) → deciding p (suc i) t ≡ suc i + k → k < length t → find p (level k t) ≡ met (held p t)) → find p (level j (es ∷ t)) ≡ met (held p (es ∷ t))
      by_level zero e h (met b) f rest = f ∙ ap met (sym (held_met p es t b f))
      by_level (suc k) e h (met b) f rest = absurd (omega (arith, e, deciding_met p i es t b f))
      by_level zero e h absent f rest = absurd (omega (arith, e, deciding_absent p i es t f, deciding_from (suc i) t))
      by_level (suc k) e h absent f rest = rest k (omega (arith, e, deciding_absent p i es t f)) (omega arith) ∙ ap met (sym (held_absent p es t f))

  pub absent_above_decider : (t : Tree) (i : ℕ) → i < decider p t → find p (level i t) ≡ absent
  unfolding decider
  absent_above_decider t i h = deciding_above 0 i t (omega arith)

  pub met_at_decider : (t : Tree) → decider p t < length t → find p (level (decider p t) t) ≡ met (held p t)
  unfolding decider
  met_at_decider t h = deciding_here 0 (decider p t) t (omega arith) h
