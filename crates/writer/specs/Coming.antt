-- The slots of a level that are still to come, and what a lent area becomes by them, as the clauses of src/lib.rt cite it. Assumes nothing.
use Prim.Native.Nat.{ℕ, suc, zero, ◌+◌, ◌-◌, ◌*◌, ◌%◌, ◌^◌, ◌≤◌, ◌<◌}
use native.Mathlib.Omega.{arith}
use Rattle.std.proofs.Math.Path.{◌≡◌, refl, sym, ap}
use Rattle.std.proofs.Common.{◌∙◌, le-leb, eqb-true, ne_eqb}
use Rattle.std.specs.Prelude.{Bool, true, false, eqb}
use mathlib.Core.List.{List, [], ◌∷◌, ◌++◌}
use Rattle.std.proofs.Math.ListN.{length}
use Rattle.std.proofs.lemmas.Bool.{lt-leb}
use Rattle.laws.specs.Tests.{and_right, and_false_right}
use Rattle.laws.specs.Lists.{length_span}
use Rattle.slot.specs.declared.Pair.{Pair}
use Rattle.slot.specs.declared.Slot.{Slot}
use Rattle.rules.specs.Tree.{Entry, Level}
use Rattle.rules.specs.Level.{index, internal, external, fence_kind, fence_of, weave, paged}
use Rattle.rules.specs.Merging.{join}
use Rattle.rules.specs.Store.{level_words}
use Rattle.entries.specs.Run.{entries_in}
use Rattle.written.specs.Decided.{laid_whole}
use Rattle.layout.specs.Stream.{cut, fenced_at, entry_next, fences_from, laid_from, wanted, left, ended}
use Rattle.layout.specs.Stream.{laid_ended, fence_passed, entry_passed, internal_passed}
use Rattle.layout.proofs.Stream.{laid_next}
use Rattle.good.specs.Pages.{weave_length}
use Rattle.writer.specs.declared.Position.{Position}
use Rattle.writer.specs.declared.Source.{Source}
use Rattle.writer.specs.Source.{first_below, level_from}
use Rattle.writer.specs.Append.{slot_put, slots_put, put_joined, put_count, slots_appended}

-- An entry's slots at position n after the fence p − 1: an internal fence before it where it would be first in a page, and its own.
unfoldable pub entry_slots : Bool → ℕ → ℕ → Entry → List Slot
entry_slots inner n p e = elim (fenced_at inner n) [ true ↦ internal e.pair (p - 1) ∷ index e ∷ [] | false ↦ index e ∷ [] ]

-- An internal fence is first in a page, and the entry behind it is not.
pub fenced_first : (inner : Bool) (n : ℕ) → fenced_at inner n ≡ true → n % 21 ≡ 0
unfolding fenced_at
fenced_first inner n h = eqb-true (n % 21) 0 (and_right inner (eqb (n % 21) 0) h)

fenced_once : (inner : Bool) (n : ℕ) → fenced_at inner n ≡ true → fenced_at inner (n + 1) ≡ false
unfolding fenced_at
fenced_once inner n h =
    let first : n % 21 ≡ 0 = fenced_first inner n h in
    and_false_right inner (eqb ((n + 1) % 21) 0) (ne_eqb ((n + 1) % 21) 0 (λ z. omega arith))

-- An entry's slots are put one by one.
module _ (inner : Bool) (own fence : ℕ) (e : Entry) (work : List ℕ) where
  pub index_put : fenced_at inner (own + fence) ≡ false → (s : Slot) → s ≡ index e → (put : List ℕ) (r : ℕ) →
      put ≡ slot_put work (own + fence) s → r ≡ own + 1 → (put, r + fence) ≡ slots_put work (own + fence) (entry_slots inner (own + fence) fence e)
  unfolding entry_slots slots_put
  index_put f s q put r w c =
      let on : own + 1 + fence ≡ own + fence + 1 = omega arith in
      let slots : entry_slots inner (own + fence) fence e ≡ index e ∷ [] = rw (f, entry_slots) refl in
      let one : ◌≡◌ {A = List ℕ × ℕ} (put, r + fence) (slots_put work (own + fence) (index e ∷ [])) = rw (c, w, q, on) refl in
      one ∙ ap (slots_put work (own + fence)) (sym slots)

  pub inner_put : fenced_at inner (own + fence) ≡ true → (f s : Slot) → f ≡ internal e.pair (fence - 1) → s ≡ index e →
      (fenced put : List ℕ) (behind r : ℕ) → fenced ≡ slot_put work (own + fence) f → behind ≡ own + 1 →
      put ≡ slot_put fenced (behind + fence) s → r ≡ behind + 1 →
      (put, r + fence) ≡ slots_put work (own + fence) (entry_slots inner (own + fence) fence e)
  unfolding entry_slots slots_put
  inner_put i f s p q fenced put behind r w b v c =
      let on : own + 1 + fence ≡ own + fence + 1 = omega arith in
      let further : own + 1 + 1 + fence ≡ own + fence + 1 + 1 = omega arith in
      let both : List Slot = internal e.pair (fence - 1) ∷ index e ∷ [] in
      let slots : entry_slots inner (own + fence) fence e ≡ both = rw (i, entry_slots) refl in
      let two : ◌≡◌ {A = List ℕ × ℕ} (put, r + fence) (slots_put work (own + fence) both) = rw (c, v, b, w, p, q, on, further) refl in
      two ∙ ap (slots_put work (own + fence)) (sym slots)

-- What the writing of entries has next, case by case ------------------------------------------------------------------------------------------

module _ (inner : Bool) (first : ℕ → Pair) (below n p : ℕ) where
  -- The next fence, where one is left and no entry comes before it.
  laid_fence : p < below → laid_from inner first below n p [] ≡ fence_of first p ∷ laid_from inner first below (n + 1) (p + 1) []
  unfolding wanted left ended
  laid_fence b = rw (← (fence_passed inner first below p)) (laid_next inner first below n p [] (lt-leb below p b))

  laid_over_lem : below ≤ p → laid_from inner first below n p [] ≡ []
  unfolding ended
  laid_over_lem b = laid_ended inner first below n p [] (le-leb below p b)

  module _ (e : Entry) (es : Level) where
    laid_fence_before : entry_next first below p e.pair ≡ false →
        laid_from inner first below n p (e ∷ es) ≡ fence_of first p ∷ laid_from inner first below (n + 1) (p + 1) (e ∷ es)
    unfolding wanted left ended
    laid_fence_before h = laid_next inner first below n p (e ∷ es) refl ∙ rw (h, fence_passed inner first below p) refl

    laid_inner : entry_next first below p e.pair ≡ true → fenced_at inner n ≡ true →
        laid_from inner first below n p (e ∷ es) ≡ internal e.pair (p - 1) ∷ laid_from inner first below (n + 1) p (e ∷ es)
    unfolding wanted left ended
    laid_inner h f = laid_next inner first below n p (e ∷ es) refl ∙ rw (h, f, internal_passed e.pair (p - 1) p) refl

    laid_index : entry_next first below p e.pair ≡ true → fenced_at inner n ≡ false →
        laid_from inner first below n p (e ∷ es) ≡ index e ∷ laid_from inner first below (n + 1) p es
    unfolding wanted left ended
    laid_index h f = laid_next inner first below n p (e ∷ es) refl ∙ rw (h, f, entry_passed e p) refl

-- The entry's slots, where it comes before the next fence.
laid_entry : (inner : Bool) (first : ℕ → Pair) (below n p : ℕ) (e : Entry) (es : Level) → entry_next first below p e.pair ≡ true →
    laid_from inner first below n p (e ∷ es) ≡ entry_slots inner n p e ++ laid_from inner first below (n + length (entry_slots inner n p e)) p es
unfolding entry_slots
laid_entry inner first below n p e es h = by_place (fenced_at inner n) refl
  where
    by_place : (b : Bool) → fenced_at inner n ≡ b →
        laid_from inner first below n p (e ∷ es) ≡
        elim b [ true ↦ internal e.pair (p - 1) ∷ index e ∷ [] | false ↦ index e ∷ [] ] ++
        laid_from inner first below (n + length {A = Slot} (elim b [ true ↦ internal e.pair (p - 1) ∷ index e ∷ [] | false ↦ index e ∷ [] ])) p es
    by_place true q =
        let two : n + 1 + 1 ≡ n + 2 = omega arith in
        let behind = laid_index inner first below (n + 1) p e es h (fenced_once inner n q) in
        laid_inner inner first below n p e es h q ∙ ap (λ (ss : List Slot). internal e.pair (p - 1) ∷ ss) behind ∙ rw two refl
    by_place false q = laid_index inner first below n p e es h q

-- All entries and all fences are still to come.
paged_least : (ss : List Slot) (j last : ℕ) → length ss ≤ length (paged j last ss)
unfolding paged
paged_least [] j last = omega arith
paged_least (s ∷ ss) j last = by_kind (fence_kind s.kind) (eqb j 0) (paged_least ss)
  where
    by_kind : (f z : Bool) → ((j last : ℕ) → length ss ≤ length (paged j last ss)) → suc (length ss) ≤ length {A = Slot} (elim f [
      | true ↦ s ∷ paged ((j + 1) % 21) s.page.0 ss
      | false ↦ elim z [ true ↦ internal s.pair last ∷ s ∷ paged 2 last ss | false ↦ s ∷ paged ((j + 1) % 21) last ss ]
    ])
    by_kind true z ih = omega (arith, ih ((j + 1) % 21) s.page.0)
    by_kind false true ih = omega (arith, ih 2 last)
    by_kind false false ih = omega (arith, ih ((j + 1) % 21) last)

laid_least : (inner : Bool) (first : ℕ → Pair) (below n p : ℕ) (es : Level) →
    length es + (below - p) ≤ length (laid_from inner first below n p es)
unfolding laid_from fences_from cut
laid_least true first below n p es =
    let fences : List Slot = fences_from true first below p in
    omega (arith, paged_least (weave es fences) (n % 21) (p - 1), weave_length es fences, length_span (fence_of first) p (below - p))
laid_least false first below n p es =
    omega (arith, weave_length es (fences_from false first below p), length_span (fence_of first) p (below - p))

-- What the area becomes -----------------------------------------------------------------------------------------------------------------------

module _ (w : List ℕ) (source : Source) where
  -- The area, and the number of slots in it, when these entries have come after `own` own slots and `fence` fences.
  unfoldable pub finished : List ℕ → ℕ → ℕ → Level → List ℕ × ℕ
  finished work own fence es =
      slots_put work (own + fence) (laid_from source.fenced (first_below w source) source.below (own + fence) fence es)

  module _ (work : List ℕ) (own fence : ℕ) where
    -- It stays the same with the next fence put, or the next entry; and where nothing is left, the area is finished.
    pub fence_put : (s : Slot) → fence < source.below → s ≡ fence_of (first_below w source) fence →
        finished (slot_put work (own + fence) s) own (fence + 1) [] ≡ finished work own fence []
    unfolding finished slots_put
    fence_put s b e =
        let on : own + (fence + 1) ≡ own + fence + 1 = omega arith in
        rw (on, laid_fence source.fenced (first_below w source) source.below (own + fence) fence b, e, slots_put) refl

    fence_put_before : (e : Entry) (s : Slot) → entry_next (first_below w source) source.below fence e.pair ≡ false →
        s ≡ fence_of (first_below w source) fence → (es : Level) →
        finished (slot_put work (own + fence) s) own (fence + 1) (e ∷ es) ≡ finished work own fence (e ∷ es)
    unfolding finished slots_put
    fence_put_before e s h q es =
        let on : own + (fence + 1) ≡ own + fence + 1 = omega arith in
        rw (on, laid_fence_before source.fenced (first_below w source) source.below (own + fence) fence e es h, q, slots_put) refl

    pub entry_put : (e : Entry) (es : Level) (put : List ℕ) (r : ℕ) → entry_next (first_below w source) source.below fence e.pair ≡ true →
        (put, r + fence) ≡ slots_put work (own + fence) (entry_slots source.fenced (own + fence) fence e) →
        finished put r fence es ≡ finished work own fence (e ∷ es)
    unfolding finished
    entry_put e es put r h told =
        let ss : List Slot = entry_slots source.fenced (own + fence) fence e in
        let coming : ℕ → List Slot = λ n. laid_from source.fenced (first_below w source) source.below n fence es in
        let put-ss : List ℕ × ℕ = slots_put work (own + fence) ss in
        ap (λ (x : List ℕ × ℕ). slots_put x.0 x.1 (coming x.1)) told ∙
        ap (λ (n : ℕ). slots_put put-ss.0 put-ss.1 (coming n)) (put_count work (own + fence) ss) ∙
        sym (put_joined work (own + fence) ss (coming (own + fence + length ss))) ∙
        ap (slots_put work (own + fence)) (sym (laid_entry source.fenced (first_below w source) source.below (own + fence) fence e es h))

    pub all_put : source.below ≤ fence → (work, own + fence) ≡ finished work own fence []
    unfolding finished slots_put
    all_put b = rw (laid_over_lem source.fenced (first_below w source) source.below (own + fence) fence b, slots_put) refl

    -- All entries and fences find their place before the end.
    pub finish_least : (es : Level) → own + fence + (length es + (source.below - fence)) ≤ (finished work own fence es).1
    unfolding finished
    finish_least es =
        let coming : List Slot = laid_from source.fenced (first_below w source) source.below (own + fence) fence es in
        omega (
          arith,
          put_count work (own + fence) coming,
          laid_least source.fenced (first_below w source) source.below (own + fence) fence es,
        )

  -- Whatever entries come from one of this pair on, an area and one with further fences put come to the same.
  abbrev pub SameFinish : Pair → ℕ → List ℕ → ℕ → List ℕ → ℕ → Type 0
  SameFinish pair own work fence area later =
      (e : Entry) (es : Level) → e.pair ≡ pair → finished area own later (e ∷ es) ≡ finished work own fence (e ∷ es)

  pub same_further : (pair : Pair) (own : ℕ) (work₀ : List ℕ) (fence₀ : ℕ) (work : List ℕ) (fence : ℕ) →
      SameFinish pair own work₀ fence₀ work fence → entry_next (first_below w source) source.below fence pair ≡ false →
      (s : Slot) → s ≡ fence_of (first_below w source) fence → SameFinish pair own work₀ fence₀ (slot_put work (own + fence) s) (fence + 1)
  same_further pair own work₀ fence₀ work fence same h s q e es p =
      fence_put_before work own fence e s (ap (entry_next (first_below w source) source.below fence) p ∙ h) q es ∙ same e es p

  -- Whatever entries come behind this one, an area and one with it put, and the fences before it, come to the same.
  abbrev pub EntryPut : Entry → List ℕ → Position → List ℕ → Position → Type 0
  EntryPut e work at area then = (es : Level) → finished area then.own then.fence es ≡ finished work at.own at.fence (e ∷ es)

  -- From the level without slots on, the area becomes the level of all entries.
  pub finish_whole : (work : List ℕ) (room : ℕ) (es : Level) → work ≡ level_words [] room →
      es ≡ join (entries_in w source.upper) (entries_in w source.lower) → length (level_from w source) ≤ 21 * room →
      finished work 0 0 es ≡ (level_words (level_from w source) room, length (level_from w source))
  unfolding finished level_from
  finish_whole work room es e q h =
      let all : Level = join (entries_in w source.upper) (entries_in w source.lower) in
      rw (e, q, laid_whole source.fenced (first_below w source) source.below all)
      (slots_appended room [] (level_from w source) (omega (arith, h)))

-- Slots whose page numbers fit their tags -----------------------------------------------------------------------------------------------------

pub fence_fits : (first : ℕ → Pair) (p below : ℕ) (s : Slot) → s ≡ fence_of first p → p < below → below ≤ 2 ^ 30 → s.page.0 < 2 ^ 30
unfolding fence_of external
fence_fits first zero below s e b h = omega (arith, ap (λ (t : Slot). t.page.0) e)
fence_fits first (suc p) below s e b h = omega (arith, ap (λ (t : Slot). t.page.0) e)

pub inner_fits : (a : Pair) (p : ℕ) (s : Slot) → s ≡ internal a (p - 1) → p ≤ 2 ^ 30 → s.page.0 < 2 ^ 30
unfolding internal
inner_fits a p s e h = omega (arith, ap (λ (t : Slot). t.page.0) e)

pub index_fits : (e : Entry) (s : Slot) → s ≡ index e → s.page.0 < 2 ^ 30
unfolding index
index_fits e s q = omega (arith, ap (λ (t : Slot). t.page.0) q)
