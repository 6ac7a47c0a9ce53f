-- The place that is told lies inside the store: in the head's room, or in a page that the room of its level has. Assumes nothing.
use Prim.Native.Nat.{ℕ, zero, suc, ◌+◌, ◌*◌, ◌≤◌, ◌<◌}
use Rattle.std.proofs.Common.{mul-suc, arith, ◌∙◌, leb-true, ltb-true, eqb-true}
use Rattle.std.specs.Prelude.{◌≡◌, Bool, true, false, ◌≢◌, leb, ltb, eqb}
use Rattle.std.proofs.Math.Path.{refl, ap}
use mathlib.Core.List.{List, ◌∷◌, map}
use Rattle.std.proofs.Math.ListN.{length, length-append}
use Rattle.std.proofs.lemmas.List.{length-map}
use Rattle.std.proofs.lemmas.Bool.{eqb-false}
use Rattle.laws.specs.Lists.{length_span}
use Rattle.fault.specs.declared.Fault.{Fault}
use Rattle.fault.specs.declared.Part.{Part}
use Rattle.fault.specs.declared.Part.TheVariants.{Kinds}
use Rattle.fault.specs.Numbers.{no_place}
use Rattle.geometry.specs.declared.Geometry.{Geometry}
use Rattle.geometry.specs.Geometry.{InRange, bottom, capacity, most, total, room}
use Rattle.geometry.specs.Bounds.{capacity_least, room_bottom, room_above}
use Rattle.geometry.specs.Places.{head_room, level_start, slots_in_page}
use Rattle.geometry.specs.Directory.{pages_of}
use Rattle.slot.specs.declared.Slot.{Slot}
use Rattle.rules.specs.Tree.{Level, level}
use Rattle.rules.specs.Level.{index, pages_for, fence_of, fences, weave, paged}
use Rattle.rules.specs.Sound.{level_slots, entries_of, first_at, tree_of, directory_right, level_laid, within_capacity}
use Rattle.rules.specs.Directed.{pages_fit}
use Rattle.rules.specs.Faults.{page_size, entries_most}
use Rattle.faults.specs.Head.{HeadBreaks}
use Rattle.faults.specs.Head.HeadBreaks.{fences_few}
use Rattle.faults.specs.Pages.{PageBreaks, Unformed, count_most}
use Rattle.faults.specs.Places.{slot_number}
use Rattle.faults.specs.Standing.{entry_place, head_stands, level_stands}
use Rattle.faults.specs.Words.{slot_within}
use Rattle.faults.specs.Miswritten.{own_words, LevelBreaks, Miswritten}
use Rattle.faults.specs.Miswritten.LevelBreaks.{word_differs, entry_falls, entry_too_many, pages_uncounted}
use Rattle.faults.specs.Miswritten.Miswritten.{in_head, in_level}
use Rattle.faults.specs.Kinds.{FirstWrong, WrongAcross, level_read}
use Rattle.faults.specs.Kinds.WrongAcross.{kind_wrong, live_wrong}
use Rattle.good.proofs.Cascade.{capacity_total}
use Rattle.good.specs.Pages.{weave_length, paged_pages, pages_within}

-- The place of a fault is a slot of the head's room, or of a page of the room of a level below.
pub data Inside (g : Geometry) (f : Fault) : Type 0 where
  of_head_lem : f.level ≡ 0 → f.page ≡ 0 → f.slot < head_room g → Inside g f
  of_level_lem : 1 ≤ f.level → f.level < g.levels → f.page < room g f.level → f.slot < slots_in_page → Inside g f

-- Zeros name the head's first slot.
head_room_lem : (g : Geometry) → InRange g → 0 < head_room g
unfolding head_room
head_room_lem g fit = omega (arith, fit.head_least)

pub zeros_inside : (g : Geometry) → InRange g → (part : Part) → Inside g (no_place part)
zeros_inside g fit part = of_head_lem refl refl (head_room_lem g fit)

module _ (g : Geometry) (w : List ℕ) (fit : InRange g) (right : directory_right g w ≡ true) where
  -- Entries within a level's capacity are written in its room, over pages that fit theirs.
  pub writing_fits : (i : ℕ) (es : Level) → 1 ≤ i → i < g.levels → within_capacity g i (length es) ≡ true → pages_for (length (level_laid g w i es)) ≤ room g i
  unfolding within_capacity level_laid most fences
  writing_fits i es l u within = by (eqb i (bottom g)) refl within
    where
      row : List Slot
      row = weave es (fences (first_at g w (suc i)) (pages_of g w (suc i)))

      at_bottom : g.levels ≡ suc i → length es ≤ most g → pages_for (length (map index es)) ≤ room g i
      at_bottom q few =
          let b : bottom g ≡ i = omega (arith, q) in
          rw (length-map es index, room_bottom g i l q) (pages_within (length es) (capacity g i) (capacity_least g fit i) (rw b at few))

      above : suc i < g.levels → length es < capacity g i → pages_for (length (paged 0 0 row)) ≤ room g i
      above v few =
          let long : length row ≡ length es + pages_of g w (suc i) =
          weave_length es (fences (first_at g w (suc i)) (pages_of g w (suc i))) ∙ ap (λ (n : ℕ). length es + n) (length_span (fence_of (first_at g w (suc i))) 0 (pages_of g w (suc i))) in
          let pages = pages_fit g w right (suc i) (omega arith) (omega (arith, fit.levels_most)) in
          rw (room_above g i l v)
          (paged_pages row (total g i + room g (suc i)) (omega (arith, capacity_least g fit i, capacity_total g fit i)) (omega (arith, long, capacity_total g fit i)))

      by : (b : Bool) → eqb i (bottom g) ≡ b → elim b as (λ _. Bool) [ true ↦ leb (length es) (most g) | false ↦ ltb (length es) (capacity g i) ] ≡ true →
          pages_for (length {A = Slot} (elim b [ true ↦ map index es | false ↦ paged 0 0 row ])) ≤ room g i
      by true e few = at_bottom (omega (arith, eqb-true i (bottom g) e)) (leb-true _ _ few)
      by false e few =
          let other : i ≢ bottom g = eqb-false _ _ e in
          above (omega arith) (ltb-true _ _ few)

  -- A slot's number below the end of the head, or of the pages of a level, is a slot there.
  no_page : (size page slot : ℕ) → size * page + slot < size → page ≡ 0
  no_page size zero slot h = refl
  no_page size (suc page) slot h = absurd (omega (arith, rw mul-suc at h))

  numbered_inside : (f : Fault) → f.slot < page_size g f.level → (f.level ≡ 0 → slot_number g f < head_room g) →
      (1 ≤ f.level → (f.level < g.levels) × (slot_number g f < slots_in_page * room g f.level)) → Inside g f
  unfolding slot_number page_size
  numbered_inside f slot head below = by f.level refl
    where
      by : (i : ℕ) → f.level ≡ i → Inside g f
      by zero e =
          let size : page_size g f.level ≡ head_room g = rw e refl in
          of_head_lem e (no_page (head_room g) f.page f.slot (rw size at (head e))) (rw size at slot)
      by (suc i) e =
          let size : page_size g f.level ≡ slots_in_page = rw e refl in
          let told = below (omega arith) in
          let number : slots_in_page * f.page + f.slot < slots_in_page * room g f.level = rw size at told.1 in
          of_level_lem (omega arith) told.0 (omega arith) (rw size at slot)

  -- Each number's place.
  pub head_inside : (f : Fault) → f.level ≡ 0 → f.page ≡ 0 → HeadBreaks g w f.slot → Inside g f
  head_inside f l p (HeadBreaks.count_out h s) = of_head_lem l p (omega (arith, head_room_lem g fit))
  head_inside f l p (HeadBreaks.slot_breaks h u at wrong) = of_head_lem l p (omega arith)
  head_inside f l p (fences_few h kept few s) = of_head_lem l p (omega (arith, head_room_lem g fit))

  pub page_inside : (f : Fault) → Unformed g w f → Inside g f
  page_inside f u = by u.slot
    where
      i : ℕ
      i = f.level

      pages : f.page < room g i
      pages = omega (arith, u.page.page_exists, pages_fit g w right i u.page.below_head (omega (arith, u.page.level_exists, fit.levels_most)))

      by : PageBreaks g w i f.page f.slot → Inside g f
      by (PageBreaks.count_out c s) = of_level_lem u.page.below_head u.page.level_exists pages (omega arith)
      by (PageBreaks.slot_breaks c below at wrong) = of_level_lem u.page.below_head u.page.level_exists pages (omega (arith, count_most g w i f.page c))

  -- An entry of a level stands in a page that is counted.
  entry_inside : (i m : ℕ) → 1 ≤ i → i < g.levels → m < length (entries_of (level_slots g w i)) → entry_place g w i m < slots_in_page * room g i
  unfolding entry_place
  entry_inside i m l u h = omega (arith, (level_stands g w i l).below m 0 h, pages_fit g w right i l (omega (arith, fit.levels_most)))

  level_inside : (i n : ℕ) → 1 ≤ i → i < g.levels → LevelBreaks g w i n → n < slots_in_page * room g i
  level_inside i n l u (word_differs differs) = slot_within w (level_start g i) (room g i) (own_words g w i) n differs
  level_inside i n l u (entry_falls m at falls) = rw (← at.numbered) (entry_inside i m l u at.inside)
  level_inside i n l u (entry_too_many at) = rw (← at.numbered) (entry_inside i (entries_most g i) l u at.inside)
  level_inside i n l u (pages_uncounted same rise few more e) = omega (arith, writing_fits i (entries_of (level_slots g w i)) l u few)

  pub writing_inside : (f : Fault) → Miswritten g w f → Inside g f
  writing_inside f (in_head l p told) = of_head_lem l p told.within
  writing_inside f (in_level slot told) =
      numbered_inside f slot (λ e. absurd (omega (arith, told.below_head)))
      (λ l. (told.level_exists, level_inside f.level (slot_number g f) l told.level_exists told.breaks))

  wrong_inside : (i n : ℕ) → FirstWrong g w i n → (i ≡ 0 → n < head_room g) × (1 ≤ i → n < slots_in_page * room g i)
  unfolding tree_of entry_place
  wrong_inside i n told = by i told (omega (arith, ap length told.entries, length-append told.front (told.entry ∷ told.back)))
    where
      by : (i : ℕ) (told : FirstWrong g w i n) → length told.front < length (level i (tree_of g w)) → (i ≡ 0 → n < head_room g) × (1 ≤ i → n < slots_in_page * room g i)
      by zero told h = (λ e. rw (← told.stands) ((head_stands g w).below (length told.front) 0 h), λ l. absurd (omega arith))
      by (suc i) told h = (
        λ e. absurd (omega arith),
        λ l.
            let read = level_read g w i (omega (arith, told.level_exists)) in
            rw (← told.stands) (entry_inside (suc i) (length told.front) l told.level_exists (rw read at h)),
      )

  pub kinds_inside : (f : Fault) → WrongAcross g w f → Inside g f
  kinds_inside f (live_wrong alternates wrong e) = rw e (zeros_inside g fit Kinds)
  kinds_inside f (kind_wrong slot told) =
      let inside = wrong_inside f.level (slot_number g f) told in
      numbered_inside f slot inside.0 (λ l. (told.level_exists, inside.1 l))
