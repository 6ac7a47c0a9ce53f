-- Reading a store that is laid out in slots gives those slots back, level by level and page by page. Assumes nothing.
use Prim.Native.Nat.{ℕ, zero, suc, ◌+◌, ◌*◌, ◌≤◌, ◌<◌, min}
use native.Mathlib.Omega.{arith}
use Rattle.std.specs.Prelude.{◌≡◌, take, drop}
use Rattle.std.proofs.Math.Path.{refl, sym, ap}
use Rattle.std.proofs.Common.{◌∙◌}
use mathlib.Core.List.{List, []}
use Rattle.std.proofs.Math.ListN.{length, get_or}
use Rattle.std.proofs.Math.Seq.{get_or-take, get_or-drop}
use Rattle.laws.specs.Lists.{get_d_span}
use Rattle.geometry.specs.declared.Geometry.{Geometry}
use Rattle.geometry.specs.Geometry.{InRange, room}
use Rattle.geometry.specs.Places.{pages_word, head_count_word, head_start, head_room, level_start, page_place, slot_place, store_words, head_word, ratio_word, levels_word, live_word, mode_word, directory_words}
use Rattle.geometry.specs.Apart.{level_one, level_after, level_inside, first_slot}
use Rattle.slot.specs.declared.Slot.{Slot}
use Rattle.slot.specs.Pair.{least}
use Rattle.slot.specs.Slot.{slot_at}
use Rattle.rules.specs.Pages.{pages_some, pages_reach}
use Rattle.rules.specs.Level.{external, pages_for, page_of, first_among}
use Rattle.rules.specs.Store.{level_words, page_count, directory, laid_out}
use Rattle.rules.specs.Sound.{slots_from, head_slots, count_at, page_slots, level_slots, first_at}
use Rattle.geometry.specs.Directory.{geometry_of, pages_of, pages_of_lem}
use Rattle.rules.specs.Good.{Fits}
use Rattle.rules.specs.Reading.{Reads}
use Rattle.layout.specs.Words.{count_of, page_run}
use Rattle.layout.specs.Run.{run_slots}
use Rattle.layout.specs.Pages.{page_length, slots_length, count_read, page_read, level_read}
use Rattle.written.specs.Parts.{level_own}
use Rattle.stored.specs.Parts.{Parts, page_count_lem, no_page_count, laid_parts}

-- A level whose words are those of slots in its room.
module _ (g : Geometry) (w : List ℕ) (i : ℕ) (slots : List Slot) (whole : length w ≡ store_words g) (exists : i < 4) (fits : pages_for (length slots) ≤ room g i)
    (stands : take (64 * room g i) (drop (level_start g i) w) ≡ level_words slots (room g i)) where
  inside : level_start g i + 64 * room g i ≤ length w
  inside = omega (arith, level_after g i, level_inside g i exists)

  pub count_stands_lem : (p : ℕ) → p < pages_for (length slots) → count_at g w i p ≡ length (page_of slots p)
  unfolding count_at page_place count_of
  count_stands_lem p b = count_read w (level_start g i) (room g i) (pages_for (length slots)) inside (pages_some (length slots)) fits slots refl stands p b

  pub page_stands : (p : ℕ) → p < pages_for (length slots) → page_slots g w i p ≡ page_of slots p
  unfolding page_slots count_at page_place page_run count_of
  page_stands p b =
      rw (first_slot g i p) (page_read w (level_start g i) (room g i) (pages_for (length slots)) inside (pages_some (length slots)) fits slots refl stands p b)

  pub level_stands : pages_of g w i ≡ pages_for (length slots) → level_slots g w i ≡ slots
  level_stands e =
      level_own g w i ∙ rw e (level_read w (level_start g i) (room g i) (pages_for (length slots)) inside (pages_some (length slots)) fits slots refl stands)

  pub first_stands : (p : ℕ) → 21 * p < length slots → first_at g w i p ≡ first_among slots p
  unfolding first_at first_among page_slots slots_from page_of
  first_stands p h =
      let none : Slot = external least 0 in
      let at = slot_place g i p 0 in
      let e = page_stands p (pages_reach (length slots) p h) in
      let n = min (count_at g w i p) 21 in
      let some : 0 < n = omega (arith, ap length e, slots_length w at n, page_length slots p) in
      let z : at + 3 * (0 + 0) ≡ at = omega arith in
      let y : 21 * p + 0 ≡ 21 * p = omega arith in
      ap (λ (s : Slot). s.pair)
      (ap (slot_at w) (sym z) ∙ sym (get_d_span (λ j. slot_at w (at + 3 * j)) 0 n 0 none some) ∙ ap (λ (l : List Slot). get_or l 0 none) e ∙
      get_or-take 21 (drop (21 * p) slots) 0 none (omega arith) ∙ get_or-drop (21 * p) slots 0 none ∙ ap (λ (m : ℕ). get_or slots m none) y)

-- What stands in the directory.
directory_pages : (g : Geometry) (live : ℕ) (ss : List (List Slot)) (i : ℕ) → 1 ≤ i → i ≤ 3 → get_or (directory g live ss) (pages_word i) 0 ≡ page_count g ss i
unfolding directory
directory_pages g live ss zero l u = absurd (omega arith)
directory_pages g live ss (suc zero) l u = refl
directory_pages g live ss (suc (suc zero)) l u = refl
directory_pages g live ss (suc (suc (suc zero))) l u = refl
directory_pages g live ss (suc (suc (suc (suc i)))) l u = absurd (omega arith)

-- Words with the parts of slots are read as those slots.
module _ (g : Geometry) (live : ℕ) (ss : List (List Slot)) (w : List ℕ) (fit : InRange g) (fits : Fits g ss) (p : Parts g live ss w) where
  word : (j : ℕ) → j < directory_words → get_or w j 0 ≡ get_or (directory g live ss) j 0
  word j h = sym (get_or-take directory_words w j 0 h) ∙ ap (λ (l : List ℕ). get_or l j 0) p.front

  geometry_read : geometry_of w ≡ g
  unfolding geometry_of directory
  geometry_read =
      let a : get_or w head_word 0 ≡ g.head = word head_word (omega arith) in
      let b : get_or w ratio_word 0 ≡ g.ratio = word ratio_word (omega arith) in
      let c : get_or w levels_word 0 ≡ g.levels = word levels_word (omega arith) in
      λ i. record { head = a i; ratio = b i; levels = c i }

  pages_read_lem : (i : ℕ) → 1 ≤ i → i < g.levels → pages_of g w i ≡ pages_for (length (get_or ss i []))
  pages_read_lem i l u =
      let three : i ≤ 3 = omega (arith, fit.levels_most) in
      pages_of_lem g w i u ∙ word (pages_word i) (omega arith) ∙ directory_pages g live ss i l three ∙ page_count_lem g ss i u

  no_pages_read : (i : ℕ) → g.levels ≤ i → i ≤ 3 → get_or w (pages_word i) 0 ≡ 0
  no_pages_read i l u = word (pages_word i) (omega arith) ∙ directory_pages g live ss i (omega (arith, fit.levels_least)) u ∙ no_page_count g ss i l

  head_read : head_slots g w ≡ get_or ss 0 []
  unfolding head_slots directory head_room
  head_read =
      let slots = get_or ss 0 [] in
      let c : get_or w head_count_word 0 ≡ length slots = word head_count_word (omega arith) in
      let m : min (get_or w head_count_word 0) (head_room g) ≡ length slots = omega (arith, fits.head) in
      rw m (sym (run_slots w head_start (head_room g) slots (omega (arith, p.whole, level_one g, level_inside g 0 (omega arith))) fits.head p.head))

  exists : (i : ℕ) → i < g.levels → i < 4
  exists i u = omega (arith, fit.levels_most)

  pub parts_read : Reads g live ss w
  unfolding directory
  parts_read = record {
    whole = p.whole;
    geometry = geometry_read;
    live_pairs = word live_word (omega arith);
    reserved = word mode_word (omega arith);
    pages = pages_read_lem;
    no_pages = no_pages_read;
    head_count_lem = word head_count_word (omega arith);
    head_slots_lem = head_read;
    counts = λ i q l u. count_stands_lem g w i (get_or ss i []) p.whole (exists i u) (fits.rooms i l u) (p.levels i l u) q;
    page_slots_lem = λ i q l u. page_stands g w i (get_or ss i []) p.whole (exists i u) (fits.rooms i l u) (p.levels i l u) q;
    level_slots_lem = λ i l u. level_stands g w i (get_or ss i []) p.whole (exists i u) (fits.rooms i l u) (p.levels i l u) (pages_read_lem i l u);
    firsts = λ i q l u. first_stands g w i (get_or ss i []) p.whole (exists i u) (fits.rooms i l u) (p.levels i l u) q;
  }

-- So is a store that is laid out in them.
pub reads_back : (g : Geometry) (live : ℕ) (ss : List (List Slot)) → InRange g → Fits g ss → Reads g live ss (laid_out g live ss)
reads_back g live ss fit fits = parts_read g live ss (laid_out g live ss) fit fits (laid_parts g live ss fit fits.head)
