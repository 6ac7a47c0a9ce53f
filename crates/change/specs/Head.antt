-- What an accepted put or drop finds in the store: a head with room for one more slot, and live pairs that can go up or down. What the edit of
-- the head leaves as it is. Assumes nothing.
use Prim.Native.Nat.{ℕ, suc, ◌+◌, ◌-◌, ◌*◌, ◌≤◌, ◌<◌, min}
use native.Mathlib.Omega.{arith}
use Rattle.std.specs.Prelude.{◌≡◌, ◌≢◌, Bool, not, ◌&&◌, set, ltb, leb}
use Rattle.std.proofs.Math.Path.{ap}
use Rattle.std.proofs.Common.{◌∙◌}
use Rattle.std.proofs.Math.Bool.{true, false}
use mathlib.Core.List.{List, [], ◌∷◌, ◌++◌}
use Rattle.std.proofs.Math.ListN.{length, get_or, length-set}
use Rattle.std.proofs.lemmas.List.Edits.{sets}
use Rattle.std.proofs.Math.Seq.{slice, length-sets, get_or-set_same, get_or-set_other}
use borrow.Author.Tests.{leb-true, ltb-true}
use Rattle.laws.specs.Lists.{span, length_span}
use Rattle.laws.specs.Flat.{equal_true}
use Rattle.laws.specs.Sets.{get_d_sets_before}
use Rattle.geometry.specs.declared.Geometry.{Geometry}
use Rattle.geometry.specs.declared.Plan.{Plan}
use Rattle.geometry.specs.Geometry.{InRange, bottom, most, room}
use Rattle.geometry.specs.Places.{live_word, pages_word, head_count_word, head_start, head_place, head_room, erased}
use Rattle.geometry.specs.Bounds.{capacity_small}
use Rattle.geometry.specs.Lent.{Lent, lent, plan_words}
use Rattle.geometry.proofs.Lent.{head_lent}
use Rattle.slot.specs.declared.Pair.{Pair}
use Rattle.slot.specs.Pair.{least, Words}
use Rattle.slot.specs.Tag.{tag_of}
use Rattle.slot.specs.Slot.{words_of}
use Rattle.page.specs.Form.{slots_counted}
use Rattle.page.specs.Told.{length_run}
use Rattle.rules.specs.Tree.{Entry}
use Rattle.rules.specs.Level.{index}
use Rattle.rules.specs.Sound.{head_slots, entries_of, fence_pages, directory_right, head_right}
use Rattle.geometry.specs.Directory.{geometry_of, pages_of}
use Rattle.walk.specs.Walked.{found}
use Rattle.form.specs.declared.HeadRead.{HeadRead}
use Rattle.form.specs.Passes.{head_scanned, head_reach, head_entries}
use Rattle.walk.specs.Read.{head_tests, head_some}
use Rattle.walk.specs.Walk.{walked, found_directory, found_head}
use Rattle.rules.specs.Directed.{pages_most}
use Rattle.entries.specs.Levels.{PagesWithin}
use Rattle.entries.specs.Ready.{pages_within}
use Rattle.stored.specs.Fitting.{WordsFit}
use Rattle.edit.specs.Head.{slot_in, slot_out, entry_added, entry_removed}
use Rattle.good.specs.Edit.{live_after}
use Rattle.edited.specs.Reach.{reach, reach_within}
use Rattle.change.specs.declared.Report.{Report}
use Rattle.change.specs.Change.{toggled_behind, edited_behind, head_edited, fills_head, changed_head, change_of, told, done_on, change_edits}

-- One more live pair for a normal entry, one less for a filter: the number stays a word.
pub record LiveMoves (normal : Bool) (live : ℕ) : Type 0 where
  pub up : normal ≡ true → live < 4294967295
  pub down : normal ≡ false → 1 ≤ live

-- A head with room for one more slot, and its first `behind` slots.
pub record Editable (e : Entry) (behind : ℕ) (w : List ℕ) : Type 0 where
  pub some : 1 ≤ behind
  pub within : behind ≤ get_or w head_count_word 0
  pub more : head_start + 3 * (get_or w head_count_word 0 + 1) ≤ length w
  pub small : length w ≤ 600000
  pub live_moves : LiveMoves e.normal (get_or w live_word 0)

-- An accepted put or drop: the walk finds the pair held just if it is dropped, decided at a level, and live is below the most for a put, above
-- none for a drop.
pub record Accepted (g : Geometry) (w : List ℕ) (e : Entry) (decider : ℕ) : Type 0 where
  pub stored : geometry_of w ≡ g
  pub walks : walked g w e.pair ≡ found (not e.normal) decider
  pub room : e.normal ≡ true → get_or w live_word 0 < most g
  pub some : e.normal ≡ false → 1 ≤ get_or w live_word 0

-- In the head of a store that passed the walk's first tests.
module _ (g : Geometry) (w : List ℕ) (fit : InRange g) (directory : directory_right g w ≡ true) (right : head_right g w ≡ true) where
  -- All its slots are read.
  pub head_counted : length (head_slots g w) ≡ get_or w head_count_word 0
  unfolding head_slots
  head_counted = length_run w head_start (min (get_or w head_count_word 0) (head_room g)) ∙ omega (arith, leb-true (get_or w head_count_word 0) (head_room g) (head_tests g w least right).0)

  -- Its entries are fewer than H, its fences as many as level 1 has pages, so there is room for one more slot.
  pub head_has_room : suc (length (head_slots g w)) ≤ head_room g
  unfolding head_slots head_room
  head_has_room =
      let tests = head_tests g w least right in
      let ss = head_slots g w in
      omega (
        arith,
        slots_counted ss,
        ltb-true (length (entries_of ss)) g.head tests.1,
        ap length (equal_true (fence_pages ss) (span (λ p. p) 0 (pages_of g w 1)) tests.4),
        length_span (λ p. p) 0 (pages_of g w 1),
        pages_most g w directory 1 (omega arith) (omega arith) (omega (arith, fit.levels_least)),
      )

-- The first of them is at most every pair.
reach_least : (g : Geometry) (w : List ℕ) (p : Pair) → head_right g w ≡ true → 1 ≤ reach p (head_slots g w)
unfolding reach
reach_least g w p right = rw (head_reach g w p) at (head_some g w p right)

-- A pass over the head has counted its entries, and the slots at most the pair.
pub record Scanned (g : Geometry) (w : List ℕ) (e : Entry) (scan : HeadRead) : Type 0 where
  pub counted : scan.entries ≡ length (entries_of (head_slots g w))
  pub few : scan.entries ≤ 64
  pub reached : scan.reach ≡ reach e.pair (head_slots g w)

-- Whether the head is filled, from what a pass counted.
pub fills_told : (g : Geometry) (w : List ℕ) (own : Bool) (n : ℕ) → n ≡ length (entries_of (head_slots g w)) → (r : Bool) →
    r ≡ (not own && leb g.head (suc n)) → r ≡ fills_head g w own
unfolding fills_head
fills_told g w own n counted r h = rw counted at h

-- An accepted put or drop.
module _ (g : Geometry) (plan : Plan) (w : List ℕ) (e : Entry) (decider : ℕ) (lends : Lent g plan w) (accepted : Accepted g w e decider) where
  pub accepted_directory : directory_right g w ≡ true
  accepted_directory = found_directory g w e.pair (not e.normal) decider accepted.walks

  pub accepted_head : head_right g w ≡ true
  accepted_head = found_head g w e.pair (not e.normal) decider accepted.walks

  live_moves : LiveMoves e.normal (get_or w live_word 0)
  unfolding most
  live_moves = record {
    up = λ n. omega (arith, accepted.room n, capacity_small g lends.in_range_lem (bottom g) (omega (arith, lends.in_range_lem.levels_most)));
    down = accepted.some;
  }

  -- What a pass over the head for the pair finds.
  pub accepted_scanned : (scan : HeadRead) → scan ≡ head_scanned g w e.pair → Scanned g w e scan
  unfolding reach head_slots
  accepted_scanned scan read =
      let counted : scan.entries ≡ length (entries_of (head_slots g w)) = ap (λ (c : HeadRead). c.entries) read ∙ head_entries g w e.pair in
      let some = ltb-true (length (entries_of (head_slots g w))) g.head (head_tests g w e.pair accepted_head).1 in
      record {
        counted = counted;
        few = omega (arith, counted, some, lends.in_range_lem.head_most);
        reached = ap (λ (c : HeadRead). c.reach) read ∙ head_reach g w e.pair;
      }

  -- So the head can be edited behind the slots at most the pair.
  pub accepted_editable : (behind : ℕ) → behind ≡ reach e.pair (head_slots g w) → Editable e behind w
  accepted_editable behind reached =
      let counted = head_counted g w lends.in_range_lem accepted_directory accepted_head in
      let roomy = head_has_room g w lends.in_range_lem accepted_directory accepted_head in
      record {
        some = omega (arith, reached, some_reached);
        within = omega (arith, reached, counted, reach_within e.pair (head_slots g w));
        more = omega (arith, counted, roomy, head_lent g plan w lends);
        small = omega (arith, lends.exact, plan_words plan g lends.planned, lends.small.store_below);
        live_moves = live_moves;
      }
    where
      some_reached : 1 ≤ reach e.pair (head_slots g w)
      some_reached = reach_least g w e.pair accepted_head

-- Words stored among the head's slots, with a slot count: the rest of the directory stays, and the length.
module _ (w : List ℕ) (at : ℕ) (vs : List ℕ) (count : ℕ) where
  stored_length : length (set (sets w at vs) head_count_word count) ≡ length w
  stored_length = length-set (sets w at vs) head_count_word count ∙ length-sets w at vs

  stored_directory : head_start ≤ at → (i : ℕ) → i < head_count_word → get_or (set (sets w at vs) head_count_word count) i 0 ≡ get_or w i 0
  stored_directory b i h =
      get_or-set_other (sets w at vs) head_count_word i count 0 (λ q. omega (arith, q, h)) ∙ get_d_sets_before w at i vs 0 (omega (arith, b, h))

-- So it is with an edit of the head, but for live.
module _ (e : Entry) (behind : ℕ) (w : List ℕ) where
  abbrev moved : ℕ → List ℕ
  moved from = slice from (head_place (get_or w head_count_word 0)) w

  toggled_length : (own : Bool) → length (toggled_behind e behind own w) ≡ length w
  unfolding toggled_behind entry_added entry_removed slot_in slot_out
  toggled_length true =
      stored_length w (head_place (behind - 1)) (moved (head_place (behind - 1) + 3) ++ erased ∷ erased ∷ erased ∷ []) (get_or w head_count_word 0 - 1)
  toggled_length false = stored_length w (head_place behind) (words_of (index e) ++ moved (head_place behind)) (get_or w head_count_word 0 + 1)

  toggled_directory : (own : Bool) (i : ℕ) → i < head_count_word → get_or (toggled_behind e behind own w) i 0 ≡ get_or w i 0
  unfolding toggled_behind entry_added entry_removed slot_in slot_out head_place
  toggled_directory true i h =
      stored_directory w (head_place (behind - 1)) (moved (head_place (behind - 1) + 3) ++ erased ∷ erased ∷ erased ∷ []) (get_or w head_count_word 0 - 1) (omega arith) i h
  toggled_directory false i h =
      stored_directory w (head_place behind) (words_of (index e) ++ moved (head_place behind)) (get_or w head_count_word 0 + 1) (omega arith) i h

module _ (e : Entry) (behind : ℕ) (own : Bool) (w : List ℕ) where
  abbrev live : ℕ
  live = live_after e.normal (get_or w live_word 0)

  pub edited_length : length (edited_behind e behind own w) ≡ length w
  unfolding edited_behind
  edited_length = length-set (toggled_behind e behind own w) live_word live ∙ toggled_length e behind w own

  pub edited_live : live_word < length w → get_or (edited_behind e behind own w) live_word 0 ≡ live
  unfolding edited_behind
  edited_live h = get_or-set_same (toggled_behind e behind own w) live_word live 0 (omega (arith, h, toggled_length e behind w own))

  pub edited_directory : (i : ℕ) → i < head_count_word → i ≢ live_word → get_or (edited_behind e behind own w) i 0 ≡ get_or w i 0
  unfolding edited_behind
  edited_directory i h n = get_or-set_other (toggled_behind e behind own w) live_word i live 0 n ∙ toggled_directory e behind w own i h

  edited_pages : (g : Geometry) (i : ℕ) → 1 ≤ i → i ≤ 3 → pages_of g (edited_behind e behind own w) i ≡ pages_of g w i
  unfolding pages_of
  edited_pages g i l u =
      ap (λ (n : ℕ). elim (ltb i g.levels) as (λ _. ℕ) [ true ↦ n | false ↦ 0 ]) (edited_directory (pages_word i) (omega (arith, u)) (λ q. omega (arith, q, l)))

  pub edited_within : (g : Geometry) → PagesWithin g w → PagesWithin g (edited_behind e behind own w)
  edited_within g h = record {
    first = rw (edited_pages g 1 (omega arith) (omega arith)) h.first;
    second = rw (edited_pages g 2 (omega arith) (omega arith)) h.second;
    third = rw (edited_pages g 3 (omega arith) (omega arith)) h.third;
  }

-- An entry that was added stands in the store, so its badge and floor are words.
module _ (w : List ℕ) (at a b : ℕ) (vs : List ℕ) where
  first_stored : at < length w → get_or (sets w at (a ∷ b ∷ vs)) at 0 ≡ a
  first_stored h =
      get_d_sets_before (set (set w at a) (suc at) b) (suc (suc at)) at vs 0 (omega arith) ∙
      get_or-set_other (set w at a) (suc at) at b 0 (λ q. omega (arith, q)) ∙ get_or-set_same w at a 0 h

  second_stored : suc at < length w → get_or (sets w at (a ∷ b ∷ vs)) (suc at) 0 ≡ b
  second_stored h =
      get_d_sets_before (set (set w at a) (suc at) b) (suc (suc at)) (suc at) vs 0 (omega arith) ∙
      get_or-set_same (set w at a) (suc at) b 0 (omega (arith, h, length-set w at a))

module _ (e : Entry) (behind : ℕ) (w v : List ℕ) (edits : v ≡ edited_behind e behind false w) (asked : Editable e behind w) (fits : WordsFit v) where
  abbrev at : ℕ
  at = head_place behind

  abbrev put : List ℕ
  put = sets w at (words_of (index e) ++ slice at (head_place (get_or w head_count_word 0)) w)

  put_stays : (i : ℕ) → head_start ≤ i → get_or v i 0 ≡ get_or put i 0
  unfolding edited_behind toggled_behind entry_added slot_in
  put_stays i h =
      let count : ℕ = get_or w head_count_word 0 + 1 in
      ap (λ (l : List ℕ). get_or l i 0) edits ∙
      get_or-set_other (set put head_count_word count) live_word i (live_after e.normal (get_or w live_word 0)) 0 (λ q. omega (arith, q, h)) ∙
      get_or-set_other put head_count_word i count 0 (λ q. omega (arith, q, h))

  pub added_fits : Words e.pair
  unfolding head_place words_of index
  added_fits =
      let rest : List ℕ = tag_of (index e).kind (index e).page ∷ slice at (head_place (get_or w head_count_word 0)) w in
      let inside : suc at < length w = omega (arith, asked.within, asked.more) in
      record {
        badge_fits = omega (arith, fits at, put_stays at (omega arith), first_stored w at e.pair.badge e.pair.floor.0 rest (omega (arith, inside)));
        floor_fits = omega (arith, fits (suc at), put_stays (suc at) (omega arith), second_stored w at e.pair.badge e.pair.floor.0 rest inside);
      }

-- The store after the edit of an accepted change is lent as before, and what is told of it is what the change comes to.
module _ (g : Geometry) (plan : Plan) (w : List ℕ) (e : Entry) (decider : ℕ) (lends : Lent g plan w) (accepted : Accepted g w e decider) (behind : ℕ)
    (own : Bool) (v : List ℕ) (edits : v ≡ edited_behind e behind own w) where
  pub edited_lent : Lent g plan v
  edited_lent = lent g plan v lends.in_range_lem lends.planned (ap length edits ∙ edited_length e behind own w ∙ lends.exact)

  pub edited_ready : Lent g plan v × PagesWithin g v
  edited_ready = (edited_lent, rw edits (edited_within e behind own w g (pages_within g w (accepted_directory g plan w e decider lends accepted))))

  pub edited_told : (work : List ℕ) (r : Report) → behind ≡ reach e.pair (head_slots g w) → fills_head g w own ≡ false → r ≡ done_on g v 0 0 →
      told r v work ≡ change_of g e own w work
  unfolding done_on changed_head head_edited
  edited_told work r reached few done =
      rw (done, edits, edited_live e behind own w (omega (arith, lends.nine)), reached) (change_edits g e w work own few)
