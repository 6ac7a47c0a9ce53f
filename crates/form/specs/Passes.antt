-- What the clauses of src/lib.rt cite of a pass over the head and over a page, and that its mark `formed` is what the paper tests there, beside the slot to tell.
-- Assumes nothing.
use Rattle.std.specs.Prelude.{ℕ, zero, suc, ◌+◌, ◌*◌, ◌≤◌, ◌<◌, min, not, ◌&&◌, ◌||◌, length, get_or, take, leb, eqb, Result, Ok, Err, is_ok}
use Rattle.std.proofs.Math.Numerals.{add-one}
use Rattle.std.proofs.Common.{arith, ap, ◌∙◌, le-leb, eq-eqb, ne_eqb, eqb-true}
use Rattle.std.proofs.Math.Path.{◌≡◌, refl, sym, fun_ext}
use Rattle.std.proofs.Math.Bool.{Bool, true, false, cond}
use mathlib.Core.List.{List, [], ◌∷◌}
use Rattle.std.proofs.Math.Dec.{ltb}
use Rattle.std.proofs.lemmas.Bool.{eqb-false}
use Rattle.laws.specs.Tests.{and_assoc, and_true, and_false}
use Rattle.laws.specs.First.{first_from, first_not, first_at_once}
use Rattle.laws.specs.Lists.{span, passing, all, equal}
use Rattle.geometry.specs.declared.Geometry.{Geometry}
use Rattle.geometry.specs.declared.Plan.{Plan}
use Rattle.geometry.specs.Lent.{Lent}
use Rattle.geometry.proofs.Lent.{head_lent, head_least, head_room_at}
use Rattle.geometry.specs.Geometry.{bottom}
use Rattle.geometry.specs.Places.{head_room, head_count_word, head_start, slots_in_page, words_in_slot, page_place}
use Rattle.slot.specs.declared.Pair.{Pair}
use Rattle.slot.specs.declared.Slot.{Slot}
use Rattle.slot.specs.Pair.{least, before, same}
use Rattle.slot.specs.Slot.{slot_at}
use Rattle.rules.specs.Level.{fence_kind}
use Rattle.rules.specs.Sound.{slots_from, head_slots, count_at, page_slots, entries_of, in_order, legal, fence_pages, first_is_least, head_right, count_right, page_formed}
use Rattle.rules.specs.Faults.{breaking, head_rule, head_slot, page_rule, page_slot}
use Rattle.geometry.specs.Directory.{pages_of}
use Rattle.page.specs.declared.Scan.{Scan}
use Rattle.page.specs.Scan.{started, scanned}
use Rattle.page.specs.Tag.{legal_below, head_tag}
use Rattle.page.specs.Form.{scan_reach, scan_fences, scan_entries, page_tested_lem, head_tested_lem, page_breaking, head_breaking, equal_in_turn}
use Rattle.page.specs.Told.{length_run}
use Rattle.form.specs.declared.PageAt.{PageAt}
use Rattle.form.specs.declared.HeadAt.{HeadAt}
use Rattle.form.specs.declared.PageRead.{PageRead}
use Rattle.form.specs.declared.HeadRead.{HeadRead}

-- A count of 1..21, or 0 in a page that stands alone.
abbrev pub count_fits : ℕ → Bool → Bool
count_fits n alone = leb n slots_in_page && (leb 1 n || alone)

-- A fence with the least pair; a fence not above a pair.
unfoldable pub least_fence : Slot → Bool
least_fence s = fence_kind s.kind && same least s.pair

unfoldable pub fence_up_to : Pair → Slot → Bool
fence_up_to asked s = fence_kind s.kind && not (before asked s.pair)

-- The slot to tell, marked by whether the tests pass; and the slot in either case.
abbrev pub marked_slot : Bool → ℕ → Result ℕ ℕ
marked_slot right slot = cond right (Ok slot) (Err slot)

abbrev pub slot_told : Result ℕ ℕ → ℕ
slot_told (Ok slot) = slot
slot_told (Err slot) = slot

mark_of : (b : Bool) (n : ℕ) → is_ok (marked_slot b n) ≡ b
mark_of true n = refl
mark_of false n = refl

slot_of : (b : Bool) (n : ℕ) → slot_told (marked_slot b n) ≡ n
slot_of true n = refl
slot_of false n = refl

no_flaw : (b : Bool) (n m : ℕ) → marked_slot b n ≡ Ok m → b ≡ true
no_flaw true n m e = refl
no_flaw false n m e = cc

flaw_in : (b : Bool) (n m : ℕ) → marked_slot b n ≡ Err m → (b ≡ false) × (m ≡ n)
flaw_in true n m e = cc
flaw_in false n m e = (refl, cc)

-- What a pass over a page and one over the head come to.
unfoldable pub page_scanned : Geometry → List ℕ → Pair → ℕ → ℕ → PageRead
page_scanned g w asked i p = record {
  formed = marked_slot (page_formed g w i p) (page_slot g w i p);
  reach = length (passing (λ s. not (before asked s.pair)) (page_slots g w i p));
}

unfoldable pub head_scanned : Geometry → List ℕ → Pair → HeadRead
head_scanned g w asked = record {
  formed = marked_slot (head_right g w) (head_slot g w);
  entries = length (entries_of (head_slots g w));
  reach = length (passing (λ s. not (before asked s.pair)) (head_slots g w));
}

-- What a page and the head are tested by.
unfoldable pub page_at : Geometry → List ℕ → ℕ → ℕ → PageAt
page_at g w i p = record { place = page_place g i p; below = pages_of g w (i + 1); alone = eqb (i + 1) g.levels && eqb (pages_of g w i) 1 }

unfoldable pub head_at : Geometry → List ℕ → HeadAt
head_at g w = record { room = head_room g; below = pages_of g w 1; head = g.head }

pub place_at : (g : Geometry) (w : List ℕ) (i p : ℕ) → {at : PageAt} → at ≡ page_at g w i p → at.place ≡ page_place g i p
unfolding page_at
place_at g w i p e = ap (λ (at : PageAt). at.place) e

-- A pass tells of a page and of the head what it comes to, whichever geometry they are of.
abbrev pub PageTold : List ℕ → PageAt → Pair → PageRead → Type 0
PageTold w at asked r = (g : Geometry) (i p : ℕ) → i < g.levels → at ≡ page_at g w i p → r ≡ page_scanned g w asked i p

abbrev pub HeadTold : List ℕ → HeadAt → Pair → HeadRead → Type 0
HeadTold w at asked r = (g : Geometry) → at ≡ head_at g w → r ≡ head_scanned g w asked

-- The head's slots lie inside the words.
pub record HeadFits (w : List ℕ) (at : HeadAt) : Type 0 where
  pub inside : head_start + words_in_slot * at.room ≤ length w
  pub some : 1 ≤ at.room
  pub few : at.room ≤ 4096
  pub capacity : 1 ≤ at.head

pub head_fits : (g : Geometry) (plan : Plan) (w : List ℕ) → Lent g plan w → HeadFits w (head_at g w)
unfolding head_at
head_fits g plan w l = record {
  inside = omega (arith, head_lent g plan w l);
  some = head_least g plan w l;
  few = omega (arith, l.small.head_room_below, head_room_at g plan w l);
  capacity = l.in_range_lem.head_least;
}

pub page_formed_lem : (g : Geometry) (w : List ℕ) (asked : Pair) (i p : ℕ) → {c : PageRead} → c ≡ page_scanned g w asked i p → is_ok c.formed ≡ page_formed g w i p
unfolding page_scanned
page_formed_lem g w asked i p e = rw e (mark_of (page_formed g w i p) (page_slot g w i p))

-- Of each page, formed or not, the slot is the one to tell.
pub page_slot_told : (g : Geometry) (w : List ℕ) (asked : Pair) (i p : ℕ) → {c : PageRead} → c ≡ page_scanned g w asked i p → slot_told c.formed ≡ page_slot g w i p
unfolding page_scanned
page_slot_told g w asked i p e = rw e (slot_of (page_formed g w i p) (page_slot g w i p))

-- A page without a flaw is formed; one with a flaw is not, and the slot is the one to tell.
pub page_unflawed : (g : Geometry) (w : List ℕ) (asked : Pair) (i p : ℕ) → {c : PageRead} → c ≡ page_scanned g w asked i p →
    {slot : ℕ} → c.formed ≡ Ok slot → page_formed g w i p ≡ true
unfolding page_scanned
page_unflawed g w asked i p e {slot} f = no_flaw (page_formed g w i p) (page_slot g w i p) slot (rw e at f)

pub page_flaw : (g : Geometry) (w : List ℕ) (asked : Pair) (i p : ℕ) → {c : PageRead} → c ≡ page_scanned g w asked i p →
    {slot : ℕ} → c.formed ≡ Err slot → (page_formed g w i p ≡ false) × (slot ≡ page_slot g w i p)
unfolding page_scanned
page_flaw g w asked i p e {slot} f = flaw_in (page_formed g w i p) (page_slot g w i p) slot (rw e at f)

pub page_reach : (g : Geometry) (w : List ℕ) (asked : Pair) (i p : ℕ) →
    (page_scanned g w asked i p).reach ≡ length (passing (λ s. not (before asked s.pair)) (page_slots g w i p))
unfolding page_scanned
page_reach g w asked i p = refl

pub head_formed : (g : Geometry) (w : List ℕ) (asked : Pair) → {c : HeadRead} → c ≡ head_scanned g w asked → is_ok c.formed ≡ head_right g w
unfolding head_scanned
head_formed g w asked e = rw e (mark_of (head_right g w) (head_slot g w))

-- Of each head, right or not, the slot is the one to tell.
pub head_slot_told : (g : Geometry) (w : List ℕ) (asked : Pair) → {c : HeadRead} → c ≡ head_scanned g w asked → slot_told c.formed ≡ head_slot g w
unfolding head_scanned
head_slot_told g w asked e = rw e (slot_of (head_right g w) (head_slot g w))

-- The head without a flaw is right; with one it is not, and the slot is the one to tell.
pub head_unflawed : (g : Geometry) (w : List ℕ) (asked : Pair) → {c : HeadRead} → c ≡ head_scanned g w asked →
    {slot : ℕ} → c.formed ≡ Ok slot → head_right g w ≡ true
unfolding head_scanned
head_unflawed g w asked e {slot} f = no_flaw (head_right g w) (head_slot g w) slot (rw e at f)

pub head_flaw : (g : Geometry) (w : List ℕ) (asked : Pair) → {c : HeadRead} → c ≡ head_scanned g w asked → {slot : ℕ} → c.formed ≡ Err slot →
    (head_right g w ≡ false) × (slot ≡ head_slot g w)
unfolding head_scanned
head_flaw g w asked e {slot} f = flaw_in (head_right g w) (head_slot g w) slot (rw e at f)

pub head_reach : (g : Geometry) (w : List ℕ) (asked : Pair) →
    (head_scanned g w asked).reach ≡ length (passing (λ s. not (before asked s.pair)) (head_slots g w))
unfolding head_scanned
head_reach g w asked = refl

pub head_entries : (g : Geometry) (w : List ℕ) (asked : Pair) → (head_scanned g w asked).entries ≡ length (entries_of (head_slots g w))
unfolding head_scanned
head_entries g w asked = refl

-- A level is the bottom if the next is past the last.
bottom_told : (g : Geometry) (i : ℕ) → 1 ≤ g.levels → eqb (i + 1) g.levels ≡ eqb i (bottom g)
bottom_told g i some = by (eqb i (bottom g)) refl
  where
    by : (b : Bool) → eqb i (bottom g) ≡ b → eqb (i + 1) g.levels ≡ b
    by true e = eq-eqb (i + 1) g.levels (omega (arith, eqb-true i (bottom g) e))
    by false e = ne_eqb (i + 1) g.levels (λ h. eqb-false i (bottom g) e (omega arith))

-- A page's pass with the test of its count.
module _ (g : Geometry) (w : List ℕ) (asked : Pair) (i p : ℕ) where
  abbrev pub page_pass : Scan
  page_pass = scanned asked (legal_below (pages_of g w (i + 1))) started (page_slots g w i p)

  abbrev count_tested : Bool
  count_tested = count_fits (count_at g w i p) (eqb (i + 1) g.levels && eqb (pages_of g w i) 1)

  page_mark : i < g.levels → (count_tested && page_pass.formed) ≡ page_formed g w i p
  unfolding page_formed count_right
  page_mark h =
      rw (page_tested_lem asked (pages_of g w (i + 1)) (page_slots g w i p), bottom_told g i (omega arith), add-one i)
      (sym (and_assoc (count_right g w i p) (in_order (page_slots g w i p)) (all (legal true (pages_of g w (suc i))) (page_slots g w i p))))

  page_slot_lem : i < g.levels → cond count_tested page_pass.breaking 0 ≡ page_slot g w i p
  unfolding page_slot page_rule count_right
  page_slot_lem h = rw (page_breaking asked (pages_of g w (i + 1)) (page_slots g w i p), bottom_told g i (omega arith), add-one i)

  pub page_told : i < g.levels → {c : PageRead} →
      c ≡ record { formed = marked_slot (count_tested && page_pass.formed) (cond count_tested page_pass.breaking 0); reach = page_pass.reach } → c ≡ page_scanned g w asked i p
  unfolding page_scanned
  page_told h e =
      let f = page_mark h in
      let r = scan_reach asked (legal_below (pages_of g w (i + 1))) (page_slots g w i p) in
      e ∙ rw (f, page_slot_lem h, r)

-- The first slot of the head.
pub first_slots : (w : List ℕ) (n : ℕ) → first_is_least (slots_from w head_start n) ≡ (leb 1 n && least_fence (slot_at w head_start))
unfolding first_is_least slots_from span least_fence
first_slots w zero = refl
first_slots w (suc n) = rw (le-leb 1 (suc n) (omega arith))

-- The head's slots, as many as it has room for.
abbrev pub head_count : Geometry → List ℕ → ℕ
head_count g w = min (get_or w head_count_word 0) (head_room g)

length_head : (g : Geometry) (w : List ℕ) → length (head_slots g w) ≡ head_count g w
unfolding head_slots
length_head g w = length_run w head_start (head_count g w)

-- A rule with the least fence first is broken at once, or where the rule is.
least_breaking : (rule : List Slot → Bool) (ss : List Slot) → breaking (λ l. rule l && first_is_least l) ss ≡ cond (first_is_least ss) (breaking rule ss) 0
unfolding breaking first_is_least first_not first_from
least_breaking rule [] = refl
least_breaking rule (s ∷ ss) = by (fence_kind s.kind && same least s.pair) refl
  where
    up_to : ℕ → List Slot
    up_to j = take (suc j) (s ∷ ss)

    by : (b : Bool) → (fence_kind s.kind && same least s.pair) ≡ b →
        first_not (λ j. rule (up_to j) && (fence_kind s.kind && same least s.pair)) (suc (length ss)) ≡ cond b (first_not (λ j. rule (up_to j)) (suc (length ss))) 0
    by true e = rw e (ap (λ (t : ℕ → Bool). first_not t (suc (length ss))) (fun_ext (λ j. and_true (rule (up_to j)))))
    by false e = rw e (first_at_once (λ j. rule (up_to j) && false) (suc (length ss)) (and_false (rule (up_to 0))))

-- The head's pass with the tests of its count, its fences and its first slot.
module _ (g : Geometry) (w : List ℕ) (asked : Pair) (some : 1 ≤ g.head) where
  abbrev pub head_pass : Scan
  head_pass = scanned asked (head_tag (pages_of g w 1) g.head) started (head_slots g w)

  abbrev begun : Bool
  begun = leb (get_or w head_count_word 0) (head_room g) && (leb 1 (head_count g w) && least_fence (slot_at w head_start))

  first_told : first_is_least (head_slots g w) ≡ (leb 1 (head_count g w) && least_fence (slot_at w head_start))
  unfolding head_slots
  first_told = first_slots w (head_count g w)

  unfoldable pub head_tested : Bool
  head_tested = begun && head_pass.formed && eqb head_pass.fences (pages_of g w 1)

  head_mark : head_tested ≡ head_right g w
  unfolding head_tested head_right
  head_mark =
      let ss = head_slots g w in
      rw (
        head_tested_lem asked (pages_of g w 1) g.head ss some,
        scan_fences asked (head_tag (pages_of g w 1) g.head) ss,
        equal_in_turn (fence_pages ss) 0 (pages_of g w 1),
        ← first_told,
      )
      (least_last (leb (get_or w head_count_word 0) (head_room g)) (first_is_least ss) (ltb (length (entries_of ss)) g.head) (in_order ss) (all (legal false (pages_of g w 1)) ss)
      (equal (fence_pages ss) (span (λ p. p) 0 (length (fence_pages ss)))) (eqb (length (fence_pages ss)) (pages_of g w 1)))
    where
      least_last : (a least few order tags turn many : Bool) →
          (a && least && (few && order && tags && turn) && many) ≡ (a && few && order && tags && (turn && many) && least)
      least_last false least few order tags turn many = refl
      least_last true least false order tags turn many = rw (and_false least)
      least_last true least true false tags turn many = rw (and_false least)
      least_last true least true true false turn many = rw (and_false least)
      least_last true true true true true turn many = sym (and_true (turn && many))
      least_last true false true true true turn many = sym (and_false (turn && many))

  head_slot_lem : cond (begun && ltb head_pass.breaking (head_count g w)) head_pass.breaking 0 ≡ head_slot g w
  unfolding head_slot head_rule
  head_slot_lem =
      let ss = head_slots g w in
      let rule : List Slot → Bool =
      λ l. ltb (length (entries_of l)) g.head && in_order l && all (legal false (pages_of g w 1)) l && equal (fence_pages l) (span (λ p. p) 0 (length (fence_pages l))) in
      rw (head_breaking asked (pages_of g w 1) g.head ss some, ← first_told, least_breaking rule ss, length_head g w)
      (by (leb (get_or w head_count_word 0) (head_room g)) (first_is_least ss) (breaking rule ss))
    where
      by : (a b : Bool) (n : ℕ) → cond (a && b && ltb n (head_count g w)) n 0 ≡ cond (a && ltb (cond b n 0) (head_count g w)) (cond b n 0) 0
      by false b n = refl
      by true true n = refl
      by true false n = none (ltb 0 (head_count g w))
        where
          none : (c : Bool) → ◌≡◌ {A = ℕ} 0 (cond c 0 0)
          none true = refl
          none false = refl

  pub head_told : {c : HeadRead} →
      c ≡ record { formed = marked_slot head_tested (cond (begun && ltb head_pass.breaking (head_count g w)) head_pass.breaking 0); entries = head_pass.entries; reach = head_pass.reach } →
      c ≡ head_scanned g w asked
  unfolding head_scanned
  head_told e =
      let right = head_tag (pages_of g w 1) g.head in
      e ∙ rw (head_mark, head_slot_lem, scan_entries asked right (head_slots g w), scan_reach asked right (head_slots g w))
