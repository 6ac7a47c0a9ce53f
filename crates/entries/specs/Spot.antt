-- A cursor in one number, and the index entries from it on, as the clauses of src/lib.rt cite them. Assumes nothing.
use Rattle.std.specs.Prelude.{ℕ, ◌+◌, ◌-◌, ◌*◌, ◌/◌, ◌%◌, ◌≤◌, ◌<◌, ◌≡◌, Bool, true, false, List, [], ◌∷◌, get_or, leb}
use Rattle.std.proofs.Math.Nat.{min-le_right}
use Rattle.std.proofs.Common.{arith, sym, ◌∙◌, leb-true}
use Rattle.std.proofs.Math.Path.{refl, ap}
use Rattle.slot.specs.declared.Pair.{Pair}
use Rattle.slot.specs.declared.Slot.{Slot}
use Rattle.slot.specs.Pair.{least}
use Rattle.slot.specs.Slot.{slot_at}
use Rattle.rules.specs.Tree.{Level, Tree}
use Rattle.rules.specs.Level.{fence_kind}
use Rattle.rules.specs.Finding.{normal_kind}
use Rattle.entries.specs.declared.Run.{Run}
use Rattle.entries.specs.declared.Cursor.{Cursor}
use Rattle.entries.specs.Four.{Runs}
use Rattle.entries.specs.Four.{Spots}
use Rattle.entries.specs.declared.Entry.{Entry}
use Rattle.entries.specs.Run.{Inside, count_in, place_in, rest_from, rest, entries_in, shown_index, slot_inside, rest_none, rest_all, rest_found}
use Rattle.entries.specs.Levels.{tree_in}
use Rattle.entries.specs.Skip.{skip, skip_least, stops_at, stops_index, slot_in, slot_read}

-- 2^32 times the page number, and the slot number.
unfoldable pub spot_of : ℕ → ℕ → ℕ
spot_of p j = 4294967296 * p + j

unfoldable pub page_at : ℕ → ℕ
page_at spot = spot / 4294967296

unfoldable pub slot_number : ℕ → ℕ
slot_number spot = spot % 4294967296

abbrev pub cursor_at : ℕ → Cursor
cursor_at spot = record { page = record { 0 = page_at spot }; slot = record { 0 = slot_number spot } }

-- The index entries from a spot on.
unfoldable pub upcoming : List ℕ → Run → ℕ → Level
upcoming w run spot = rest w run (cursor_at spot)

-- An index entry stands at a spot where a page is left.
pub record Standing (w : List ℕ) (run : Run) (spot : ℕ) : Type 0 where
  pub in_page : page_at spot < run.pages → slot_number spot < count_in w run (page_at spot)
  pub index_there : page_at spot < run.pages → fence_kind (slot_in w run (page_at spot) (slot_number spot)).kind ≡ false

-- At spot 0 all are to come, and none where no page is left.
pub upcoming_all : (w : List ℕ) (run : Run) → upcoming w run 0 ≡ entries_in w run
unfolding upcoming page_at slot_number
upcoming_all w run = rest_all w run

pub upcoming_none : (w : List ℕ) (run : Run) (spot : ℕ) → run.pages ≤ page_at spot → upcoming w run spot ≡ []
unfolding upcoming rest
upcoming_none w run spot h = rest_none w run (page_at spot) (slot_number spot) h

module _ (w : List ℕ) (run : Run) where
  -- The first entry stands where the first one not before the least pair does.
  pub from_least : (spot next : ℕ) (p : Pair) → p ≡ least → upcoming w run next ≡ skip p (upcoming w run spot) → upcoming w run next ≡ upcoming w run spot
  from_least spot next p l e = e ∙ ap (λ (p : Pair). skip p (upcoming w run spot)) l ∙ skip_least (upcoming w run spot)

  pub from_first : (next : ℕ) (p : Pair) → p ≡ least → upcoming w run next ≡ skip p (upcoming w run 0) → upcoming w run next ≡ entries_in w run
  from_first next p l e = from_least 0 next p l e ∙ upcoming_all w run

  -- A run that has ended there has none.
  pub none_left : (spot : ℕ) (ended : Bool) → ended ≡ leb run.pages (page_at spot) → ended ≡ true → upcoming w run spot ≡ []
  none_left spot ended e t = upcoming_none w run spot (leb-true _ _ (sym e ∙ t))

-- So in four runs.
unfoldable pub upcomings : List ℕ → Runs → Spots → Tree
upcomings w rs s =
    upcoming w rs.head s.head ∷ upcoming w rs.first s.first ∷ upcoming w rs.second s.second ∷ upcoming w rs.third s.third ∷ []

pub record AllStanding (w : List ℕ) (rs : Runs) (s : Spots) : Type 0 where
  pub head : Standing w rs.head s.head
  pub first : Standing w rs.first s.first
  pub second : Standing w rs.second s.second
  pub third : Standing w rs.third s.third

pub upcomings_all : (w : List ℕ) (rs : Runs) (s : Spots) → s ≡ record { head = 0; first = 0; second = 0; third = 0 } → upcomings w rs s ≡ tree_in w rs
unfolding upcomings tree_in
upcomings_all w rs s e =
    rw (e, upcoming_all w rs.head, upcoming_all w rs.first, upcoming_all w rs.second, upcoming_all w rs.third) refl

-- A spot of a page and a slot number is at that page and slot.
pub spot_page : (p j : ℕ) → j < 4294967296 → page_at (spot_of p j) ≡ p
unfolding spot_of page_at
spot_page p j h = omega arith

pub spot_slot : (p j : ℕ) → j < 4294967296 → slot_number (spot_of p j) ≡ j
unfolding spot_of slot_number
spot_slot p j h = omega arith

pub slot_fits : (spot : ℕ) → slot_number spot < 4294967296
unfolding slot_number
slot_fits spot = omega arith

pub met_fits : (w : List ℕ) (run : Run) (p j n : ℕ) → n ≡ count_in w run p → j < n → (words : ℕ) → Inside run words → j < 4294967296
unfolding count_in
met_fits w run p j n counted b words inside = omega (arith, counted, b, inside.few_slots, min-le_right (get_or w (run.start + 64 * p) 0) run.most)

module _ (w : List ℕ) (run : Run) (p j spot : ℕ) (h : j < 4294967296) (at : spot ≡ spot_of p j) where
  pub upcoming_at : upcoming w run spot ≡ rest_from w run p j (run.pages - p)
  unfolding upcoming rest
  upcoming_at = rw (at, spot_page p j h, spot_slot p j h) refl

  -- An index entry stands there if it is met, or no page is left.
  pub standing_met : (pair : Pair) (n : ℕ) → n ≡ count_in w run p → j < n → stops_at pair (slot_in w run p j) ≡ true → Standing w run spot
  standing_met pair n counted b s = record {
    in_page = λ _. rw (at, spot_page p j h, spot_slot p j h, ← counted) b;
    index_there = λ _. rw (at, spot_page p j h, spot_slot p j h) (stops_index pair (slot_in w run p j) s);
  }

  pub standing_ended : run.pages ≤ p → Standing w run spot
  standing_ended b =
      let past : run.pages ≤ page_at spot = rw (at, spot_page p j h) b in
      record { in_page = λ q. absurd (omega (arith, past, q)); index_there = λ q. absurd (omega (arith, past, q)) }

-- The entry at a spot where one stands.
module _ (w : List ℕ) (run : Run) (spot words : ℕ) (inside : Inside run words) (stands : Standing w run spot) (h : page_at spot < run.pages) where
  low : slot_number spot < 4000
  unfolding count_in
  low = omega (arith, stands.in_page h, inside.few_slots)

  next_page : page_at (spot + 1) ≡ page_at spot
  unfolding page_at slot_number
  next_page = omega (arith, low)

  next_slot : slot_number (spot + 1) ≡ slot_number spot + 1
  unfolding slot_number
  next_slot = omega (arith, low)

  pub next_fits : spot + 1 < 18446744073709551616
  unfolding page_at slot_number
  next_fits = omega (arith, low, h, inside.few_pages)

  module _ (cursor : Cursor) (place : ℕ) (at : cursor ≡ cursor_at spot) (placed : place ≡ place_in run cursor.page.0 cursor.slot.0) where
    there : place ≡ place_in run (page_at spot) (slot_number spot)
    there = placed ∙ rw at refl

    pub entry_inside : place + 3 ≤ words
    entry_inside = slot_inside w run words (page_at spot) (slot_number spot) (count_in w run (page_at spot)) place inside h refl (stands.in_page h) there

    -- It comes before those from the next spot on.
    pub entry_upcoming : (s : Slot) (normal : Bool) → s ≡ slot_at w place → normal ≡ normal_kind s.kind →
        record { pair = s.pair; normal = normal } ∷ upcoming w run (spot + 1) ≡ upcoming w run spot
    unfolding upcoming rest
    entry_upcoming s normal read kind =
        let index = ap (λ (s : Slot). fence_kind s.kind) (slot_read w run (page_at spot) (slot_number spot) place s there read) ∙ stands.index_there h in
        let e : Entry = record { pair = s.pair; normal = normal_kind s.kind } in
        rw (kind, next_page, next_slot)
        (rest_found w run (page_at spot) (slot_number spot) place e h (stands.in_page h) there (shown_index w place s read index))
