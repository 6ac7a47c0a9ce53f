-- What a level or the head should be, as the clauses of src/lib.rt cite it: the slots of its writing, and those still to come from a spot and a
-- fence on. Assumes nothing.
use Rattle.std.specs.Prelude.{ℕ, ◌+◌, ◌*◌, ◌≤◌, ◌<◌, ◌≡◌, Bool, true, ◌&&◌, List, ◌∷◌, length, leb}
use Rattle.geometry.specs.Places.{words_in_page, words_in_slot}
use Rattle.slot.specs.declared.Pair.{Pair}
use Rattle.slot.specs.declared.Slot.{Slot}
use Rattle.rules.specs.Level.{fence_of}
use Rattle.layout.specs.Words.{first_pair, laid_over}
use Rattle.layout.specs.Stream.{entry_next, laid_from}
use Rattle.entries.specs.declared.Entry.{Entry as Read}
use Rattle.entries.specs.Run.{entries_in, entry as indexed}
use Rattle.entries.specs.Spot.{page_at, upcoming, Standing}
use Rattle.leaving.specs.declared.Writing.{Writing}
use Rattle.leaving.specs.declared.Next.{Next}

-- The room, and the pages below, lie inside the words, and they are few.
pub record Within (w : List ℕ) (writing : Writing) : Type 0 where
  pub ends : writing.own.start + words_in_page * writing.room + words_in_slot * writing.own.most ≤ length w + 63
  pub few_pages : writing.room ≤ 2000
  pub some_slots : 1 ≤ writing.own.most
  pub few_slots : writing.own.most ≤ 4000
  pub pages_most : writing.own.pages ≤ writing.room
  pub below_inside : writing.below.start + words_in_page * writing.below.pages ≤ length w
  pub below_few : writing.below.pages ≤ 2000

module _ (w : List ℕ) (writing : Writing) where
  abbrev pub first_below : ℕ → Pair
  first_below = first_pair w writing.below.start

  -- The slots of the writing; and those from number n on, where the own entries from a spot on and the fences from one on are left.
  unfoldable pub writes : List Slot
  writes = laid_over writing.fenced first_below writing.below.pages (entries_in w writing.own)

  unfoldable pub ahead : ℕ → ℕ → ℕ → List Slot
  ahead n spot fence = laid_from writing.fenced first_below writing.below.pages n fence (upcoming w writing.own spot)

  -- A slot is slot n, and from a later spot and a further fence on the slots behind it come.
  pub record Follows (n spot fence : ℕ) (slot : Slot) (later further : ℕ) : Type 0 where
    pub told : slot ∷ ahead (n + 1) later further ≡ ahead n spot fence
    pub stands : Standing w writing.own later

  -- The slot of the next fence, and what comes behind it.
  unfoldable pub past_fence : ℕ → ℕ → Next
  past_fence spot fence = record { slot = fence_of first_below fence; coming = record { spot = spot; fence = fence + 1 } }

  -- An entry stands at a spot, and comes before the next fence.
  pub record Comes (spot fence : ℕ) (e : Read) : Type 0 where
    pub there : page_at spot < writing.own.pages
    pub told : indexed e ∷ upcoming w writing.own (spot + 1) ≡ upcoming w writing.own spot
    pub next : entry_next first_below writing.below.pages fence e.pair ≡ true

-- Neither an own entry nor a fence is left.
unfoldable pub over_at : Writing → ℕ → ℕ → Bool
over_at writing spot fence = leb writing.own.pages (page_at spot) && leb writing.below.pages fence
