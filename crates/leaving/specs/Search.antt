-- The search for the first slot that does not stand, along the writing: what it knows at slot n, and how it goes on or ends. Assumes nothing.
use Rattle.std.specs.Prelude.{ℕ, ◌+◌, ◌-◌, ◌*◌, ◌≤◌, ◌<◌, ◌≡◌, Bool, true, false, List, length}
use Rattle.std.proofs.Common.{arith, ◌∙◌}
use Rattle.std.proofs.Math.Path.{sym}
use borrow.Author.Tests.{lt-ltb, le-ltb}
use Rattle.laws.specs.Tests.{and_false_left}
use Rattle.laws.specs.First.{first_from, first_not, first_begins, first_passes, first_fails, first_ends}
use Rattle.slot.specs.declared.Slot.{Slot}
use Rattle.slot.specs.Slot.{slot_at}
use Rattle.layout.specs.Stream.{same_slot}
use Rattle.leaving.specs.declared.Writing.{Writing}
use Rattle.leaving.specs.Stands.{count_stands, place_of, unused_at, slot_stands, stands}
use Rattle.leaving.specs.Writing.{writes, Follows}
use Rattle.leaving.specs.Along.{Along, slot_told, along_on}

module _ (w : List ℕ) (writing : Writing) where
  abbrev slots : List Slot
  slots = writes w writing

  -- Whether slot n stands, the number of slots that there is room for, and the first that does not stand.
  abbrev test : ℕ → Bool
  test = stands w writing.own slots

  abbrev end : ℕ
  end = writing.own.most * writing.room

  unfoldable pub leaves_at : ℕ
  leaves_at = first_not test end

  -- The search from slot n on finds what it finds in all; and the writing's slots from n on are still to come.
  pub record Search (n spot fence : ℕ) : Type 0 where
    pub same : first_from test n (end - n) ≡ leaves_at
    pub along : n < length slots → Along w writing n spot fence

  pub search_begins : (spot : ℕ) → Along w writing 0 spot 0 → Search 0 spot 0
  unfolding leaves_at
  search_begins spot along = record { same = sym (first_begins test end); along = λ h. along }

  module _ (n spot fence : ℕ) (search : Search n spot fence) where
    pub search_ends : end ≤ n → n ≡ leaves_at
    search_ends h = sym (first_ends test n end h) ∙ search.same

    module _ (h : n < end) where
      found : test n ≡ false → n ≡ leaves_at
      found e = sym (first_fails test n end h e) ∙ search.same

      further : test n ≡ true → first_from test (n + 1) (end - (n + 1)) ≡ leaves_at
      further e = sym (first_passes test n end h e) ∙ search.same

      module _ (total : ℕ) (counted : total ≡ length slots) where
        pub count_leaves : count_stands w writing.own total n ≡ false → n ≡ leaves_at
        unfolding stands
        count_leaves e = found (and_false_left (count_stands w writing.own (length slots) n) _ (rw (← counted) e))

        module _ (count : count_stands w writing.own total n ≡ true) where
          -- A slot of the writing.
          module _ (b : n < total) (slot : Slot) (later next : ℕ) (follows : Follows w writing n spot fence slot later next) where
            in_writing : n < length slots
            in_writing = omega (arith, counted)

            compared : test n ≡ same_slot (slot_at w (place_of writing.own n)) slot
            unfolding stands slot_stands
            compared = rw (← counted, count, lt-ltb n total b, slot_stands, ← slot_told w writing n spot fence (search.along in_writing) slot later next follows)

            pub slot_leaves : same_slot (slot_at w (place_of writing.own n)) slot ≡ false → n ≡ leaves_at
            slot_leaves e = found (compared ∙ e)

            pub slot_passes : same_slot (slot_at w (place_of writing.own n)) slot ≡ true → Search (n + 1) later next
            slot_passes e = record {
              same = further (compared ∙ e);
              along = λ l. along_on w writing n spot fence (search.along in_writing) slot later next follows;
            }

          -- A slot past the writing.
          module _ (b : total ≤ n) where
            blank : test n ≡ unused_at w (place_of writing.own n)
            unfolding stands slot_stands
            blank = rw (← counted, count, le-ltb n total b, slot_stands)

            pub unused_leaves : unused_at w (place_of writing.own n) ≡ false → n ≡ leaves_at
            unused_leaves e = found (blank ∙ e)

            pub unused_passes : unused_at w (place_of writing.own n) ≡ true → Search (n + 1) spot fence
            unused_passes e = record { same = further (blank ∙ e); along = λ l. absurd (omega (arith, l, counted)) }
