-- What comes next of a writing, from a spot and a fence on: a fence, an internal fence or an own entry, or nothing. Assumes nothing.
use Prim.Native.Nat.{ℕ, ◌+◌, ◌-◌, ◌≤◌, ◌<◌}
use Rattle.std.proofs.Common.{arith, ◌∙◌}
use Rattle.std.specs.Prelude.{◌≡◌, Bool, ◌&&◌}
use Rattle.std.proofs.Math.Path.{refl, sym, ap}
use Rattle.std.proofs.Math.Bool.{true, false}
use mathlib.Core.List.{List, [], ◌∷◌}
use Rattle.std.proofs.Math.ListN.{length}
use Rattle.std.proofs.Math.Dec.{leb}
use borrow.Author.Tests.{leb-true, leb-false, lt-leb}
use Rattle.laws.specs.Tests.{and_left, and_right}
use Rattle.slot.specs.declared.Pair.{Pair}
use Rattle.slot.specs.declared.Slot.{Slot}
use Rattle.slot.specs.Pair.{least}
use Rattle.slot.specs.Slot.{slot_at}
use Rattle.rules.specs.Tree.{Entry, Level}
use Rattle.rules.specs.Level.{index, internal, fence_of}
use Rattle.rules.specs.Finding.{normal_kind}
use Rattle.layout.specs.Stream.{fenced_at, entry_next, laid_from, wanted, left, ended, passed}
use Rattle.layout.specs.Stream.{laid_ended, fence_passed, entry_passed, internal_passed}
use Rattle.layout.proofs.Stream.{laid_next}
use Rattle.written.specs.Decided.{laid_whole}
use Rattle.entries.specs.declared.Entry.{Entry as Read}
use Rattle.entries.specs.Run.{Inside, place_in, entries_in, entry as indexed}
use Rattle.entries.specs.Skip.{skip}
use Rattle.entries.specs.Spot.{page_at, slot_number, cursor_at, upcoming, Standing, upcoming_none, entry_upcoming, from_least}
use Rattle.leaving.specs.declared.Writing.{Writing}
use Rattle.leaving.specs.declared.Next.{Next}
use Rattle.leaving.specs.Writing.{first_below, writes, ahead, Follows, past_fence, Comes, over_at}

module _ (w : List ℕ) (writing : Writing) where
  abbrev entries_from : ℕ → Level
  entries_from spot = upcoming w writing.own spot

  abbrev below : ℕ
  below = writing.below.pages

  -- At the first spot all slots are still to come.
  pub ahead_first : (spot : ℕ) → entries_from spot ≡ entries_in w writing.own → ahead w writing 0 spot 0 ≡ writes w writing
  unfolding ahead writes
  ahead_first spot e = rw e (laid_whole writing.fenced (first_below w writing) below (entries_in w writing.own))

  module _ (n spot fence : ℕ) where
    -- Nothing is left where no entry and no fence is.
    pub ahead_over : over_at writing spot fence ≡ true → ahead w writing n spot fence ≡ []
    unfolding over_at ahead ended
    ahead_over e =
        let none = upcoming_none w writing.own spot (leb-true _ _ (and_left (leb writing.own.pages (page_at spot)) (leb below fence) e)) in
        rw none (laid_ended writing.fenced (first_below w writing) below n fence [] (and_right (leb writing.own.pages (page_at spot)) (leb below fence) e))

    -- Where the entries have ended and a slot is left, a fence is left, and it is next.
    module _ (ends : leb writing.own.pages (page_at spot) ≡ true) where
      none_there : entries_from spot ≡ []
      none_there = upcoming_none w writing.own spot (leb-true _ _ ends)

      pub fence_there : 1 ≤ length (ahead w writing n spot fence) → fence < below
      unfolding over_at
      fence_there some = by (leb below fence) refl
        where
          by : (b : Bool) → leb below fence ≡ b → fence < below
          by true q = absurd (omega (arith, some, ap length (ahead_over (rw (ends, q) refl))))
          by false q = leb-false below fence q

      last_fence_lem : fence < below → fence_of (first_below w writing) fence ∷ ahead w writing (n + 1) spot (fence + 1) ≡ ahead w writing n spot fence
      unfolding ahead ended wanted left
      last_fence_lem h =
          sym (rw none_there (laid_next writing.fenced (first_below w writing) below n fence [] (lt-leb below fence h) ∙ rw (fence_passed writing.fenced (first_below w writing) below fence) refl))

    -- Where an entry is left: a fence that is not above it, the internal fence before it, or itself.
    module _ (e : Entry) (es : Level) (first : e ∷ es ≡ entries_from spot) where
      laid_on : ahead w writing n spot fence ≡ wanted writing.fenced (first_below w writing) below n fence (e ∷ es) ∷
          laid_from writing.fenced (first_below w writing) below (n + 1) (passed (wanted writing.fenced (first_below w writing) below n fence (e ∷ es)).kind fence) (left writing.fenced (first_below w writing) below n fence (e ∷ es))
      unfolding ahead ended
      laid_on = rw (← first) (laid_next writing.fenced (first_below w writing) below n fence (e ∷ es) refl)

      fence_before : entry_next (first_below w writing) below fence e.pair ≡ false →
          fence_of (first_below w writing) fence ∷ ahead w writing (n + 1) spot (fence + 1) ≡ ahead w writing n spot fence
      unfolding ahead wanted left
      fence_before h = sym (laid_on ∙ rw (h, fence_passed writing.fenced (first_below w writing) below fence, ← first) refl)

      module _ (next : entry_next (first_below w writing) below fence e.pair ≡ true) where
        inner_first : fenced_at writing.fenced n ≡ true → internal e.pair (fence - 1) ∷ ahead w writing (n + 1) spot fence ≡ ahead w writing n spot fence
        unfolding ahead wanted left
        inner_first f = sym (laid_on ∙ rw (next, f, internal_passed e.pair (fence - 1) fence, ← first) refl)

        entry_first : fenced_at writing.fenced n ≡ false → (later : ℕ) → entries_from later ≡ es → index e ∷ ahead w writing (n + 1) later fence ≡ ahead w writing n spot fence
        unfolding ahead wanted left
        entry_first f later q = sym (laid_on ∙ rw (next, f, entry_passed e fence, ← q) refl)

    -- Something is left where an entry or a fence is.
    pub ahead_some : (words : ℕ) → Inside writing.own words → Standing w writing.own spot → over_at writing spot fence ≡ false → 1 ≤ length (ahead w writing n spot fence)
    unfolding over_at
    ahead_some words inside stands over = by (leb writing.own.pages (page_at spot)) refl over
      where
        by : (b : Bool) → leb writing.own.pages (page_at spot) ≡ b → (b && leb below fence) ≡ false → 1 ≤ length (ahead w writing n spot fence)
        by true q e = omega (arith, ap length (last_fence_lem q (leb-false below fence e)))
        by false q e =
            let place : ℕ = place_in writing.own (page_at spot) (slot_number spot) in
            let s : Slot = slot_at w place in
            let first = entry_upcoming w writing.own spot words inside stands (leb-false writing.own.pages (page_at spot) q) (cursor_at spot) place refl refl s (normal_kind s.kind) refl refl in
            omega (arith, ap length (laid_on _ _ first))

    -- So what is next, as the code tells it: a fence, an internal fence, or an entry.
    module _ (stands : Standing w writing.own spot) where
      pub follows_last : (r : Next) → leb writing.own.pages (page_at spot) ≡ true → fence < below → r ≡ past_fence w writing spot fence →
          Follows w writing n spot fence r.slot r.coming.spot r.coming.fence
      unfolding past_fence
      follows_last r ends h e = rw e (record { told = last_fence_lem ends h; stands = stands })

      pub follows_fence : (r : Next) (e : Entry) (es : Level) → e ∷ es ≡ entries_from spot → entry_next (first_below w writing) below fence e.pair ≡ false →
          r ≡ past_fence w writing spot fence → Follows w writing n spot fence r.slot r.coming.spot r.coming.fence
      unfolding past_fence
      follows_fence r e es first h q = rw q (record { told = fence_before e es first h; stands = stands })

      module _ (e : Read) (comes : Comes w writing spot fence e) (slot : Slot) where
        pub follows_inner : fenced_at writing.fenced n ≡ true → slot ≡ internal e.pair (fence - 1) → Follows w writing n spot fence slot spot fence
        follows_inner f q = rw q (record { told = inner_first (indexed e) _ comes.told comes.next f; stands = stands })

        pub follows_entry : fenced_at writing.fenced n ≡ false → slot ≡ index (indexed e) → (later : ℕ) (p : Pair) → p ≡ least →
            entries_from later ≡ skip p (entries_from (spot + 1)) → Standing w writing.own later → Follows w writing n spot fence slot later fence
        follows_entry f q later p l s there =
            rw q (record { told = entry_first (indexed e) _ comes.told comes.next f later (from_least w writing.own (spot + 1) later p l s); stands = there })
