-- A walk along a writing, slot by slot: what it knows at slot n, how it goes on, and that no sum on the way is large. Assumes nothing.
use Rattle.std.specs.Prelude.{ℕ, ◌+◌, ◌-◌, ◌*◌, ◌/◌, ◌≤◌, ◌<◌, ◌≡◌, Bool, true, false, List, ◌∷◌, length, drop}
use Rattle.std.proofs.Common.{div-lt_iff_lt-mul, mul_comm, mul-le-mul, add-one, arith, ap, ◌∙◌, length-drop, drop-cons}
use Rattle.std.proofs.Math.Nat.{mod-lt}
use Rattle.laws.specs.Lists.{length_span}
use Rattle.slot.specs.declared.Pair.{Pair}
use Rattle.slot.specs.declared.Slot.{Slot}
use Rattle.slot.specs.Pair.{least}
use Rattle.rules.specs.Tree.{Level}
use Rattle.rules.specs.Level.{external, fences, fence_of, weave, paged}
use Rattle.rules.specs.Woven.{by_weaving}
use Rattle.rules.specs.Paged.{by_paging}
use Rattle.layout.specs.Words.{laid_over}
use Rattle.entries.specs.Run.{Inside, place_in, entries_in, few_in}
use Rattle.entries.specs.Skip.{skip}
use Rattle.entries.specs.Spot.{upcoming, Standing, from_first}
use Rattle.leaving.specs.declared.Writing.{Writing}
use Rattle.leaving.specs.Stands.{place_of, numbered}
use Rattle.leaving.specs.Writing.{Within, first_below, writes, ahead, over_at, Follows}
use Rattle.leaving.specs.Ahead.{ahead_first, ahead_over, ahead_some}

-- How many slots a writing has at most -----------------------------------------------------------------------------------------------------------

pub weave_most : (es : Level) (fs : List Slot) → length (weave es fs) ≤ length es + length fs
weave_most = by_weaving (λ es fs row. length row ≤ length es + length fs) (λ fs. omega arith) (λ e es fs row c ih. omega arith) (λ e es f fs row c ih. omega arith)

paged_most : (j last : ℕ) (ss : List Slot) → length (paged j last ss) ≤ 2 * length ss
paged_most =
    by_paging (λ j last ss row. length row ≤ 2 * length ss) (λ j last. omega arith) (λ j last s ss row k ih. omega arith) (λ last s ss row k ih. omega arith)
    (λ j last s ss row k n ih. omega arith)

pub laid_most : (inner : Bool) (first : ℕ → Pair) (below : ℕ) (es : Level) → length (laid_over inner first below es) ≤ 2 * (length es + below)
unfolding laid_over fences
laid_most true first below es =
    omega (arith, paged_most 0 0 (weave es (fences first below)), weave_most es (fences first below), length_span (fence_of first) 0 below)
laid_most false first below es = omega (arith, weave_most es (fences first below), length_span (fence_of first) 0 below)

module _ (w : List ℕ) (writing : Writing) (within : Within w writing) where
  -- The own pages lie inside the words.
  pub own_inside : Inside writing.own (length w)
  own_inside = record {
    ends = omega (arith, within.ends, within.pages_most);
    few_pages = omega (arith, within.few_pages, within.pages_most);
    few_slots = within.few_slots;
  }

  pub writes_few : length (writes w writing) ≤ 16004000
  unfolding writes
  writes_few =
      omega (arith, within.below_few, few_in w writing.own (length w) own_inside, laid_most writing.fenced (first_below w writing) writing.below.pages (entries_in w writing.own))

  -- The room's slots are few, and each lies inside the words with its page's count.
  pub room_few : writing.own.most * writing.room ≤ 8000000
  room_few = mul-le-mul {n₁ = writing.own.most} {m₁ = writing.room} {n₂ = 4000} {m₂ = 2000} within.few_slots within.few_pages

  module _ (n : ℕ) (h : n < writing.own.most * writing.room) where
    in_room : n / writing.own.most < writing.room
    in_room = (div-lt_iff_lt-mul {k = writing.own.most} {x = n} {y = writing.room} within.some_slots).1 (rw (mul_comm writing.room writing.own.most) h)

    pub count_inside : writing.own.start + 64 * (n / writing.own.most) < length w
    count_inside = omega (arith, within.ends, in_room, within.some_slots)

    pub slot_inside : place_of writing.own n + 3 ≤ length w
    unfolding place_of place_in
    slot_inside = omega (arith, within.ends, in_room, mod-lt n {m = writing.own.most} within.some_slots)

-- The walk ------------------------------------------------------------------------------------------------------------------------------------------

module _ (w : List ℕ) (writing : Writing) where
  -- At slot n the slots from n on are still to come.
  pub record Along (n spot fence : ℕ) : Type 0 where
    pub coming : ahead w writing n spot fence ≡ drop n (writes w writing)
    pub stands : Standing w writing.own spot

  pub along_begins : (spot : ℕ) (p : Pair) → p ≡ least → upcoming w writing.own spot ≡ skip p (upcoming w writing.own 0) → Standing w writing.own spot → Along 0 spot 0
  along_begins spot p l e there = record { coming = ahead_first w writing spot (from_first w writing.own spot p l e); stands = there }

  module _ (n spot fence : ℕ) (along : Along n spot fence) where
    left_over : length (ahead w writing n spot fence) ≡ length (writes w writing) - n
    left_over = ap length along.coming ∙ length-drop n (writes w writing)

    -- There are slots left before the end of the writing, and none at it.
    pub some_left : n < length (writes w writing) → 1 ≤ length (ahead w writing n spot fence)
    some_left h = omega (arith, left_over)

    pub none_left : over_at writing spot fence ≡ true → length (writes w writing) ≤ n
    none_left e = omega (arith, left_over, ap length (ahead_over w writing n spot fence e))

    pub more_left : (words : ℕ) → Inside writing.own words → over_at writing spot fence ≡ false → n < length (writes w writing)
    more_left words inside e = omega (arith, left_over, ahead_some w writing n spot fence words inside along.stands e)

    -- The next slot is slot n, and the walk goes on behind it.
    module _ (slot : Slot) (later further : ℕ) (follows : Follows w writing n spot fence slot later further) where
      all_on : slot ∷ ahead w writing (n + 1) later further ≡ drop n (writes w writing)
      all_on = follows.told ∙ along.coming

      before_end : n < length (writes w writing)
      before_end = omega (arith, left_over, ap length follows.told)

      there : slot ∷ ahead w writing (n + 1) later further ≡ numbered (writes w writing) n ∷ drop (n + 1) (writes w writing)
      there = all_on ∙ rw (add-one n) (drop-cons (writes w writing) n (external least 0) before_end)

      pub slot_told : numbered (writes w writing) n ≡ slot
      slot_told = let e = there in cc

      pub along_on : Along (n + 1) later further
      along_on = record { coming = let e = there in cc; stands = follows.stands }
