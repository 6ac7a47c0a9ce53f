-- The first entry of a run that is not above the last one, or one too many: what the clauses of src/lib.rt cite, what a walk over the entries
-- knows at each, and how it goes on or ends. Assumes nothing.
use Prim.Native.Nat.{ℕ, zero, suc, ◌+◌, ◌-◌, ◌*◌, ◌^◌, ◌≤◌, ◌<◌, min}
use Rattle.std.proofs.Math.Nat.{mul-le-mul}
use Rattle.std.proofs.Common.{add-one, arith, ◌∙◌, length-drop, drop-cons}
use Rattle.std.specs.Prelude.{◌≡◌, Bool, ◌&&◌, List, [], ◌∷◌, get_or, take, drop, leb}
use Rattle.std.proofs.Math.Path.{refl, sym, ap}
use Rattle.std.proofs.Math.Bool.{true, false}
use Rattle.std.proofs.lemmas.Bool.{false≢true}
use Rattle.std.proofs.Math.ListN.{length, get_or-eq_default}
use Rattle.std.proofs.Math.Seq.{take-nil}
use Rattle.std.proofs.Math.Dec.{ltb}
use borrow.Author.Tests.{ltb-true, ltb-false, leb-true, ne_eqb}
use Rattle.laws.specs.Tests.{and_left, and_right, and_true, and_assoc}
use Rattle.laws.specs.First.{fails_first, first_is}
use Rattle.slot.specs.declared.Pair.{Pair}
use Rattle.slot.specs.Pair.{before, least}
use Rattle.rules.specs.Tree.{Entry, Level}
use Rattle.rules.specs.Sound.{ascending}
use Rattle.rules.specs.Faults.{rising}
use Rattle.written.specs.Row.{rises}
use Rattle.entries.specs.declared.Run.{Run}
use Rattle.entries.specs.Run.{Inside, entries_in}
use Rattle.entries.specs.Skip.{skip}
use Rattle.entries.specs.Spot.{page_at, slot_number, upcoming, Standing, upcoming_none, from_least, from_first}
use Rattle.entries.specs.Placed.{places_in, places_length, spot_placed, spot_inside}

-- The number of the slot at a spot, through the pages of a run.
unfoldable pub number_at : Run → ℕ → ℕ
number_at run spot = run.most * page_at spot + slot_number spot

-- The number of the slot of the first entry that is not above the last one, or that `most` entries come before; `end` where there is none.
unfoldable pub entry_astray : List ℕ → Run → ℕ → ℕ → ℕ
entry_astray w run most end = get_or (places_in w run) (min (rising (entries_in w run)) most) end

-- Entry m of some.
abbrev entry_number : Level → ℕ → Entry
entry_number es m = get_or es m (record { pair = least; normal = true })

-- Two entries and more ascend where the first two do and all but the first.
ascending_two : (a b : Entry) (es : Level) → ascending (a ∷ b ∷ es) ≡ (before a.pair b.pair && ascending (b ∷ es))
unfolding ascending
ascending_two a b es = by (before a.pair b.pair)
  where
    by : (c : Bool) → elim c [ true ↦ ascending (b ∷ es) | false ↦ false ] ≡ (c && ascending (b ∷ es))
    by true = refl
    by false = refl

rises_later : (m : ℕ) (last a : Pair) → rises (suc m) last a ≡ before last a
unfolding rises
rises_later m last a = rw (ne_eqb (suc m) 0 (λ z. omega arith)) refl

-- Entries ascend one further where the next one is above the last, and where they do so do the first k of them.
ascends_on : (es : Level) (m : ℕ) (last : Pair) → m < length es → ((k : ℕ) → m ≡ suc k → last ≡ (entry_number es k).pair) →
    ascending (take (suc m) es) ≡ (ascending (take m es) && rises m last (entry_number es m).pair)
unfolding ascending rises
ascends_on [] m last h e = absurd (omega arith)
ascends_on (a ∷ es) zero last h e = refl
ascends_on (a ∷ []) (suc m) last h e = absurd (omega arith)
ascends_on (a ∷ b ∷ es) (suc zero) last h e = ascending_two a b [] ∙ rw (e 0 refl) (and_true (before a.pair b.pair))
ascends_on (a ∷ b ∷ es) (suc (suc m)) last h e =
    let x : Pair = (entry_number es m).pair in
    let ih = ascends_on (b ∷ es) (suc m) last (omega arith) (λ k q. e (suc k) (ap suc q)) in
    ascending_two a b (take (suc m) es) ∙
    rw (ascending_two a b (take m es), rises_later (suc m) last x)
    (ap (λ (c : Bool). before a.pair b.pair && c) (ih ∙ rw (rises_later m last x) refl) ∙ sym (and_assoc (before a.pair b.pair) (ascending (b ∷ take m es)) (before last x)))

ascending_take : (es : Level) (k m : ℕ) → k ≤ m → ascending (take m es) ≡ true → ascending (take k es) ≡ true
unfolding ascending
ascending_take es zero m h e = refl
ascending_take [] (suc k) m h e = refl
ascending_take (a ∷ []) (suc k) m h e = rw (take-nil {A = Entry} k) refl
ascending_take (a ∷ b ∷ es) (suc zero) m h e = refl
ascending_take (a ∷ b ∷ es) (suc (suc k)) zero h e = absurd (omega arith)
ascending_take (a ∷ b ∷ es) (suc (suc k)) (suc zero) h e = absurd (omega arith)
ascending_take (a ∷ b ∷ es) (suc (suc k)) (suc (suc m)) h e =
    let both = sym (ascending_two a b (take m es)) ∙ e in
    let first = and_left (before a.pair b.pair) (ascending (b ∷ take m es)) both in
    let rest = ascending_take (b ∷ es) (suc k) (suc m) (omega arith) (and_right (before a.pair b.pair) (ascending (b ∷ take m es)) both) in
    ascending_two a b (take k es) ∙ rw first rest

-- Entries that ascend so far, and no further or to their end.
module _ (es : Level) (m : ℕ) (h : m ≤ length es) (ascends : ascending (take m es) ≡ true) where
  abbrev test : ℕ → Bool
  test j = ascending (take (suc j) es)

  ascends_before : (j : ℕ) → j < m → test j ≡ true
  ascends_before j b = ascending_take es (suc j) m b ascends

  rising_here : (m < length es → test m ≡ false) → rising es ≡ m
  unfolding rising
  rising_here fails = first_is test (length es) m h ascends_before fails

  rising_least : m ≤ rising es
  unfolding rising
  rising_least = by (ltb (rising es) m) refl
    where
      by : (b : Bool) → ltb (rising es) m ≡ b → m ≤ rising es
      by false q = ltb-false (rising es) m q
      by true q =
          let l = ltb-true (rising es) m q in
          absurd (false≢true (sym (fails_first test (length es) (omega arith)) ∙ ascends_before (rising es) l))

-- The walk ------------------------------------------------------------------------------------------------------------------------------------------

module _ (w : List ℕ) (run : Run) (most : ℕ) where
  abbrev es : Level
  es = entries_in w run

  -- After m entries, which ascend and are at most as many as there may be: the others come from a spot on, and the last of the m is known.
  pub record Rising (m spot : ℕ) (last : Pair) : Type 0 where
    pub coming : upcoming w run spot ≡ drop m es
    pub stands : Standing w run spot
    pub inside : m ≤ length es
    pub ascends : ascending (take m es) ≡ true
    pub latest : (k : ℕ) → m ≡ suc k → last ≡ (entry_number es k).pair
    pub few : m ≤ most

  pub rising_begins : (spot : ℕ) (p last : Pair) → p ≡ least → upcoming w run spot ≡ skip p (upcoming w run 0) → Standing w run spot → Rising 0 spot last
  unfolding ascending
  rising_begins spot p last l e there = record {
    coming = from_first w run spot p l e;
    stands = there;
    inside = omega arith;
    ascends = refl;
    latest = λ k q. absurd (omega arith);
    few = omega arith;
  }

  module _ (m spot : ℕ) (last : Pair) (here : Rising m spot last) where
    left_over : length (upcoming w run spot) ≡ length es - m
    left_over = ap length here.coming ∙ length-drop m es

    -- Where the run ends, all entries ascend, and none is one too many.
    pub rising_ends : (end : ℕ) → leb run.pages (page_at spot) ≡ true → end ≡ entry_astray w run most end
    unfolding entry_astray
    rising_ends end e =
        let none : length (upcoming w run spot) ≡ 0 = ap length (upcoming_none w run spot (leb-true run.pages (page_at spot) e)) in
        let all : rising es ≡ m = rising_here es m here.inside here.ascends (λ h. absurd (omega (arith, left_over, none))) in
        sym (get_or-eq_default (places_in w run) end {n = min (rising es) most} (omega (arith, left_over, none, all, here.few, here.inside, places_length w run)))

    -- At an entry.
    module _ (e : Entry) (first : e ∷ upcoming w run (spot + 1) ≡ upcoming w run spot) where
      pub more : m < length es
      more = omega (arith, left_over, ap length first)

      there : e ∷ upcoming w run (spot + 1) ≡ entry_number es m ∷ drop (m + 1) es
      there = first ∙ here.coming ∙ rw (add-one m) (drop-cons es m (record { pair = least; normal = true }) more)

      number_there : entry_number es m ≡ e
      number_there = let t = there in cc

      one_more : ascending (take (suc m) es) ≡ rises m last e.pair
      one_more = ascends_on es m last more here.latest ∙ rw (here.ascends, number_there) refl

      -- It is the one, if it does not rise or is one too many.
      pub entry_found : (end : ℕ) → page_at spot < run.pages → (ltb m most && rises m last e.pair) ≡ false → number_at run spot ≡ entry_astray w run most end
      unfolding entry_astray number_at
      entry_found end h f = sym (rw found (spot_placed w run spot m end here.stands h (omega (arith, left_over, more))))
        where
          found : min (rising es) most ≡ m
          found = by (ltb m most) refl f
            where
              by : (b : Bool) → ltb m most ≡ b → (b && rises m last e.pair) ≡ false → min (rising es) most ≡ m
              by true q r =
                  let stops : rising es ≡ m = rising_here es m here.inside here.ascends (λ h. one_more ∙ r) in
                  omega (arith, stops, ltb-true m most q)
              by false q r = omega (arith, ltb-false m most q, here.few, rising_least es m here.inside here.ascends)

      -- Else the walk goes on behind it.
      pub rising_on : (ltb m most && rises m last e.pair) ≡ true → (later : ℕ) (p : Pair) → p ≡ least →
          upcoming w run later ≡ skip p (upcoming w run (spot + 1)) → Standing w run later → Rising (m + 1) later e.pair
      rising_on t later p l s stands = record {
        coming = from_least w run (spot + 1) later p l s ∙ (let t = there in cc);
        stands = stands;
        inside = omega (arith, more);
        ascends = rw (add-one m) (one_more ∙ and_right (ltb m most) _ t);
        latest = λ k q. let z : k ≡ m = omega arith in rw (z, number_there) refl;
        few = omega (arith, ltb-true m most (and_left (ltb m most) _ t));
      }

-- No number is large.
module _ (w : List ℕ) (run : Run) (spot words : ℕ) (inside : Inside run words) (stands : Standing w run spot) (h : page_at spot < run.pages) where
  pub number_fits : number_at run spot < 2 ^ 32
  unfolding number_at
  number_fits =
      let most : run.most * page_at spot ≤ 4000 * 2000 =
      mul-le-mul {n₁ = run.most} {m₁ = page_at spot} {n₂ = 4000} {m₂ = 2000} inside.few_slots (omega (arith, inside.few_pages)) in
      omega (arith, most, inside.few_slots, spot_inside w run spot stands h)
