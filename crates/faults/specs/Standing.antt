-- The slots where the entries of a level stand. Assumes nothing.
use Prim.Native.Nat.{ℕ, zero, suc, ◌+◌, ◌*◌, ◌/◌, ◌%◌, ◌≤◌, ◌<◌, min}
use Rattle.std.proofs.Math.Nat.{zero-add}
use native.Mathlib.Omega.{arith}
use Rattle.std.specs.Prelude.{◌≡◌, Bool, length, get_or}
use Rattle.std.proofs.Math.Path.{refl, ap}
use Rattle.std.proofs.Math.Bool.{true, false}
use mathlib.Core.List.{List, [], ◌∷◌, ◌++◌}
use Rattle.laws.specs.Lists.{span, concat}
use Rattle.laws.specs.Flat.{span_agree}
use Rattle.geometry.specs.declared.Geometry.{Geometry}
use Rattle.geometry.specs.Places.{head_count_word, head_room, head_place, slot_place, slots_in_page, words_in_slot}
use Rattle.geometry.specs.Directory.{pages_of}
use Rattle.slot.specs.declared.Slot.{Slot}
use Rattle.slot.specs.Slot.{slot_at}
use Rattle.rules.specs.Tree.{Entry, Level}
use Rattle.rules.specs.Level.{fence_kind}
use Rattle.rules.specs.Finding.{normal_kind}
use Rattle.rules.specs.Sound.{slots_from, head_slots, count_at, page_slots, level_slots, entries_of}
use Rattle.rules.specs.Faults.{entry_numbers, entry_places}
use Rattle.entries.specs.Run.{entries_joined}
use Rattle.faults.specs.Places.{slot_numbered}

-- The number of the slot where entry m of level i stands.
unfoldable pub entry_place : Geometry → List ℕ → ℕ → ℕ → ℕ
entry_place g w i m = get_or (entry_places g w i) m 0

-- Of the entries of level i, entry m stands in slot n, and that slot holds it.
pub record StandsAt (g : Geometry) (w : List ℕ) (i : ℕ) (es : Level) (m n : ℕ) : Type 0 where
  pub inside : m < length es
  pub numbered : entry_place g w i m ≡ n
  pub holds : (d : Entry) → entries_of (slot_numbered g w i n ∷ []) ≡ get_or es m d ∷ []

-- Slots with ascending numbers below hi that hold entries one by one: the slot of entry m is number m of the list.
pub record Standing (at : ℕ → Slot) (hi : ℕ) (ns : List ℕ) (es : Level) : Type 0 where
  pub many : length ns ≡ length es
  pub below : (m a : ℕ) → m < length es → get_or ns m a < hi
  pub rises : (m k a b : ℕ) → m < k → k < length es → get_or ns m a < get_or ns k b
  pub holds : (m a : ℕ) (d : Entry) → m < length es → entries_of (at (get_or ns m a) ∷ []) ≡ get_or es m d ∷ []

-- A number that is in a list is read whatever is read past its end.
pub get_d_any : (ns : List ℕ) (n a b : ℕ) → n < length ns → get_or ns n a ≡ get_or ns n b
get_d_any [] n a b h = absurd (omega arith)
get_d_any (m ∷ ns) zero a b h = refl
get_d_any (m ∷ ns) (suc n) a b h = get_d_any ns n a b (omega arith)

-- Slots with ascending numbers, from lo on and below hi, that hold entries one by one.
Stand : (ℕ → Slot) → ℕ → ℕ → List ℕ → Level → Type 0
Stand at lo hi [] [] = lo ≤ hi
Stand at lo hi [] (e ∷ es) = ⊥
Stand at lo hi (n ∷ ns) [] = ⊥
Stand at lo hi (n ∷ ns) (e ∷ es) = (lo ≤ n) × (n < hi) × (entries_of (at n ∷ []) ≡ e ∷ []) × Stand at (suc n) hi ns es

module _ (at : ℕ → Slot) where
  stand_lower : (a b hi : ℕ) (ns : List ℕ) (es : Level) → a ≤ b → Stand at b hi ns es → Stand at a hi ns es
  unfolding Stand
  stand_lower a b hi [] [] h s = omega arith
  stand_lower a b hi [] (e ∷ es) h s = s
  stand_lower a b hi (n ∷ ns) [] h s = s
  stand_lower a b hi (n ∷ ns) (e ∷ es) h s = (omega (arith, s.0), s.1, s.2, s.3)

  stand_within : (lo hi : ℕ) (ns : List ℕ) (es : Level) → Stand at lo hi ns es → lo ≤ hi
  unfolding Stand
  stand_within lo hi [] [] s = s
  stand_within lo hi [] (e ∷ es) s = absurd s
  stand_within lo hi (n ∷ ns) [] s = absurd s
  stand_within lo hi (n ∷ ns) (e ∷ es) s = omega (arith, s.0, s.1)

  -- Those of slots and then of others.
  stand_joined : (lo mid hi : ℕ) (ns ms : List ℕ) (es fs : Level) → Stand at lo mid ns es → Stand at mid hi ms fs → Stand at lo hi (ns ++ ms) (es ++ fs)
  unfolding Stand
  stand_joined lo mid hi [] ms [] fs s t = stand_lower lo mid hi ms fs s t
  stand_joined lo mid hi [] ms (e ∷ es) fs s t = absurd s
  stand_joined lo mid hi (n ∷ ns) ms [] fs s t = absurd s
  stand_joined lo mid hi (n ∷ ns) ms (e ∷ es) fs s t =
      (s.0, omega (arith, s.1, stand_within mid hi ms fs t), s.2, stand_joined (suc n) mid hi ns ms es fs s.3 t)

  -- Those of a run of slots that are numbered from n on.
  stand_run : (n m hi : ℕ) → n + m ≤ hi → Stand at n hi (entry_numbers n (span at n m)) (entries_of (span at n m))
  unfolding Stand entry_numbers entries_of span
  stand_run n zero hi h = omega arith
  stand_run n (suc m) hi h = chosen (fence_kind (at n).kind) refl (stand_run (suc n) m hi (omega arith))
    where
      chosen : (b : Bool) → fence_kind (at n).kind ≡ b → Stand at (suc n) hi (entry_numbers (suc n) (span at (suc n) m)) (entries_of (span at (suc n) m)) →
          Stand at n hi (elim b [ true ↦ entry_numbers (suc n) (span at (suc n) m) | false ↦ n ∷ entry_numbers (suc n) (span at (suc n) m) ])
          (elim b [ true ↦ entries_of (span at (suc n) m) | false ↦ record { pair = (at n).pair; normal = normal_kind (at n).kind } ∷ entries_of (span at (suc n) m) ])
      chosen true e rest = stand_lower n (suc n) hi (entry_numbers (suc n) (span at (suc n) m)) (entries_of (span at (suc n) m)) (omega arith) rest
      chosen false e rest = (omega arith, omega arith, rw (e, entries_of) refl, rest)

  -- As many as the entries, below hi, each behind the one before it, each holding its entry.
  stand_many : (lo hi : ℕ) (ns : List ℕ) (es : Level) → Stand at lo hi ns es → length ns ≡ length es
  unfolding Stand
  stand_many lo hi [] [] s = refl
  stand_many lo hi [] (e ∷ es) s = absurd s
  stand_many lo hi (n ∷ ns) [] s = absurd s
  stand_many lo hi (n ∷ ns) (e ∷ es) s = ap suc (stand_many (suc n) hi ns es s.3)

  stand_from : (lo hi : ℕ) (ns : List ℕ) (es : Level) → Stand at lo hi ns es → (m a : ℕ) → m < length es → (lo ≤ get_or ns m a) × (get_or ns m a < hi)
  unfolding Stand
  stand_from lo hi [] [] s m a h = absurd (omega arith)
  stand_from lo hi [] (e ∷ es) s m a h = absurd s
  stand_from lo hi (n ∷ ns) [] s m a h = absurd s
  stand_from lo hi (n ∷ ns) (e ∷ es) s zero a h = (s.0, s.1)
  stand_from lo hi (n ∷ ns) (e ∷ es) s (suc m) a h =
      let rest = stand_from (suc n) hi ns es s.3 m a (omega arith) in
      (omega (arith, s.0, rest.0), rest.1)

  stand_rises : (lo hi : ℕ) (ns : List ℕ) (es : Level) → Stand at lo hi ns es → (m k a b : ℕ) → m < k → k < length es → get_or ns m a < get_or ns k b
  unfolding Stand
  stand_rises lo hi [] [] s m k a b l u = absurd (omega arith)
  stand_rises lo hi [] (e ∷ es) s m k a b l u = absurd s
  stand_rises lo hi (n ∷ ns) [] s m k a b l u = absurd s
  stand_rises lo hi (n ∷ ns) (e ∷ es) s m zero a b l u = absurd (omega arith)
  stand_rises lo hi (n ∷ ns) (e ∷ es) s zero (suc k) a b l u = omega (arith, (stand_from (suc n) hi ns es s.3 k b (omega arith)).0)
  stand_rises lo hi (n ∷ ns) (e ∷ es) s (suc m) (suc k) a b l u = stand_rises (suc n) hi ns es s.3 m k a b (omega arith) (omega arith)

  stand_holds : (lo hi : ℕ) (ns : List ℕ) (es : Level) → Stand at lo hi ns es → (m a : ℕ) (d : Entry) → m < length es → entries_of (at (get_or ns m a) ∷ []) ≡ get_or es m d ∷ []
  unfolding Stand
  stand_holds lo hi [] [] s m a d h = absurd (omega arith)
  stand_holds lo hi [] (e ∷ es) s m a d h = absurd s
  stand_holds lo hi (n ∷ ns) [] s m a d h = absurd s
  stand_holds lo hi (n ∷ ns) (e ∷ es) s zero a d h = s.2
  stand_holds lo hi (n ∷ ns) (e ∷ es) s (suc m) a d h = stand_holds (suc n) hi ns es s.3 m a d (omega arith)

standing : (at : ℕ → Slot) (hi : ℕ) (ns : List ℕ) (es : Level) → Stand at 0 hi ns es → Standing at hi ns es
standing at hi ns es s = record {
  many = stand_many at 0 hi ns es s;
  below = λ m a h. (stand_from at 0 hi ns es s m a h).1;
  rises = stand_rises at 0 hi ns es s;
  holds = stand_holds at 0 hi ns es s;
}

pub stands_at : (g : Geometry) (w : List ℕ) (i hi : ℕ) (es : Level) (m n : ℕ) → Standing (slot_numbered g w i) hi (entry_places g w i) es → m < length es →
    entry_place g w i m ≡ n → StandsAt g w i es m n
unfolding entry_place
stands_at g w i hi es m n standing h e = record { inside = h; numbered = e; holds = λ d. rw (← e) (standing.holds m 0 d h) }

module _ (g : Geometry) (w : List ℕ) where
  -- The entries of the head.
  pub head_stands : Standing (slot_numbered g w 0) (head_room g) (entry_places g w 0) (entries_of (head_slots g w))
  unfolding slot_numbered entry_places head_slots slots_from head_place
  head_stands = standing (slot_numbered g w 0) (head_room g) (entry_places g w 0) (entries_of (head_slots g w)) (stand_run (slot_numbered g w 0) 0 (min (get_or w head_count_word 0) (head_room g)) (head_room g) (omega arith))

  -- Those of a level: page p has the slots from 21p on.
  page_numbered : (i p : ℕ) → page_slots g w (suc i) p ≡ span (slot_numbered g w (suc i)) (slots_in_page * p) (min (count_at g w (suc i) p) slots_in_page)
  unfolding page_slots slots_from slot_numbered slot_place
  page_numbered i p =
      span_agree (λ j. slot_at w (slot_place g (suc i) p 0 + words_in_slot * j)) (slot_numbered g w (suc i)) 0 (slots_in_page * p) (min (count_at g w (suc i) p) slots_in_page)
      (λ k b.
      let d : (21 * p + k) / 21 ≡ p = omega arith in
      let r : (21 * p + k) % 21 ≡ k = omega arith in
      rw (d, r) (ap (slot_at w) (omega arith)))

  pages_stand : (i q n : ℕ) → Stand (slot_numbered g w (suc i)) (slots_in_page * q) (slots_in_page * (q + n))
      (concat (span (λ p. entry_numbers (slots_in_page * p) (page_slots g w (suc i) p)) q n)) (entries_of (concat (span (page_slots g w (suc i)) q n)))
  unfolding Stand concat span entries_of
  pages_stand i q zero = omega arith
  pages_stand i q (suc n) =
      let at = slot_numbered g w (suc i) in
      let s : q + suc n ≡ suc q + n = omega arith in
      let slots = page_slots g w (suc i) q in
      let rest = concat (span (page_slots g w (suc i)) (suc q) n) in
      let first : Stand at (slots_in_page * q) (slots_in_page * suc q) (entry_numbers (slots_in_page * q) slots) (entries_of slots) =
      rw (page_numbered i q) (stand_run at (slots_in_page * q) (min (count_at g w (suc i) q) slots_in_page) (slots_in_page * suc q) (omega arith)) in
      rw (s, entries_joined slots rest)
      (stand_joined at (slots_in_page * q) (slots_in_page * suc q) (slots_in_page * (suc q + n)) (entry_numbers (slots_in_page * q) slots)
      (concat (span (λ p. entry_numbers (slots_in_page * p) (page_slots g w (suc i) p)) (suc q) n)) (entries_of slots) (entries_of rest) first (pages_stand i (suc q) n))

  pub level_stands : (i : ℕ) → 1 ≤ i → Standing (slot_numbered g w i) (slots_in_page * pages_of g w i) (entry_places g w i) (entries_of (level_slots g w i))
  unfolding entry_places level_slots
  level_stands zero h = absurd (omega arith)
  level_stands (suc i) h =
      let z : 0 + pages_of g w (suc i) ≡ pages_of g w (suc i) = zero-add _ in
      standing (slot_numbered g w (suc i)) (slots_in_page * pages_of g w (suc i)) (entry_places g w (suc i)) (entries_of (level_slots g w (suc i)))
      (rw z at (pages_stand i 0 (pages_of g w (suc i))))
