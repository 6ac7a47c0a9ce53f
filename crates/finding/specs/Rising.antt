-- Slots whose weights rise: a slot weighs by its pair, and at one pair an external fence less than an internal one and that less than
-- an index entry. So a level has at most three slots of a pair, and slots a page apart differ in pair. Assumes nothing.
use Rattle.std.specs.Prelude.{ℕ, zero, suc, ◌+◌, ◌*◌, ◌≤◌, ◌<◌, ◌≡◌, refl, Bool, true, false, ◌||◌, ◌&&◌, List, [], ◌∷◌, length, get_or, take, drop}
use Rattle.std.proofs.Common.{arith, sym, ap}
use Rattle.std.proofs.lemmas.Bool.{false≢true}
use Rattle.laws.specs.Lists.{span}
use Rattle.slot.specs.declared.Slot.{Slot}
use Rattle.slot.specs.declared.Kind.{Kind}
use Rattle.slot.specs.declared.Kind.TheVariants.{Normal, Filter, External, Internal}
use Rattle.slot.specs.Pair.{rank, before, same}
use Rattle.slot.specs.Order.{not_before_above, level_same}
use Rattle.rules.specs.Level.{fence_kind}
use Rattle.rules.specs.Sound.{follows, in_order}
use Rattle.geometry.specs.Places.{words_in_slot}

-- At one pair an external fence stands first, then an internal one, then an index entry.
abbrev pub turn : Kind → ℕ
turn External = 0
turn Internal = 1
turn Normal = 2
turn Filter = 2

unfoldable pub weight : Slot → ℕ
weight s = words_in_slot * rank s.pair + turn s.kind

-- The slots' weights rise from n on.
unfoldable pub Rising : ℕ → List Slot → Type 0
Rising n [] = Unit {0}
Rising n (s ∷ ss) = (n ≤ weight s) × Rising (suc (weight s)) ss

-- A weight lies between those of its pair; a fence weighs less than an index entry of its pair.
pub weight_least : (s : Slot) → 3 * rank s.pair ≤ weight s
unfolding weight
weight_least s = omega arith

pub weight_most : (s : Slot) → weight s ≤ 3 * rank s.pair + 2
unfolding weight
weight_most s = omega (arith, turn_most s.kind)
  where
    turn_most : (k : Kind) → turn k ≤ 2
    turn_most External = omega arith
    turn_most Internal = omega arith
    turn_most Normal = omega arith
    turn_most Filter = omega arith

pub fence_weight : (s : Slot) → fence_kind s.kind ≡ true → weight s ≤ 3 * rank s.pair + 1
unfolding weight
fence_weight s e = omega (arith, turn_fence s.kind e)
  where
    turn_fence : (k : Kind) → fence_kind k ≡ true → turn k ≤ 1
    turn_fence External e = omega arith
    turn_fence Internal e = omega arith
    turn_fence Normal e = absurd (false≢true e)
    turn_fence Filter e = absurd (false≢true e)

pub entry_weight : (s : Slot) → fence_kind s.kind ≡ false → weight s ≡ 3 * rank s.pair + 2
unfolding weight
entry_weight s e = ap (λ (t : ℕ). 3 * rank s.pair + t) (turn_entry s.kind e)
  where
    turn_entry : (k : Kind) → fence_kind k ≡ false → turn k ≡ 2
    turn_entry External e = absurd (false≢true (sym e))
    turn_entry Internal e = absurd (false≢true (sym e))
    turn_entry Normal e = refl
    turn_entry Filter e = refl

-- What rises from n on rises from any lower number on.
pub rising_lower : (m n : ℕ) (ss : List Slot) → m ≤ n → Rising n ss → Rising m ss
unfolding Rising
rising_lower m n [] h r = tt
rising_lower m n (s ∷ ss) h r = (omega (arith, r.0), r.1)

-- What stands first, and what is left after it, rises too.
pub rising_take : (k n : ℕ) (ss : List Slot) → Rising n ss → Rising n (take k ss)
unfolding Rising
rising_take zero n ss r = tt
rising_take (suc k) n [] r = tt
rising_take (suc k) n (s ∷ ss) r = (r.0, rising_take k (suc (weight s)) ss r.1)

pub rising_drop : (k n : ℕ) (ss : List Slot) → Rising n ss → Rising n (drop k ss)
unfolding Rising
rising_drop zero n ss r = r
rising_drop (suc k) n [] r = tt
rising_drop (suc k) n (s ∷ ss) r = rising_drop k n ss (rising_lower n (suc (weight s)) ss (omega (arith, r.0)) r.1)

-- Each slot further on weighs one more at least.
pub rising_at : (n : ℕ) (ss : List Slot) (j : ℕ) (d : Slot) → Rising n ss → j < length ss → n + j ≤ weight (get_or ss j d)
unfolding Rising
rising_at n [] j d r h = absurd (omega arith)
rising_at n (s ∷ ss) zero d r h = omega (arith, r.0)
rising_at n (s ∷ ss) (suc j) d r h = omega (arith, r.0, rising_at (suc (weight s)) ss j d r.1 (omega arith))

pub rising_apart : (n : ℕ) (ss : List Slot) (i j : ℕ) (d : Slot) → Rising n ss → i ≤ j → j < length ss → weight (get_or ss i d) + j ≤ weight (get_or ss j d) + i
unfolding Rising
rising_apart n [] i j d r l h = absurd (omega arith)
rising_apart n (s ∷ ss) zero j d r l h = omega (arith, rising_at (weight s) (s ∷ ss) j d (omega arith, r.1) h)
rising_apart n (s ∷ ss) (suc i) zero d r l h = absurd (omega arith)
rising_apart n (s ∷ ss) (suc i) (suc j) d r l h = omega (arith, rising_apart (suc (weight s)) ss i j d r.1 (omega arith) (omega arith))

-- A span rises if each of its slots weighs less than the next.
pub rising_span : (f : ℕ → Slot) (n i m : ℕ) → n ≤ weight (f i) → ((k : ℕ) → i ≤ k → suc k < i + m → weight (f k) < weight (f (suc k))) →
    Rising n (span f i m)
unfolding Rising span
rising_span f n i zero h a = tt
rising_span f n i (suc zero) h a = (h, tt)
rising_span f n i (suc (suc m)) h a = (h, rising_span f (suc (weight (f i))) (suc i) (suc m) (a i (omega arith) (omega arith)) (λ k l u. a k (omega arith) (omega arith)))

-- Rising slots are in slot order.
rising_follows : (a b : Slot) → suc (weight a) ≤ weight b → follows a b ≡ true
unfolding follows
rising_follows a b h = compared (before a.pair b.pair) refl (fence_kind a.kind) refl
  where
    compared : (x : Bool) → before a.pair b.pair ≡ x → (f : Bool) → fence_kind a.kind ≡ f →
        (before a.pair b.pair || (same a.pair b.pair && fence_kind a.kind)) ≡ true
    compared true e f k = rw e
    compared false e true k =
        let l : rank a.pair ≡ rank b.pair = omega (arith, h, not_before_above a.pair b.pair e, weight_least a, weight_most b) in
        rw (e, k, level_same a.pair b.pair l)
    compared false e false k =
        absurd (omega (arith, h, not_before_above a.pair b.pair e, entry_weight a k, weight_most b))

pub rising_order : (n : ℕ) (ss : List Slot) → Rising n ss → in_order ss ≡ true
unfolding Rising in_order
rising_order n [] r = refl
rising_order n (a ∷ []) r = refl
rising_order n (a ∷ b ∷ ss) r = rw (rising_follows a b r.1.0, in_order) (rising_order (suc (weight a)) (b ∷ ss) r.1)
