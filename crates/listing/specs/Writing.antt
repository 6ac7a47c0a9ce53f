-- List's result and words, written from here on: pairs are put into the slice one by one until it has no room for two more words.
-- Assumes nothing.
use Rattle.std.specs.Prelude.{ℕ, suc, ◌+◌, ◌-◌, ◌*◌, ◌/◌, ◌≤◌, ◌<◌, ◌≡◌, Bool, true, false, List, [], ◌∷◌, length, take, set, ltb}
use Rattle.std.proofs.Math.Nat.{sub-zero}
use Rattle.std.proofs.Common.{zero-add, add-zero, add-one, arith, ap, length-set, lt-ltb, le-ltb}
use Rattle.std.proofs.lemmas.List.Edits.{sets}
use Rattle.std.proofs.Math.Seq.{take-nil}
use Rattle.slot.specs.declared.Pair.{Pair}
use Rattle.rules.specs.Tree.{Tree}
use Rattle.rules.specs.Listing.{held_between, pair_words, Listed, list}

-- 1 exactly if a slice of `words` words has no room for two more words after n pairs.
unfoldable pub mark_of : ℕ → ℕ → ℕ
mark_of words n = elim (ltb words (2 * n + 2)) [ true ↦ 1 | false ↦ 0 ]

mark_full : (words n : ℕ) → words < 2 * n + 2 → mark_of words n ≡ 1
unfolding mark_of
mark_full words n h = ap (λ (b : Bool). elim b [ true ↦ 1 | false ↦ 0 ]) (lt-ltb words (2 * n + 2) h)

mark_room : (words n : ℕ) → 2 * n + 2 ≤ words → mark_of words n ≡ 0
unfolding mark_of
mark_room words n h = ap (λ (b : Bool). elim b [ true ↦ 1 | false ↦ 0 ]) (le-ltb words (2 * n + 2) h)

-- The pairs still to come, after n of them are written.
unfoldable pub list_from : ℕ → List Pair → List ℕ → Listed
list_from n ps slice =
    let listed = take (length slice / 2 - n) ps in
    record { pairs = n + length listed; mark = mark_of (length slice) (n + length listed); words = sets slice (2 * n) (pair_words listed) }

-- From the beginning it is the rules' list.
pub list_begins : (first second : Pair) (t : Tree) (slice : List ℕ) → list_from 0 (held_between first second t) slice ≡ list first second t slice
unfolding list_from list mark_of
list_begins first second t slice = rw (sub-zero, zero-add)

-- A pair put into a slice that has room for it.
pub list_puts : (n : ℕ) (p : Pair) (ps : List Pair) (slice : List ℕ) → n < length slice / 2 →
    list_from n (p ∷ ps) slice ≡ list_from (n + 1) ps (set (set slice (2 * n) p.badge) (2 * n + 1) p.floor.0)
unfolding list_from pair_words
list_puts n p ps slice h =
    let left : length slice / 2 - n ≡ suc (length slice / 2 - (n + 1)) = omega arith in
    let more : ℕ = length (take (length slice / 2 - (n + 1)) ps) in
    let counted : n + suc more ≡ n + 1 + more = omega arith in
    let on : 2 * (n + 1) ≡ suc (suc (2 * n)) = omega arith in
    rw (left, length-set, length-set, counted, on, add-one (2 * n))

-- No room for a pair: nothing more is written, and the mark is 1.
pub list_full : (n : ℕ) (ps : List Pair) (slice : List ℕ) → n ≡ length slice / 2 → list_from n ps slice ≡ record { pairs = n; mark = 1; words = slice }
unfolding list_from pair_words
list_full n ps slice h =
    let left : length slice / 2 - n ≡ 0 = omega arith in
    rw (left, add-zero, mark_full (length slice) n (omega arith))

-- No pair to come, and room: the mark is 0.
pub list_done : (n : ℕ) (slice : List ℕ) → n < length slice / 2 → list_from n [] slice ≡ record { pairs = n; mark = 0; words = slice }
unfolding list_from pair_words
list_done n slice h = rw (take-nil {A = Pair} (length slice / 2 - n), add-zero, mark_room (length slice) n (omega arith))
