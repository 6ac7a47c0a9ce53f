-- The index entries in the upper levels: no merge adds to their number, and one that settling makes takes a whole capacity away.
-- Assumes nothing.
use Rattle.std.specs.Prelude.{ℕ, zero, suc, ◌+◌, ◌≤◌, ◌<◌, ◌≡◌, refl, Bool, true, false, [], ◌∷◌, length, ltb, eqb}
use Rattle.std.proofs.Common.{arith, ltb-true, ltb-false, eqb-true}
use Rattle.std.proofs.lemmas.Bool.{eqb-false}
use Rattle.geometry.specs.declared.Geometry.{Geometry}
use Rattle.geometry.specs.Geometry.{capacity}
use Rattle.rules.specs.Tree.{Entry, Tree, level}
use Rattle.rules.specs.Merging.{merge, settle, toggle_head, formatted}
use Rattle.good.specs.Toggle.{toggle_length}
use Rattle.good.specs.Join.{join_length}
use Rattle.good.specs.Merge.{merge_above, merge_here, merge_below}
use Rattle.good.specs.Settle.{settle_stays, settle_sinks}
use Rattle.good.specs.Format.{formatted_levels}

-- The index entries in levels 0 to i − 1.
unfoldable pub entries_above : ℕ → Tree → ℕ
entries_above zero t = 0
entries_above (suc i) t = entries_above i t + length (level i t)

-- None, where those levels are empty.
empty_above : (i : ℕ) (t : Tree) → ((j : ℕ) → j < i → level j t ≡ []) → entries_above i t ≡ 0
unfolding entries_above
empty_above zero t e = refl
empty_above (suc i) t e = rw (empty_above i t (λ j h. e j (omega arith)), e i (omega arith)) refl

-- A merge brings none up.
merge_entries : (i j : ℕ) (t : Tree) → entries_above i (merge j t) ≤ entries_above i t
unfolding entries_above
merge_entries zero j t = omega arith
merge_entries (suc i) j t = stands (ltb i (suc j)) (eqb i (suc j)) refl refl (merge_entries i j t)
  where
    stands : (b c : Bool) → ltb i (suc j) ≡ b → eqb i (suc j) ≡ c → entries_above i (merge j t) ≤ entries_above i t →
        entries_above i (merge j t) + length (level i (merge j t)) ≤ entries_above i t + length (level i t)
    stands true c h e ih = rw (merge_above j t i (ltb-true i (suc j) h)) (omega (arith, ih))
    stands false true h e ih =
        rw (eqb-true i (suc j) e, merge_here j t, empty_above (suc j) (merge j t) (merge_above j t))
        (omega (arith, join_length (level j t) (level (suc j) t)))
    stands false false h e ih =
        let n : ¬ (i ≡ suc j) = eqb-false i (suc j) e in
        rw (merge_below j t i (omega (arith, ltb-false i (suc j) h))) (omega (arith, ih))

-- Nor does settling.
pub settle_entries : (g : Geometry) (i n j : ℕ) (t : Tree) → entries_above i (settle g n j t).tree ≤ entries_above i t
unfolding settle
settle_entries g i zero j t = omega arith
settle_entries g i (suc n) j t = told (ltb (length (level j t)) (capacity g j)) refl (settle_entries g i n (suc j) (merge j t))
  where
    told : (b : Bool) → ltb (length (level j t)) (capacity g j) ≡ b → entries_above i (settle g n (suc j) (merge j t)).tree ≤ entries_above i (merge j t) →
        entries_above i (settle g (suc n) j t).tree ≤ entries_above i t
    told true e ih = rw (settle_stays g n j t e) (omega arith)
    told false e ih = rw (settle_sinks g n j t e) (omega (arith, ih, merge_entries i j t))

-- Where it goes below level i, it takes cap(i) entries at least out of level i and those above it.
pub settle_takes : (g : Geometry) (i n j : ℕ) (t : Tree) → j ≤ i → i < (settle g n j t).deepest →
    entries_above (suc i) (settle g n j t).tree + capacity g i ≤ entries_above (suc i) t
unfolding settle entries_above
settle_takes g i zero j t h d = absurd (omega arith)
settle_takes g i (suc n) j t h d =
    told (ltb (length (level j t)) (capacity g j)) (eqb i j) refl refl (settle_entries g (suc i) n (suc j) (merge j t)) (settle_takes g i n (suc j) (merge j t))
  where
    told : (b c : Bool) → ltb (length (level j t)) (capacity g j) ≡ b → eqb i j ≡ c →
        entries_above (suc i) (settle g n (suc j) (merge j t)).tree ≤ entries_above (suc i) (merge j t) →
        (suc j ≤ i → i < (settle g n (suc j) (merge j t)).deepest →
        entries_above (suc i) (settle g n (suc j) (merge j t)).tree + capacity g i ≤ entries_above (suc i) (merge j t)) →
        entries_above (suc i) (settle g (suc n) j t).tree + capacity g i ≤ entries_above (suc i) t
    told true c e q kept takes = absurd (omega (arith, h, rw (settle_stays g n j t e) at d))
    told false true e q kept takes =
        let at : i ≡ j = eqb-true i j q in
        let none : entries_above (suc i) (merge j t) ≡ 0 = empty_above (suc i) (merge j t) (λ k l. merge_above j t k (omega (arith, l, at))) in
        let full : capacity g i ≤ length (level i t) = rw at (ltb-false (length (level j t)) (capacity g j) e) in
        rw (settle_sinks g n j t e) (omega (arith, kept, none, full))
    told false false e q kept takes =
        let apart : ¬ (i ≡ j) = eqb-false i j q in
        rw (settle_sinks g n j t e) (omega (arith, takes (omega arith) (rw (settle_sinks g n j t e) at d), merge_entries (suc i) j t))

-- An entry toggled into the head is one more at most.
pub toggled_entries : (i : ℕ) (e : Entry) (t : Tree) → entries_above i (toggle_head e t) ≤ entries_above i t + 1
unfolding entries_above toggle_head
toggled_entries i e [] = omega arith
toggled_entries zero e (head ∷ lower) = omega arith
toggled_entries (suc zero) e (head ∷ lower) = omega (arith, toggle_length e head)
toggled_entries (suc (suc i)) e (head ∷ lower) = omega (arith, toggled_entries (suc i) e (head ∷ lower))

-- A formatted store has none.
pub formatted_entries : (g : Geometry) (i : ℕ) → entries_above i (formatted g).tree ≡ 0
formatted_entries g i = empty_above i (formatted g).tree (λ j h. formatted_levels g j)
