-- Entries woven with fences: the weights of the row rise where theirs do. Assumes nothing.
use Rattle.std.specs.Prelude.{ℕ, suc, ◌+◌, ◌*◌, ◌≡◌, true, List, [], ◌∷◌, map}
use Rattle.std.proofs.Common.{arith}
use Rattle.laws.specs.Lists.{all}
use Rattle.laws.specs.Flat.{all_first, all_rest}
use Rattle.slot.specs.declared.Slot.{Slot}
use Rattle.slot.specs.Order.{before_below, not_before_above}
use Rattle.rules.specs.Tree.{Entry, Level, rank_of}
use Rattle.rules.specs.Level.{index, weave}
use Rattle.rules.specs.Sound.{ascending}
use Rattle.rules.specs.Woven.{fence, index_entry, StandsFirst, by_weaving}
use Rattle.entries.specs.Ascending.{From, from_ascending}
use Rattle.finding.specs.Rising.{weight, Rising, weight_least, fence_weight, entry_weight, rising_lower}

-- An entry's slot weighs most of its pair's.
index_weight : (e : Entry) → weight (index e) ≡ 3 * rank_of e + 2
unfolding index
index_weight e = entry_weight (index e) (index_entry e)

-- Ascending entries' weights rise, and so do those of a row that is woven with rising fences.
rising_from : (n : ℕ) (es : Level) → From n es → Rising (3 * n) (map index es)
unfolding From Rising
rising_from n [] a = tt
rising_from n (e ∷ es) a =
    let rest = rising_from (suc (rank_of e)) es a.1 in
    (omega (arith, a.0, index_weight e), rising_lower (suc (weight (index e))) (3 * suc (rank_of e)) (map index es) (omega (arith, index_weight e)) rest)

pub rising_entries : (es : Level) → ascending es ≡ true → Rising 0 (map index es)
rising_entries es a = rising_from 0 es (from_ascending es a)

rising_after : (e : Entry) (n : ℕ) (fs : List Slot) → StandsFirst e fs → Rising n fs → Rising (suc (weight (index e))) fs
unfolding StandsFirst Rising
rising_after e n [] c r = tt
rising_after e n (f ∷ fs) c r = (omega (arith, before_below e.pair f.pair c, index_weight e, weight_least f), r.1)

pub rising_woven : (es : Level) (fs : List Slot) (n : ℕ) → all fence fs ≡ true → Rising n (map index es) → Rising n fs → Rising n (weave es fs)
unfolding Rising
rising_woven =
    by_weaving (λ es fs row. (n : ℕ) → all fence fs ≡ true → Rising n (map index es) → Rising n fs → Rising n row) (λ fs n a r q. q)
    (λ e es fs row c ih n a r q. (r.0, ih (suc (weight (index e))) a r.1 (rising_after e n fs c q)))
    (λ e es f fs row c ih n a r q.
    let k = all_first fence f fs a in
    (q.0, ih (suc (weight f)) (all_rest fence f fs a) (omega (arith, not_before_above e.pair f.pair c, fence_weight f k, index_weight e), r.1) q.1))
