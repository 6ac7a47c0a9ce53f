-- The held pairs of a range are those up to its second pair of the levels from its first pair on. Assumes nothing.
use Rattle.std.specs.Prelude.{◌≤◌, ◌≡◌, refl, Bool, true, false, [], ◌∷◌}
use Rattle.std.proofs.Common.{arith, ap₂}
use Rattle.std.proofs.Math.Path.{sym}
use Rattle.slot.specs.declared.Pair.{Pair}
use Rattle.slot.specs.Pair.{rank, before, same, least}
use Rattle.slot.specs.Order.{before_below, below_before, above_not_before, same_level}
use Rattle.rules.specs.Tree.{Level, Tree}
use Rattle.rules.specs.Listing.{held_between}
use Rattle.entries.specs.Ascending.{From, AllFrom}
use Rattle.entries.specs.Skip.{skip, skip_all, skip_on, skip_stops}
use Rattle.listing.specs.Merge.{past, past_all, entry_count}

-- Where no entry is before a pair the levels from that pair on are the whole.
skip_none : (p : Pair) (es : Level) → From (rank p) es → skip p es ≡ es
unfolding From skip
skip_none p [] a = refl
skip_none p (e ∷ es) a = skip_stops p e es (above_not_before e.pair p a.0)

pub skip_all_none : (p : Pair) (t : Tree) → AllFrom (rank p) t → skip_all p t ≡ t
unfolding AllFrom skip_all
skip_all_none p [] a = refl
skip_all_none p (es ∷ t) a = ap₂ (λ (x : Level) (y : Tree). x ∷ y) (skip_none p es a.0) (skip_all_none p t a.1)

-- A pair before it may be gone first.
skip_gone : (p q : Pair) (es : Level) → before q p ≡ true → skip p (past q es) ≡ skip p es
unfolding past
skip_gone p q [] b = refl
skip_gone p q (e ∷ es) b = by_pair (same q e.pair) refl
  where
    by_pair : (s : Bool) → same q e.pair ≡ s → skip p (elim s [ true ↦ es | false ↦ e ∷ es ]) ≡ skip p (e ∷ es)
    by_pair true x = sym (skip_on p e es (below_before e.pair p (omega (arith, before_below q p b, same_level q e.pair x))))
    by_pair false x = refl

pub skip_all_gone : (p q : Pair) (t : Tree) → before q p ≡ true → skip_all p (past_all q t) ≡ skip_all p t
unfolding skip_all past_all
skip_all_gone p q [] b = refl
skip_all_gone p q (es ∷ t) b = ap₂ (λ (x : Level) (y : Tree). x ∷ y) (skip_gone p q es b) (skip_all_gone p q t b)

-- What a tree keeps of another: its held pairs up to the second are the range's, its levels ascend, and it has no more entries.
pub record Keeps (first second : Pair) (t u : Tree) : Type 0 where
  pub pairs : held_between first second t ≡ held_between least second u
  pub ascends : AllFrom 0 u
  pub fewer : entry_count u ≤ entry_count t
