-- Merges against requests: a call merges into each level from 1 to its deepest, once, and each merge is paid for by entries that accepted
-- requests brought. Assumes nothing.
use Rattle.std.specs.Prelude.{ℕ, suc, ◌+◌, ◌≤◌, ◌≡◌, refl, cond, leb}
use Rattle.std.proofs.Common.{le-leb}
use native.Mathlib.Omega.{arith}
use mathlib.Core.List.{List, [], ◌∷◌}
use Rattle.std.proofs.lemmas.Bool.{lt-leb}
use Rattle.rules.specs.Merging.{Outcome}

-- Whether a call that goes down to a deepest level merges into level i: 1 or 0. So many of some calls do.
unfoldable pub once : ℕ → ℕ → ℕ
once i deepest = cond (leb i deepest) 1 0

unfoldable pub merges_into : ℕ → List Outcome → ℕ
merges_into i [] = 0
merges_into i (o ∷ os) = once i o.deepest + merges_into i os

pub once_some : (i deepest : ℕ) → i ≤ deepest → once i deepest ≡ 1
unfolding once
once_some i deepest h = rw (le-leb i deepest h) refl

pub once_none : (i : ℕ) → once (suc i) 0 ≡ 0
unfolding once
once_none i = rw (lt-leb (suc i) 0 (omega arith)) refl
