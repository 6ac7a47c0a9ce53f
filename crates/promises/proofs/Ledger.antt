-- Merges against requests: a call merges into each level from 1 to its deepest, once, and each merge is paid for by entries that accepted
-- requests brought. Assumes nothing.
use Rattle.std.specs.Prelude.{ℕ, suc, ◌+◌, ◌*◌, ◌/◌, ◌≤◌, ◌≡◌, refl, Bool, true, false, cond, length, leb}
use Rattle.std.proofs.Math.Nat.{add-mul}
use Rattle.std.proofs.Common.{le-div_iff_mul-le, leb-true}
use native.Mathlib.Omega.{arith}
use mathlib.Core.List.{List, [], ◌∷◌}
use Rattle.geometry.specs.declared.Geometry.{Geometry}
use Rattle.geometry.specs.Geometry.{InRange, bottom, capacity}
use Rattle.geometry.specs.Bounds.{capacity_least}
use Rattle.rules.specs.Tree.{Entry, Tree}
use Rattle.rules.specs.Merging.{settle, toggle_head, edit, State, formatted, Outcome, refused, done}
use Rattle.rules.specs.Good.{Good}
use Rattle.rules.specs.Requests.{Request, step, run, final, accepted, RequestsFit}
use Rattle.good.specs.Format.{formatted_good}
use Rattle.promises.specs.Calls.{ComesTo, refusal, edited, step_comes, step_good, refused_counts, done_counts}
use Rattle.promises.specs.Entries.{entries_above, settle_entries, settle_takes, toggled_entries, formatted_entries}
use Rattle.promises.specs.Ledger.{merges_into, once, once_none}

-- An edit of the head, settled: its merge of level i on is paid for by the entries that leave level i and those above it.
edit_ledger : (g : Geometry) (i : ℕ) (e : Entry) (t : Tree) →
    entries_above (suc i) (edit g e t).tree + once (suc i) (edit g e t).deepest * capacity g i ≤ entries_above (suc i) t + 1
unfolding edit once
edit_ledger g i e t = told (leb (suc i) deepest) refl
  where
    u : Tree
    u = toggle_head e t

    deepest : ℕ
    deepest = (settle g (bottom g) 0 u).deepest

    told : (b : Bool) → leb (suc i) deepest ≡ b → entries_above (suc i) (settle g (bottom g) 0 u).tree + cond b 1 0 * capacity g i ≤ entries_above (suc i) t + 1
    told true d = omega (arith, settle_takes g i (bottom g) 0 u (omega arith) (leb-true (suc i) deepest d), toggled_entries (suc i) e t)
    told false d = omega (arith, settle_entries g (suc i) (bottom g) 0 u, toggled_entries (suc i) e t)

-- The merges of level i on, and the entries left in it and above it, against the entries there were and the requests accepted.
module _ (g : Geometry) (i : ℕ) where
  step_ledger : (s : State) (o : Outcome) (os : List Outcome) → ComesTo g s o →
      entries_above (suc i) o.after.tree + once (suc i) o.deepest * capacity g i + length (accepted os) ≤ entries_above (suc i) s.tree + length (accepted (o ∷ os))
  unfolding refused done
  step_ledger s o os (refusal n e) = rw (e, refused_counts s n os, once_none i) (omega arith)
  step_ledger s o os (edited live e d c) = rw (d, done_counts live (edit g e s.tree) os) (omega (arith, edit_ledger g i e s.tree))

  run_ledger : InRange g → (rs : List Request) (s : State) → RequestsFit rs → Good g s →
      entries_above (suc i) (final s (run g s rs)).tree + merges_into (suc i) (run g s rs) * capacity g i ≤
      entries_above (suc i) s.tree + length (accepted (run g s rs))
  unfolding run final merges_into RequestsFit
  run_ledger fit [] s w good = omega arith
  run_ledger fit (r ∷ rs) s w good =
      let o = step g r s in
      let os = run g o.after rs in
      omega (
        arith,
        step_ledger s o os (step_comes g fit r s w.0 good),
        run_ledger fit rs o.after w.1 (step_good g fit r s w.0 good),
        add-mul (once (suc i) o.deepest) (merges_into (suc i) os) (capacity g i),
      )

-- So in n accepted requests from a formatted store level i is merged on at most n divided by cap(i) times.
pub merges_few : (g : Geometry) → InRange g → (i : ℕ) (rs : List Request) → RequestsFit rs →
    let os = run g (formatted g) rs in
    merges_into (suc i) os ≤ length (accepted os) / capacity g i
merges_few g fit i rs w =
    (le-div_iff_mul-le (capacity_least g fit i)).1
    (omega (arith, run_ledger g i fit rs (formatted g) w (formatted_good g fit), formatted_entries g (suc i)))
