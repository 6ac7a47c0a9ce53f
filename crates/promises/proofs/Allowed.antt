-- Condition 3 on the rules: over any requests from a formatted store the pages written in all are at most those allowed to the number of
-- accepted ones. Assumes nothing.
use Prim.Native.Nat.{suc, ◌+◌, ◌/◌, ◌≤◌}
use native.Mathlib.Omega.{arith}
use Rattle.std.specs.Prelude.{◌≡◌}
use Rattle.std.proofs.Math.Path.{refl}
use mathlib.Core.List.{List, [], ◌∷◌}
use Rattle.std.proofs.Math.ListN.{length}
use Rattle.laws.specs.Lists.{passing}
use Rattle.geometry.specs.declared.Geometry.{Geometry}
use Rattle.geometry.specs.Geometry.{InRange, bottom, capacity}
use Rattle.rules.specs.Merging.{edit, State, formatted, Outcome, refused}
use Rattle.rules.specs.Good.{Good}
use Rattle.rules.specs.Requests.{Request, step, run, accepted, writes, RequestsFit}
use Rattle.rules.specs.Allowance.{allowed}
use Rattle.good.specs.Format.{formatted_good}
use Rattle.promises.specs.Calls.{ComesTo, refusal, edited, step_comes, step_good, refused_counts, done_counts}
use Rattle.promises.specs.Ledger.{once, merges_into}
use Rattle.promises.proofs.Ledger.{merges_few}
use Rattle.promises.proofs.Pages.{step_pages, step_deepest}
use Rattle.promises.specs.Allowed.{allowed_room, both_lots, cascade_once, merge_room, more_levels, more_merges, reported, reported_writes}

module _ (g : Geometry) (fit : InRange g) where
  -- Call by call, the pages written are at most those of the merges.
  written_room : (rs : List Request) (s : State) → RequestsFit rs → Good g s →
      reported (run g s rs) ≤ merge_room g (λ j. merges_into (suc j) (run g s rs)) (bottom g)
  unfolding run reported merges_into RequestsFit
  written_room [] s w good = omega arith
  written_room (r ∷ rs) s w good =
      let o = step g r s in
      let os = run g o.after rs in
      let comes = step_comes g fit r s w.0 good in
      omega (
        arith,
        step_pages g fit s o comes,
        cascade_once g o.deepest o.deepest (omega arith),
        more_levels g (λ j. once (suc j) o.deepest) o.deepest (bottom g) (step_deepest g fit s o comes),
        written_room rs o.after w.1 (step_good g fit r s w.0 good),
        both_lots g (λ j. once (suc j) o.deepest) (λ j. merges_into (suc j) os) (bottom g),
      )

  -- A refusal writes nothing, so these are the pages of the accepted requests.
  step_writes : (s : State) (o : Outcome) (os : List Outcome) → ComesTo g s o → reported (accepted (o ∷ os)) ≡ length o.written + reported (accepted os)
  unfolding reported refused
  step_writes s o os (refusal n e) = rw (e, refused_counts s n os) (omega arith)
  step_writes s o os (edited live e d c) = rw (d, done_counts live (edit g e s.tree) os) refl

  accepted_writes : (rs : List Request) (s : State) → RequestsFit rs → Good g s → reported (accepted (run g s rs)) ≡ reported (run g s rs)
  unfolding run reported accepted passing RequestsFit
  accepted_writes [] s w good = refl
  accepted_writes (r ∷ rs) s w good =
      let o = step g r s in
      let os = run g o.after rs in
      omega (arith, step_writes s o os (step_comes g fit r s w.0 good), accepted_writes rs o.after w.1 (step_good g fit r s w.0 good))

  -- The promise.
  module _ (rs : List Request) (w : RequestsFit rs) where
    abbrev outcomes : List Outcome
    outcomes = run g (formatted g) rs

    pub reported_allowed : reported outcomes ≤ allowed g (length (accepted outcomes))
    unfolding allowed
    reported_allowed =
        let n = length (accepted outcomes) in
        omega (
          arith,
          written_room rs (formatted g) w (formatted_good g fit),
          more_merges g (λ j. merges_into (suc j) outcomes) (λ j. n / capacity g j) (bottom g) (λ j. merges_few g fit j rs w),
          allowed_room g n (bottom g),
        )

    pub writes_allowed : length (writes outcomes) ≤ allowed g (length (accepted outcomes))
    writes_allowed = rw (reported_writes outcomes) reported_allowed

    pub accepted_allowed : reported (accepted outcomes) ≤ allowed g (length (accepted outcomes))
    accepted_allowed = rw (accepted_writes rs (formatted g) w (formatted_good g fit)) reported_allowed
