-- What a request comes to on a good state, and that any requests from a formatted store reach good states. Assumes nothing.
use Rattle.std.specs.Prelude.{ℕ, suc, ◌+◌, ◌-◌, ◌≡◌, refl, Bool, true, false, ltb, eqb}
use Rattle.std.proofs.Common.{arith, ltb-true, ne_eqb}
use mathlib.Core.List.{List, [], ◌∷◌}
use Rattle.laws.specs.Lists.{passing_yes, passing_no}
use Rattle.geometry.specs.declared.Geometry.{Geometry}
use Rattle.geometry.specs.Geometry.{InRange, most}
use Rattle.slot.specs.declared.Pair.{Pair}
use Rattle.slot.specs.Pair.{Words}
use Rattle.rules.specs.Tree.{Entry}
use Rattle.rules.specs.Finding.{held}
use Rattle.rules.specs.Merging.{Settled, toggle_head, edit, State, formatted, Outcome, refused, done, put, remove}
use Rattle.rules.specs.Good.{Good, Cascading}
use Rattle.rules.specs.Requests.{Request, putting, dropping, step, run, final, accepted, pair_in, RequestsFit}
use Rattle.good.specs.Edit.{entry}
use Rattle.good.proofs.Edit.{put_cascading, drop_cascading}
use Rattle.good.specs.Calls.{put_held, put_full, put_done, remove_missing, remove_done}
use Rattle.good.proofs.Calls.{put_good, remove_good}
use Rattle.good.specs.Format.{formatted_good}

-- A refusal that changes nothing, or an edit of the head from which a cascade may begin.
pub data ComesTo (g : Geometry) (s : State) (o : Outcome) : Type 0 where
  refusal : (n : ℕ) → o ≡ refused (suc n) s → ComesTo g s o
  edited : (live : ℕ) (e : Entry) → o ≡ done live (edit g e s.tree) → Cascading g 0 (record { live = live; tree = toggle_head e s.tree }) → ComesTo g s o

-- A refusal is not among the accepted ones, and what is done is.
pub refused_counts : (s : State) (n : ℕ) (os : List Outcome) → accepted (refused (suc n) s ∷ os) ≡ accepted os
unfolding accepted refused
refused_counts s n os = passing_no (λ o. eqb o.reply 0) (refused (suc n) s) os (ne_eqb (suc n) 0 (λ e. omega (arith, e)))

pub done_counts : (live : ℕ) (t : Settled) (os : List Outcome) → accepted (done live t ∷ os) ≡ done live t ∷ accepted os
unfolding accepted done
done_counts live t os = passing_yes (λ o. eqb o.reply 0) (done live t) os refl

module _ (g : Geometry) (fit : InRange g) where
  module _ (p : Pair) (w : Words p) (s : State) (good : Good g s) where
    put_comes : ComesTo g s (put g p s)
    put_comes = told (held p s.tree) (ltb s.live (most g)) refl refl
      where
        told : (h l : Bool) → held p s.tree ≡ h → ltb s.live (most g) ≡ l → ComesTo g s (put g p s)
        told true l e k = refusal 1 (put_held g p s e)
        told false false e k = refusal 3 (put_full g p s e k)
        told false true e k =
            edited (s.live + 1) (entry p true) (put_done g p s e k) (put_cascading g fit p s good w e (ltb-true s.live (most g) k))

    remove_comes : ComesTo g s (remove g p s)
    remove_comes = told (held p s.tree) refl
      where
        told : (h : Bool) → held p s.tree ≡ h → ComesTo g s (remove g p s)
        told false e = refusal 2 (remove_missing g p s e)
        told true e = edited (s.live - 1) (entry p false) (remove_done g p s e) (drop_cascading g fit p s good w e)

  pub step_comes : (r : Request) (s : State) → Words (pair_in r) → Good g s → ComesTo g s (step g r s)
  unfolding step
  step_comes (putting p) s w good = put_comes p w s good
  step_comes (dropping p) s w good = remove_comes p w s good

  pub step_good : (r : Request) (s : State) → Words (pair_in r) → Good g s → Good g (step g r s).after
  unfolding step
  step_good (putting p) s w good = put_good g fit p w s good
  step_good (dropping p) s w good = remove_good g fit p w s good

  -- From any good state on.
  pub final_good : (rs : List Request) (s : State) → RequestsFit rs → Good g s → Good g (final s (run g s rs))
  unfolding run final RequestsFit
  final_good [] s w good = good
  final_good (r ∷ rs) s w good = final_good rs (step g r s).after w.1 (step_good r s w.0 good)

  pub run_good : (rs : List Request) → RequestsFit rs → Good g (final (formatted g) (run g (formatted g) rs))
  run_good rs w = final_good rs (formatted g) w (formatted_good g fit)
