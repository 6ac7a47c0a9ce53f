-- `head_step` gives what the head tells, from what the pass over it told. Assumes nothing.
use Rattle.fault.specs.declared.Part.TheVariants.{Head}
use mathlib.Core.Path.{ap, ◌∙◌}
use Rattle.geometry.proofs.Lent.{head_lent}
use Rattle.form.specs.declared.HeadRead.{HeadRead}
use Rattle.form.specs.Passes.{head_unflawed}
use Rattle.walk.specs.Read.{head_broken, head_first, head_some, head_reach_small, head_tells, head_within}
use native.Mathlib.Omega.{arith}
use Rattle.walk.proofs.head_step.Goals as goal

pub tell_above-requires : goal.tell_above-requires
tell_above-requires c =
    let a = c.args in
    let s = a.store.now in
    let right = head_unflawed s.geometry s.words.now a.asked c.requires c.in-Ok.is in record {
      le_reach = (
        rw c.requires (head_some s.geometry s.words.now a.asked right),
        omega (arith, ap (λ (h : HeadRead). h.reach) c.requires, head_reach_small s.geometry s.words.now a.asked right, head_lent s.geometry s.plan s.words.now s.lent),
      );
      place_value = head_first s.geometry s.words.now a.asked right;
    }

pub returns-in-Err : goal.returns-in-Err
returns-in-Err c =
    let s = c.args.store.now in record {
      exact = head_broken s.geometry s.words.now c.args.asked c.requires c.in-Err.is;
      within = tt;
    }

pub returns-in-Ok : goal.returns-in-Ok
returns-in-Ok c =
    let a = c.args in
    let s = a.store.now in
    let right = head_unflawed s.geometry s.words.now a.asked c.requires c.in-Ok.is in record {
      exact = c.tell_above.ensures Head 0 0 ∙ rw c.requires (head_tells s.geometry s.words.now a.asked right);
      within = rw (c.tell_above.ensures Head 0 0, c.requires) (head_within s.geometry s.words.now a.asked right);
    }
