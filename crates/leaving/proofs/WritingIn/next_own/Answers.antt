-- `next_own` gives the next entry or the internal fence before it (specs/Ahead.antt). Assumes nothing.
use native.Mathlib.Omega.{arith}
use mathlib.Core.Path.{sym, ◌∙◌}
use Rattle.entries.specs.Spot.{next_fits}
use Rattle.leaving.specs.Along.{own_inside}
use Rattle.leaving.specs.Ahead.{follows_inner, follows_entry}
use Rattle.leaving.proofs.WritingIn.next_own.Goals as goal

pub returns-then-fenced_at : goal.returns-then-fenced_at
returns-then-fenced_at c =
    let pre = c.requires in
    follows_inner _ _ _ _ _ pre.standing _ pre.comes _ (sym c.fenced_at.ensures ∙ c.if-fenced_at.true) c.inner_fence.ensures

pub overflow_add-coming : goal.overflow_add-coming
overflow_add-coming c =
    let pre = c.requires in
    omega (arith, next_fits _ _ _ _ (own_inside _ _ c.args.self.now.within) pre.standing pre.comes.there)

pub returns : goal.returns
returns c =
    let pre = c.requires in
    follows_entry _ _ _ _ _ pre.standing _ pre.comes _ (sym c.fenced_at.ensures ∙ c.if-fenced_at.false) c.index_of.ensures _ _ c.least_pair.ensures
    c.skip_to.ensures.told c.skip_to.ensures.standing
