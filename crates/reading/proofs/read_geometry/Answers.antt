-- `read_geometry` tells the geometry from the first three lines, or the first of them that is faulty. Assumes nothing.
use Rattle.std.proofs.Common.{rules, ◌≡◌, arith, None, Some, Err}
use Rattle.geometry.specs.Lent.{plan_words}
use Rattle.reading.specs.Judging.{headless, ratioless, levelless, read_in_range, too_long, headed}
use Rattle.reading.proofs.read_geometry.Goals as goal

pub returns-in_err-head : goal.returns-in_err-head
returns-in_err-head c =
    let none : c.read_ranged.result ≡ None = search rules in
    let told : c.from_residual.result ≡ Err 1 = search rules in
    rw told (headless c.args.input.now (rw none at c.read_ranged.ensures))

pub returns-in_err-ratio : goal.returns-in_err-ratio
returns-in_err-ratio c =
    let head : c.read_ranged.result ≡ Some (c.in_ok-head.head, c.in_ok-head.ratio_at) = search rules in
    let none : c.read_ranged-2.result ≡ None = search rules in
    let told : c.from_residual-in_err-ratio.result ≡ Err 2 = search rules in
    rw told (ratioless c.args.input.now _ _ (rw head at c.read_ranged.ensures) (rw none at c.read_ranged-2.ensures))

pub returns-in_err-levels : goal.returns-in_err-levels
returns-in_err-levels c =
    let head : c.read_ranged.result ≡ Some (c.in_ok-head.head, c.in_ok-head.ratio_at) = search rules in
    let ratio : c.read_ranged-2.result ≡ Some (c.in_ok-ratio.ratio, c.in_ok-ratio.levels_at) = search rules in
    let none : c.read_ranged-3.result ≡ None = search rules in
    let told : c.from_residual-in_err-levels.result ≡ Err 3 = search rules in
    rw told (levelless c.args.input.now _ _ (rw head at c.read_ranged.ensures) _ _ (rw ratio at c.read_ranged-2.ensures) (rw none at c.read_ranged-3.ensures))

pub plan_for-plan-requires : goal.plan_for-plan-requires
plan_for-plan-requires c =
    let head : c.read_ranged.result ≡ Some (c.in_ok-head.head, c.in_ok-head.ratio_at) = search rules in
    let ratio : c.read_ranged-2.result ≡ Some (c.in_ok-ratio.ratio, c.in_ok-ratio.levels_at) = search rules in
    let levels : c.read_ranged-3.result ≡ Some (c.in_ok-levels.levels, c.in_ok-levels.next) = search rules in
    read_in_range c.args.input.now _ _ (rw head at c.read_ranged.ensures) _ _ (rw ratio at c.read_ranged-2.ensures) _ _ (rw levels at c.read_ranged-3.ensures)

pub returns-then-plan-gt-MOST_WORDS : goal.returns-then-plan-gt-MOST_WORDS
returns-then-plan-gt-MOST_WORDS c =
    let head : c.read_ranged.result ≡ Some (c.in_ok-head.head, c.in_ok-head.ratio_at) = search rules in
    let ratio : c.read_ranged-2.result ≡ Some (c.in_ok-ratio.ratio, c.in_ok-ratio.levels_at) = search rules in
    let levels : c.read_ranged-3.result ≡ Some (c.in_ok-levels.levels, c.in_ok-levels.next) = search rules in
    too_long c.args.input.now _ _ (rw head at c.read_ranged.ensures) _ _ (rw ratio at c.read_ranged-2.ensures) _ _ (rw levels at c.read_ranged-3.ensures) (omega (arith, plan_words _ _ c.plan_for-plan.ensures.exact))

pub returns : goal.returns
returns c =
    let head : c.read_ranged.result ≡ Some (c.in_ok-head.head, c.in_ok-head.ratio_at) = search rules in
    let ratio : c.read_ranged-2.result ≡ Some (c.in_ok-ratio.ratio, c.in_ok-ratio.levels_at) = search rules in
    let levels : c.read_ranged-3.result ≡ Some (c.in_ok-levels.levels, c.in_ok-levels.next) = search rules in
    headed c.args.input.now _ _ (rw head at c.read_ranged.ensures) _ _ (rw ratio at c.read_ranged-2.ensures) _ _ (rw levels at c.read_ranged-3.ensures) (omega (arith, plan_words _ _ c.plan_for-plan.ensures.exact))
