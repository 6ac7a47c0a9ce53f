-- `count_run` adds up the counts of a run's pages. The loop's invariant: the pages left complete the counts. Assumes nothing.
use Rattle.kinds.specs.KindCounts.{run_begun, counted_page, run_counted, run_small}
use native.Mathlib.Omega.{arith}
use Rattle.kinds.proofs.count_run.Goals as goal

pub loop-page-init : goal.loop-page-init
loop-page-init c = run_begun _ _

pub overflow_add-normal : goal.overflow_add-normal
overflow_add-normal c =
    let a = c.args in
    let loop = c.loop-page in
    let w = a.words.now in
    let so = counted_page w a.run loop.page loop.normal loop.filters loop.invariant c.count_page-counts.result c.loop-page-test.true c.count_page-counts.ensures in
    omega (arith, (run_small w a.run _ _ _ so _ c.requires).few_normal)

pub overflow_add-filters : goal.overflow_add-filters
overflow_add-filters c =
    let a = c.args in
    let loop = c.loop-page in
    let count-page = c.count_page-counts in
    let w = a.words.now in
    let so = counted_page w a.run loop.page loop.normal loop.filters loop.invariant count-page.result c.loop-page-test.true count-page.ensures in
    omega (arith, (run_small w a.run _ _ _ so _ c.requires).few_filters)

pub loop-page-preserved : goal.loop-page-preserved
loop-page-preserved c =
    let a = c.args in
    let loop = c.loop-page in
    let count-page = c.count_page-counts in
    counted_page a.words.now a.run loop.page loop.normal loop.filters loop.invariant count-page.result c.loop-page-test.true count-page.ensures

pub returns : goal.returns
returns c =
    let a = c.args in
    let loop = c.loop-page in record {
      exact = run_counted a.words.now a.run loop.page _ _ loop.invariant c.loop-page-test.false;
      small = run_small a.words.now a.run loop.page _ _ loop.invariant _ c.requires;
    }
