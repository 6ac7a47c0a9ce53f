-- `count_entries` counts the index entries of a run, page by page. Assumes nothing.
use native.Mathlib.Omega.{arith}
use Rattle.edit.specs.Counts.{pages_begin, pages_go_on, pages_end}
use Rattle.edit.proofs.count_entries.Goals as goal

pub loop-page-init : goal.loop-page-init
loop-page-init c = pages_begin _ _

pub count_in_page-count-requires : goal.count_in_page-count-requires
count_in_page-count-requires c = record {
  inside = c.requires;
  page_lt_pages = c.loop-page-test.true;
}

pub overflow_add-count : goal.overflow_add-count
overflow_add-count c =
    let loop = c.loop-page in
    omega (arith, loop.invariant.few, loop.invariant.inside, c.requires.few_pages, c.count_in_page-count.ensures.few)

pub loop-page-preserved : goal.loop-page-preserved
loop-page-preserved c =
    let a = c.args in
    pages_go_on a.words.now a.run _ _ _ c.loop-page-test.true c.count_in_page-count.ensures.exact c.count_in_page-count.ensures.few c.loop-page.invariant

pub returns : goal.returns
returns c =
    let a = c.args in
    pages_end a.words.now a.run _ _ c.loop-page-test.false c.loop-page.invariant
