-- `pages_filled` tells whether pages are filled left to right. The invariant: the pages are full exactly if those from here on are. Assumes nothing.
use mathlib.Core.Path.{◌≡◌, refl, ◌∙◌}
use Rattle.layout.specs.Words.{count_of}
use Rattle.layout.specs.Pages.{last_count}
use Rattle.written.specs.Tested.{filled, full_passes, full_stops, full_ends}
use native.Mathlib.Omega.{arith}
use Rattle.written.proofs.pages_filled.Goals as goal

pub returns-then-words-start-ne-PAGE_SLOTS : goal.returns-then-words-start-ne-PAGE_SLOTS
unfolding filled count_of
returns-then-words-start-ne-PAGE_SLOTS c = rw (c.loop-p.invariant ∙ full_stops _ _ _ _ c.loop-p-test.true c.if-words-start-ne-PAGE_SLOTS.true) refl

pub loop-p-preserved : goal.loop-p-preserved
unfolding count_of
loop-p-preserved c =
    let passed : count_of c.args.words.now c.args.start c.loop-p.p ≡ 21 = omega arith in
    c.loop-p.invariant ∙ full_passes _ _ _ _ c.loop-p-test.true passed

pub returns : goal.returns
unfolding filled last_count count_of
returns c = rw (c.loop-p.invariant ∙ full_ends _ _ _ _ c.loop-p-test.false) c.last_right.ensures
