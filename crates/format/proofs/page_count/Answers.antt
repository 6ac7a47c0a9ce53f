-- `page_count` is the page count of a level of the empty tree: one page where the level exists. Assumes nothing.
use mathlib.Core.Path.{sym, ◌∙◌}
use native.Mathlib.Omega.{arith}
use Rattle.stored.specs.Parts.{page_count_lem, no_page_count}
use Rattle.format.specs.Empty.{empty_slots, row_one_page}
use Rattle.format.proofs.page_count.Goals as goal

pub returns-then-level-g : goal.returns-then-level-g
returns-then-level-g c =
    let a = c.args in
    let g = a.g in
    let i = a.level in
    sym (page_count_lem g (empty_slots g) i c.if-level-g.true ∙ row_one_page g c.requires i c.if-level-g.true)

pub returns-else-level-g : goal.returns-else-level-g
returns-else-level-g c =
    let a = c.args in
    let g = a.g in
    let i = a.level in
    sym (no_page_count g (empty_slots g) i (omega arith))
