-- `scan_page` gives the pass over a page, each tag tested by `is_legal`. Assumes nothing.
use Rattle.page.specs.Tag.{legal_below}
use borrow.Author.Rules.{rules}
use Rattle.page.proofs.scan_page.Goals as goal

pub returns : goal.returns
unfolding legal_below
returns c = c.scan_slots.ensures (legal_below c.args.below) (λ d s b tells. search rules)
