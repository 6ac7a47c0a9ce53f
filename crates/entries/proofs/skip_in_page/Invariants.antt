-- `skip_in_page` skips a page's slots. The loop's invariant: from here on the page comes to the same. Assumes nothing.
use Rattle.std.specs.Prelude.{◌≡◌}
use Rattle.entries.specs.Skip.{skip, page_from}
use Rattle.entries.proofs.skip_in_page.Given as goal

abbrev pub invariant-loop-slot : goal.invariant-loop-slot
invariant-loop-slot l = skip l.pair (page_from l.words l.run l.page.0 l.slot) ≡ skip l.pair (page_from l.words l.run l.page.0 l.fn.from.0)
