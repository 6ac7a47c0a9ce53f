-- `skip_to` skips a run's entries page by page. The loop's invariant: from here on the run comes to the same. Assumes nothing.
use Rattle.std.specs.Prelude.{◌-◌, ◌≡◌}
use Rattle.entries.specs.Run.{rest_from}
use Rattle.entries.specs.Skip.{skip}
use Rattle.entries.specs.Spot.{upcoming}
use Rattle.entries.proofs.skip_to.Given as goal

abbrev pub invariant-loop-page : goal.invariant-loop-page
invariant-loop-page l = skip l.pair (rest_from l.words l.run l.page l.slot.0 (l.run.pages - l.page)) ≡ skip l.pair (upcoming l.words l.run l.fn.from)
