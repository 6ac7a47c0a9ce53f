-- Condition 2 on the rules, of lists: the held pairs from a first to a second are those of the plain set, in the same order.
-- Assumes nothing.
use Rattle.std.specs.Prelude.{◌≡◌, List, []}
use Rattle.laws.specs.Lists.{passing}
use Rattle.geometry.specs.declared.Geometry.{Geometry}
use Rattle.geometry.specs.Geometry.{InRange, most}
use Rattle.slot.specs.declared.Pair.{Pair}
use Rattle.rules.specs.Merging.{formatted}
use Rattle.rules.specs.Listing.{held_between}
use Rattle.rules.specs.Requests.{Request, run, final, RequestsFit}
use Rattle.promises.specs.Answers.{answers, set_after}
use Rattle.promises.proofs.Sets.{run_holds}
use Rattle.promises.specs.Listed.{between, holds_lists}

-- So after any requests from a formatted store.
pub run_lists : (g : Geometry) → InRange g → (rs : List Request) → RequestsFit rs → (first second : Pair) →
    held_between first second (final (formatted g) (run g (formatted g) rs)).tree ≡ passing (between first second) (set_after [] (answers (most g) [] rs))
run_lists g fit rs w = holds_lists g (final (formatted g) (run g (formatted g) rs)) (set_after [] (answers (most g) [] rs)) (run_holds g fit rs w)
