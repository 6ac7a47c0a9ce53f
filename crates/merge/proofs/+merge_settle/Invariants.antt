-- `merge` and `settle` call each other; the number of levels below falls at each round.
use Rattle.std.proofs.Common.{◌+◌, ◌-◌, ◌*◌}
use Rattle.merge.proofs.+merge_settle.Given as goal

abbrev pub decreases-merge : goal.decreases-merge
decreases-merge l = 2 * (l.g.levels - l.level)

abbrev pub decreases-settle : goal.decreases-settle
decreases-settle l = 2 * (l.g.levels - l.level) + 1
