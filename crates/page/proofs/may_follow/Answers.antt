-- `may_follow` tells whether a rank may follow the last one. Assumes nothing.
use Rattle.page.specs.Scan.{may_follow}
use Rattle.page.proofs.may_follow.Goals as goal

pub returns : goal.returns
unfolding may_follow
returns c = rw (c.either.ensures, c.both.ensures)
