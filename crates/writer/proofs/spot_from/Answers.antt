-- `spot_from` skips no entry, from what `skip_to` ensures. Assumes nothing.
use Rattle.writer.specs.Joining.{reached}
use borrow.Author.Rules.{rules}
use Rattle.writer.proofs.spot_from.Goals as goal

pub returns : goal.returns
returns c = reached _ _ _ _ _ c.least_pair.ensures c.skip_to.ensures.told c.skip_to.ensures.standing
