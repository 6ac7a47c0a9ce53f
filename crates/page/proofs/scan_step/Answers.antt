-- `scan_step` gives the pass with one slot more, field by field from what its calls ensure. Assumes nothing.
use Rattle.page.specs.Scan.{stepped}
use Rattle.page.proofs.scan_step.Goals as goal

pub returns : goal.returns
unfolding stepped
returns c = rw (c.one_if-4.ensures.exact, c.comes_before.ensures, c.one_if-3.ensures.exact, c.one_if-2.ensures.exact, c.one_if.ensures.exact, c.both-formed.ensures, c.both-fits.ensures, c.may_follow.ensures, c.is_fence-fence.ensures, c.rank_of-rank.ensures)
