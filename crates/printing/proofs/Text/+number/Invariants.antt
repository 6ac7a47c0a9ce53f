-- The number falls at each call.
use Rattle.printing.proofs.Text.+number.Given as goal

abbrev pub decreases-number : goal.decreases-number
decreases-number l = l.n
