-- `kind_of` gives the kind that the remainder by 4 names. Assumes nothing.
use Rattle.slot.specs.Tag.{named_last, kind_of, kind_named}
use Rattle.std.proofs.Common.{◌%◌, arith}
use Rattle.slot.proofs.kind_of.Goals as goal

pub returns-in-0 : goal.returns-in-0
unfolding kind_of kind_named
returns-in-0 c = rw c.in-0.is

pub returns-in-1 : goal.returns-in-1
unfolding kind_of kind_named
returns-in-1 c = rw c.in-1.is

pub returns-in-2 : goal.returns-in-2
unfolding kind_of kind_named
returns-in-2 c = rw c.in-2.is

pub returns-in_default : goal.returns-in_default
unfolding kind_of
returns-in_default c = named_last (c.args.tag % 4) (omega arith) (omega arith) (omega arith)
