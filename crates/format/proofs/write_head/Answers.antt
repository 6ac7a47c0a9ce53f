-- `write_head` erases all words, then stores the directory and the head's fence, from what its three calls ensure. Assumes nothing.
use Rattle.format.specs.Formatting.{head_written}
use borrow.Author.Rules.{rules}
use Rattle.format.proofs.write_head.Goals as goal

pub returns : goal.returns
unfolding head_written
returns c =
    rw (c.write_fence.ensures, c.write_directory.ensures, c.erase.ensures)
