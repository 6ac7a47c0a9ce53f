-- `write_directory` stores the nine words of the empty tree's directory, its page counts from what `page_count` ensures. Assumes nothing.
use Rattle.rules.specs.Store.{directory}
use Rattle.format.specs.Empty.{row_head}
use lib.ListN.{length-set}
use native.Mathlib.Omega.{arith}
use borrow.Author.Rules.{rules}
use Rattle.format.proofs.write_directory.Goals as goal

pub returns : goal.returns
unfolding directory
returns c =
    let g = c.args.g in
    rw (
      ← c.page_count.ensures,
      ← c.page_count-2.ensures,
      ← c.page_count-3.ensures,
      row_head g c.requires.in_range,
    )
