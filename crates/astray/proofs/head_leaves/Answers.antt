-- `head_leaves` is where the first slot of the head's writing does not stand (specs/Places.antt). Assumes nothing.
use mathlib.Core.Path.{◌∙◌}
use Rattle.astray.specs.Places.{head_within, head_told}
use Rattle.astray.proofs.head_leaves.Goals as goal

pub leaves-requires : goal.leaves-requires
leaves-requires c =
    let pre = c.requires in
    head_within _ _ _ c.args.store.now.lent pre.store_value pre.store_value_2 _ c.head_writing.ensures

pub returns : goal.returns
returns c =
    let pre = c.requires in
    c.leaves.ensures ∙ rw c.head_writing.ensures (head_told _ _ _ c.args.store.now.lent pre.store_value pre.store_value_2)
