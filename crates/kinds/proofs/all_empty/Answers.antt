-- `all_empty` tells so of four runs, from what `is_empty` ensures. Assumes nothing.
use Rattle.kinds.specs.Below.{all_none}
use borrow.Author.Rules.{rules}
use Rattle.kinds.proofs.all_empty.Goals as goal

pub returns : goal.returns
returns c =
    let a = c.args in
    let empty = c.map-empty.result in
    all_none a.words.now a.runs empty.head empty.first empty.second empty.third (search rules) (search rules) (search rules) (search rules)
