-- `begin` formats zeros, and no call has been made. Assumes nothing.
use Rattle.sheet_calls.specs.First.{begins}
use Rattle.sheet_calls.proofs.begin.Goals as goal

pub returns : goal.returns
returns c =
    let told = c.format in
    begins c.args.g c.requires.in_range told.result c.args.store.now _ c.requires.store_value told.ensures
