-- `begins` tells what the library's test tells. Assumes nothing.
use Rattle.std.proofs.Common.{drop, ◌∙◌}
use Rattle.std.proofs.lemmas.List.{take_rest}
use Rattle.lines.specs.Comparing.{begins_told}
use Rattle.lines.proofs.begins.Goals as goal

pub returns : goal.returns
returns c =
    let a = c.args in
    (rw (take_rest a.input.now a.at) at c.starts_with.ensures.value) ∙ begins_told a.bytes.now (drop a.at a.input.now)
