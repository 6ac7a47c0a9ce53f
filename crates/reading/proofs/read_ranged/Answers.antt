-- `read_ranged` tells the number behind a line's name where it is in a range. Assumes nothing.
use Rattle.std.proofs.Common.{length, rules, tests, ◌≡◌}
use Rattle.geometry.specs.Geometry.{between}
use Rattle.reading.specs.Values.{ranged_told}
use Rattle.reading.proofs.read_ranged.Goals as goal

pub returns : goal.returns
unfolding between
returns c =
    let a = c.args in
    let read = rw c.in_ok-n.was at c.read_value.ensures in
    let inside : c.contains.result ≡ between a.least a.most c.in_ok-n.n = search (rules, tests) in
    rw c.then_some.ensures (ranged_told a.input.now a.at (length a.name.now) a.least a.most a.name.now c.in_ok-n.n c.in_ok-n.next read c.contains.result inside)
