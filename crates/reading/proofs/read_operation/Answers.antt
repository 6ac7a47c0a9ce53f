-- `read_operation` tells the operation that a line's bytes name, where the line ends near. Assumes nothing.
use Rattle.reading.specs.Values.{faulty_line, named_line}
use Rattle.reading.specs.Near.{near_told}
use Rattle.reading.proofs.read_operation.Goals as goal

pub returns-in_err-end : goal.returns-in_err-end
returns-in_err-end c =
    let a = c.args in
    rw c.from_residual.ensures (rw c.in_err-end.was at (near_told a.input.now a.at _ c.min.ensures _ c.line_end.ensures))

pub returns-in_err-operation : goal.returns-in_err-operation
returns-in_err-operation c =
    let a = c.args in
    let ends = rw c.in_ok-end.was at (near_told a.input.now a.at _ c.min.ensures _ c.line_end.ensures) in
    rw c.from_residual-in_err-operation.ensures (faulty_line a.input.now a.at _ ends.1 ends.0 (rw c.in_err-operation.was at c.operation_named.ensures))

pub returns : goal.returns
returns c =
    let a = c.args in
    let ends = rw c.in_ok-end.was at (near_told a.input.now a.at _ c.min.ensures _ c.line_end.ensures) in
    named_line a.input.now a.at _ ends.1 ends.0 c.in_ok-operation.operation (rw c.in_ok-operation.was at c.operation_named.ensures)
