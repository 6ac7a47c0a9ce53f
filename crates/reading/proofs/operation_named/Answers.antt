-- `operation_named` tells the operation that the bytes of a line name: each way out by the text that they are. Assumes nothing.
use Rattle.std.proofs.Common.{sym, ◌∙◌}
use Rattle.reading.specs.Values.{operation_put, operation_drop, operation_ask, operation_none}
use Rattle.reading.proofs.operation_named.Goals as goal

pub returns-then-eq : goal.returns-then-eq
returns-then-eq c = operation_put c.args.line.now (sym c.eq.ensures ∙ c.if-eq.true)

pub returns-then-eq-2 : goal.returns-then-eq-2
returns-then-eq-2 c = operation_drop c.args.line.now (sym c.eq.ensures ∙ c.if-eq.false) (sym c.eq-else-eq.ensures ∙ c.if-eq-2.true)

pub returns-then-eq-3 : goal.returns-then-eq-3
returns-then-eq-3 c = operation_ask c.args.line.now (sym c.eq.ensures ∙ c.if-eq.false) (sym c.eq-else-eq.ensures ∙ c.if-eq-2.false) (sym c.eq-else-eq-2.ensures ∙ c.if-eq-3.true)

pub returns-else-eq-3 : goal.returns-else-eq-3
returns-else-eq-3 c = operation_none c.args.line.now (sym c.eq.ensures ∙ c.if-eq.false) (sym c.eq-else-eq.ensures ∙ c.if-eq-2.false) (sym c.eq-else-eq-2.ensures ∙ c.if-eq-3.false)
