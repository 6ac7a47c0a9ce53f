-- `edit` tells a change with its counts, and a refusal with zeros. Assumes nothing.
use mathlib.Core.Path.{◌∙◌}
use Rattle.call_put.specs.Edit.{answer_tells}
use Rattle.call_put.proofs.edit.Goals as goal

pub returns-in-Ok : goal.returns-in-Ok
returns-in-Ok c =
    rw c.told.ensures
    (answer_tells c.in-Ok.report c.edit_tested.new.store c.edit_tested.new.work ∙
    rw c.in-Ok.is at c.edit_tested.ensures)

pub returns-in-Err : goal.returns-in-Err
returns-in-Err c = rw c.in-Err.is at c.edit_tested.ensures
