-- `judge` tells the first test that the input fails, or the pair. Assumes nothing.
use Rattle.std.proofs.Common.{◌≡◌, ◌∙◌, Err, arith, rules}
use Rattle.why_input.specs.declared.Wrong.TheVariants.{Badge, Floor}
use Rattle.why_input.specs.Judging.{judged_badge, judged_floor, judged_long, judged_uneven, judged_good}
use Rattle.why_input.proofs.judge.Goals as goal

pub returns-in_err-badge-clause-judges : goal.returns-in_err-badge-clause-judges
returns-in_err-badge-clause-judges c =
    let a = c.args in
    let told : c.from_residual.result ≡ Err Badge = search rules in
    told ∙ judged_badge a.badge.now a.floor.now a.chip.now (rw c.in_err-badge.ensures.ok_part at c.read_numeral.ensures)

pub returns-in_err-floor-clause-judges : goal.returns-in_err-floor-clause-judges
returns-in_err-floor-clause-judges c =
    let a = c.args in
    let badge = rw c.in_ok-badge.ensures.ok_part at c.read_numeral.ensures in
    let told : c.from_residual-in_err-floor.result ≡ Err Floor = search rules in
    told ∙ judged_floor a.badge.now a.floor.now a.chip.now _ badge (rw c.in_err-floor.ensures.ok_part at c.read_numeral-2.ensures)

pub returns-then-chip-gt-MOST_BYTES-clause-judges : goal.returns-then-chip-gt-MOST_BYTES-clause-judges
returns-then-chip-gt-MOST_BYTES-clause-judges c =
    let a = c.args in
    let badge = rw c.in_ok-badge.ensures.ok_part at c.read_numeral.ensures in
    let floor = rw c.in_ok-floor.ensures.ok_part at c.read_numeral-2.ensures in
    judged_long a.badge.now a.floor.now a.chip.now _ badge _ floor (omega arith)

pub returns-then-chip-ne0-clause-judges : goal.returns-then-chip-ne0-clause-judges
returns-then-chip-ne0-clause-judges c =
    let a = c.args in
    let badge = rw c.in_ok-badge.ensures.ok_part at c.read_numeral.ensures in
    let floor = rw c.in_ok-floor.ensures.ok_part at c.read_numeral-2.ensures in
    judged_uneven a.badge.now a.floor.now a.chip.now _ badge _ floor (omega arith) (search rules)

pub returns-clause-judges : goal.returns-clause-judges
returns-clause-judges c =
    let a = c.args in
    let badge = rw c.in_ok-badge.ensures.ok_part at c.read_numeral.ensures in
    let floor = rw c.in_ok-floor.ensures.ok_part at c.read_numeral-2.ensures in
    judged_good a.badge.now a.floor.now a.chip.now _ badge _ floor c.if-chip-gt-MOST_BYTES.false c.if-chip-ne0.false
