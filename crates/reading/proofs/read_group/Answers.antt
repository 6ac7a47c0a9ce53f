-- `read_group` tells a request from three lines, or the first of them that is faulty. Assumes nothing.
use Rattle.std.proofs.Common.{rules, ◌≡◌, None, Some, Err}
use Rattle.reading.specs.Groups.{group_unnamed, group_badgeless, group_floorless, group_read}
use Rattle.reading.proofs.read_group.Goals as goal

pub returns-in_err-operation : goal.returns-in_err-operation
returns-in_err-operation c =
    let none : c.read_operation.result ≡ None = search rules in
    let told : c.from_residual.result ≡ Err 0 = search rules in
    rw told (group_unnamed c.args.input.now c.args.at c.requires (rw none at c.read_operation.ensures))

pub returns-in_err-badge : goal.returns-in_err-badge
returns-in_err-badge c =
    let operation : c.read_operation.result ≡ Some (c.in_ok-operation.operation, c.in_ok-operation.badge_at) = search rules in
    let none : c.read_value.result ≡ None = search rules in
    let told : c.from_residual-in_err-badge.result ≡ Err 1 = search rules in
    rw told (group_badgeless c.args.input.now c.args.at c.requires _ _ (rw operation at c.read_operation.ensures) (rw none at c.read_value.ensures))

pub returns-in_err-floor : goal.returns-in_err-floor
returns-in_err-floor c =
    let operation : c.read_operation.result ≡ Some (c.in_ok-operation.operation, c.in_ok-operation.badge_at) = search rules in
    let badge : c.read_value.result ≡ Some (c.in_ok-badge.badge, c.in_ok-badge.floor_at) = search rules in
    let none : c.read_value-2.result ≡ None = search rules in
    let told : c.from_residual-in_err-floor.result ≡ Err 2 = search rules in
    rw told (group_floorless c.args.input.now c.args.at c.requires _ _ (rw operation at c.read_operation.ensures) _ _ (rw badge at c.read_value.ensures) (rw none at c.read_value-2.ensures))

pub returns : goal.returns
returns c =
    let operation : c.read_operation.result ≡ Some (c.in_ok-operation.operation, c.in_ok-operation.badge_at) = search rules in
    let badge : c.read_value.result ≡ Some (c.in_ok-badge.badge, c.in_ok-badge.floor_at) = search rules in
    let floor : c.read_value-2.result ≡ Some (c.in_ok-floor.floor, c.in_ok-floor.next) = search rules in
    group_read c.args.input.now c.args.at c.requires _ _ (rw operation at c.read_operation.ensures) _ _ (rw badge at c.read_value.ensures) _ _ (rw floor at c.read_value-2.ensures)
