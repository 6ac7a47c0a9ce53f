-- `put_entry` puts the entry's slots, from what `put_own` ensures. Assumes nothing.
use Rattle.std.proofs.Common.{◌+◌, ◌≡◌, true, false}
use Rattle.layout.specs.Stream.{fenced_at}
use Rattle.writer.specs.Coming.{index_put, inner_put, inner_fits, index_fits}
use Rattle.writer.specs.Writing.{room_behind}
use native.Mathlib.Omega.{arith}
use Rattle.writer.proofs.put_entry.Goals as goal

pub put_own-behind-requires-clause-page_bound : goal.put_own-behind-requires-clause-page_bound
put_own-behind-requires-clause-page_bound c =
    let asked = c.requires in
    inner_fits _ _ _ c.inner_fence.ensures (omega (arith, asked.room_for.enough, asked.room_for.few, asked.fence_bound))

pub put_own-requires-clause-room_for : goal.put_own-requires-clause-room_for
put_own-requires-clause-room_for c =
    let a = c.args in
    let fence = c.put_own-behind.ensures in
    let first : fenced_at a.fenced (a.at.own + a.at.fence) ≡ true = rw (← c.slots.ensures, ← c.fenced_at.ensures) c.if-fenced_at.true in
    rw fence.fences (room_behind _ _ _ _ _ _ c.requires.room_for first fence.count (omega arith))

pub put_own-requires-clause-page_bound : goal.put_own-requires-clause-page_bound
put_own-requires-clause-page_bound c = index_fits _ _ c.index_of-slot.ensures

pub returns-then-fenced_at-clause-told : goal.returns-then-fenced_at-clause-told
returns-then-fenced_at-clause-told c =
    let a = c.args in
    let fence = c.put_own-behind.ensures in
    let entry = c.put_own.ensures in
    let first : fenced_at a.fenced (a.at.own + a.at.fence) ≡ true = rw (← c.slots.ensures, ← c.fenced_at.ensures) c.if-fenced_at.true in
    inner_put _ _ _ _ _ first _ _ c.inner_fence.ensures c.index_of-slot.ensures _ _ _ _
    fence.area fence.count (rw (← fence.fences) entry.area) entry.count

pub put_own-requires-2-clause-page_bound : goal.put_own-requires-2-clause-page_bound
put_own-requires-2-clause-page_bound c = index_fits _ _ c.index_of-slot.ensures

pub returns-clause-told : goal.returns-clause-told
returns-clause-told c =
    let a = c.args in
    let entry = c.put_own-2.ensures in
    let later : fenced_at a.fenced (a.at.own + a.at.fence) ≡ false = rw (← c.slots.ensures, ← c.fenced_at.ensures) c.if-fenced_at.false in
    index_put _ _ _ _ _ later _ c.index_of-slot.ensures _ _ entry.area entry.count
