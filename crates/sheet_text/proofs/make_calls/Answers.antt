-- `make_calls` goes request by request: the text so far, and the text of those left behind it, are the text of the sheet. Assumes nothing.
use Rattle.std.proofs.Common.{arith, refl, rules, ◌≡◌, ◌∙◌, Ok, Err}
use Rattle.sheet_text.specs.Playing.{Playing, play_begins, play_faultless, play_goes_on, play_ends}
use Rattle.sheet_text.proofs.make_calls.Goals as goal

pub loop-at-init : goal.loop-at-init
loop-at-init c =
    let begun = c.begin-progress in
    let h = c.args.heading in
    let text = c.args.text.now in
    (rw c.requires.at_start (play_begins c.args.input.now h.geometry text.room.now h.next begun.result _ c.args.work.now c.requires.ready begun.ensures c.requires.work_value), (search rules, refl))

pub loop-at-preserved : goal.loop-at-preserved
loop-at-preserved c =
    let start = c.args.text.now in
    let l = c.loop-at in
    let read = rw c.in-Ok.is at c.read_group.ensures in
    let told = c.call_line.ensures in
    (play_goes_on c.args.input.now c.args.heading.geometry start.room.now l.at l.text.end l.progress l.store l.work l.text.room.now l.invariant.0 _ _ read c.make_call-progress.result _ _ _ _ c.make_call-progress.ensures told.grown.printed told.upper_bound, (omega (arith, l.invariant.1.0), told.grown.same_room ∙ l.invariant.1.1))

pub returns : goal.returns
returns c =
    let start = c.args.text.now in
    let l = c.loop-at in
    let p = l.invariant.0 in
    let last = c.last_lines.ensures in
    let whole = play_ends c.args.input.now c.args.heading.geometry start.room.now l.at l.text.end l.progress l.store l.work l.text.room.now p (omega arith) _ _ (omega (arith, last.upper_bound, p.short, p.long, p.within, c.requires.ready.few, c.requires.text_room_in_bounds)) last.grown.printed in
    record {
      grown = record {
        printed = rw c.requires.at_start whole.printed;
        same_room = last.grown.same_room ∙ l.invariant.1.1;
        kept = last.grown.kept ∙ p.long;
      };
      fits = whole.fits;
    }
