-- `tell_why` tells what is wrong with the input, or what the chip tells, where there is room. Assumes nothing.
use Rattle.std.proofs.Common.{arith, rules}
use Rattle.why_text.specs.Telling.{tells_same, tells_short, tells_wordless, tells_wrong, tells_good}
use Rattle.why_text.proofs.tell_why.Goals.{then-out-lt-TEXT_ROOM-via-then-out-lt-TEXT_ROOM, then-out-lt-TEXT_ROOM-via-else-out-lt-TEXT_ROOM+then-words-lt-WORD_ROOM}
use Rattle.why_text.proofs.tell_why.Goals as goal

pub returns-then-out-lt-TEXT_ROOM : goal.returns-then-out-lt-TEXT_ROOM
returns-then-out-lt-TEXT_ROOM c =
    let a = c.args in
    elim c.then-out-lt-TEXT_ROOM.branch [
      | then-out-lt-TEXT_ROOM-via-then-out-lt-TEXT_ROOM w ↦ tells_short a.badge.now a.floor.now a.chip.now a.words.now a.out.now w.if-out-lt-TEXT_ROOM.true
      | then-out-lt-TEXT_ROOM-via-else-out-lt-TEXT_ROOM+then-words-lt-WORD_ROOM w ↦
          tells_wordless a.badge.now a.floor.now a.chip.now a.words.now a.out.now w.if-words-lt-WORD_ROOM.true
    ]

pub returns-in-Ok : goal.returns-in-Ok
returns-in-Ok c =
    let a = c.args in
    let told = c.tell_chip.ensures in
    let same = told.grown.same_room in
    let judged = rw c.in-Ok.is at c.judge.ensures.judges in
    tells_same (search rules) (tells_good a.badge.now a.floor.now a.chip.now a.words.now a.out.now c.if-out-lt-TEXT_ROOM.false c.if-words-lt-WORD_ROOM.false judged told.grown.printed told.upper_bound told.words_after)

pub returns-in-Err : goal.returns-in-Err
returns-in-Err c =
    let a = c.args in
    let told = c.wrong_line.ensures in
    let same = told.grown.same_room in
    let judged = rw c.in-Err.is at c.judge.ensures.judges in
    tells_same (search rules) (tells_wrong a.badge.now a.floor.now a.chip.now a.words.now a.out.now c.if-out-lt-TEXT_ROOM.false c.if-words-lt-WORD_ROOM.false judged told.grown.printed (omega (arith, told.upper_bound)))
