-- `number` puts a tenth of the number and then its last digit. Assumes nothing.
use Rattle.std.proofs.Common.{◌≤◌, refl, ◌∙◌, length-set}
use Rattle.printing.specs.Digits.{digit_printed, last_printed}
use Rattle.printing.proofs.Text.+number.Goals as goal

pub returns-then-n-lt10 : goal.returns-then-n-lt10
returns-then-n-lt10 t c =
    let s = c.args.self.now in
    record {
      printed = digit_printed s.room.now s.end c.args.n c.if-n-lt10.true c.digit.ensures;
      same_room = refl;
      kept = length-set s.room.now s.end c.digit.result;
    }

pub returns : goal.returns
returns t c =
    let s = c.args.self.now in
    let more : 10 ≤ c.args.n = c.if-n-lt10.false in
    let tenth = c.number.ensures in
    record {
      printed = last_printed s.room.now s.end c.args.n more tenth.printed c.digit-2.ensures;
      same_room = tenth.same_room;
      kept = length-set _ _ c.digit-2.result ∙ tenth.kept;
    }
