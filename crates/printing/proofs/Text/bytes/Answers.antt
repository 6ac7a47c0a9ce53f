-- `bytes` copies the bytes behind the text. Assumes nothing.
use Rattle.std.proofs.Common.{length, refl, ap, ◌∙◌}
use Rattle.std.proofs.Math.Seq.{length-sets}
use Rattle.printing.proofs.Written.{bytes_written}
use Rattle.printing.proofs.Text.bytes.Goals as goal

pub returns : goal.returns
returns c =
    let t = c.args.self.now in
    let text = c.args.text.now in
    let stands = bytes_written t.room.now t.end text c.copy_from_slice.new.self c.requires c.copy_from_slice.ensures.after in
    record {
      printed = record { ends = refl; stands = stands };
      same_room = refl;
      kept = ap length stands ∙ length-sets t.room.now t.end text;
    }
