-- `read_value` tells the number behind a line's name. Assumes nothing.
use Rattle.std.proofs.Common.{sym}
use Rattle.std.proofs.lemmas.Bool.{not_from_false, not_from_true}
use Rattle.laws.specs.Tests.{told_no, told_past}
use Rattle.lines.specs.Values.{value_unnamed, name_within, value_named}
use Rattle.lines.proofs.read_value.Goals as goal

pub returns-then-not-begins : goal.returns-then-not-begins
returns-then-not-begins c =
    value_unnamed c.args.input.now c.args.at c.requires.at_in_bounds c.args.name.now c.requires.endless (sym (told_no _ _ c.begins.ensures (not_from_false _ c.if-not-begins.true)))

pub read_number-requires : goal.read_number-requires
read_number-requires c =
    name_within c.args.input.now c.args.at c.requires.at_in_bounds c.args.name.now c.requires.endless (sym (told_past _ _ c.begins.ensures (not_from_true _ c.if-not-begins.false)))

pub returns : goal.returns
returns c =
    value_named c.args.input.now c.args.at c.requires.at_in_bounds c.args.name.now c.requires.endless (sym (told_past _ _ c.begins.ensures (not_from_true _ c.if-not-begins.false))) c.read_number.result c.read_number.ensures
