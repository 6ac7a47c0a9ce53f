-- `damage_told` puts what is damaged, by the part. Assumes nothing.
use Rattle.std.proofs.Common.{◌≡◌, ap, arith, rules}
use Rattle.fault.specs.Numbers.{number_of}
use Rattle.printing.specs.Grown.{grown_as}
use Rattle.why_lines.specs.Parts.{damage_directory, damage_head, damage_page, damage_writing, damage_across}
use Rattle.why_lines.proofs.damage_told.Goals as goal

pub returns-in-Directory-clause-grown : goal.returns-in-Directory-clause-grown
returns-in-Directory-clause-grown c =
    let f = c.args.fault in
    grown_as (damage_directory f.level f.page f.slot (number_of f.part) (ap number_of c.in-Directory.is)) c.bytes.ensures

pub returns-in-Head-clause-grown : goal.returns-in-Head-clause-grown
returns-in-Head-clause-grown c =
    let f = c.args.fault in
    grown_as (damage_head f.level f.page f.slot (number_of f.part) (ap number_of c.in-Head.is)) c.named.ensures.grown

pub returns-in-Page-clause-grown : goal.returns-in-Page-clause-grown
returns-in-Page-clause-grown c =
    let f = c.args.fault in
    grown_as (damage_page f.level f.page f.slot (number_of f.part) (ap number_of c.in-Page.is)) (search rules)

pub returns-in-Writing-clause-grown : goal.returns-in-Writing-clause-grown
returns-in-Writing-clause-grown c =
    let f = c.args.fault in
    grown_as (damage_writing f.level f.page f.slot (number_of f.part) (ap number_of c.in-Writing.is)) (search rules)

pub returns-in-Kinds-clause-grown : goal.returns-in-Kinds-clause-grown
returns-in-Kinds-clause-grown c =
    let f = c.args.fault in
    let kinds : number_of f.part ≡ 14 = ap number_of c.in-Kinds.is in
    grown_as (damage_across f.level f.page f.slot (number_of f.part) (omega arith) (omega arith) (omega arith) (omega arith)) c.across_told.ensures.grown
