-- `reply_lines` puts the text of a reply: by its number, and of a fault by its part. Assumes nothing.
use Rattle.std.proofs.Common.{◌≡◌, Err, refl, rules}
use Rattle.opening.specs.declared.Refusal.TheVariants.{Range, Length, Fault}
use Rattle.printing.specs.Grown.{grown_as}
use Rattle.why_lines.specs.Parts.{reply_answer, reply_range, reply_length, reply_fault_of}
use Rattle.why_lines.proofs.reply_lines.Goals as goal

pub returns-in-Ok-clause-grown : goal.returns-in-Ok-clause-grown
returns-in-Ok-clause-grown c =
    let a = c.args in
    grown_as (rw c.in-Ok.is (reply_answer _ a.trail.now a.pair refl)) c.answer_lines.ensures.grown

pub returns-in-Err-Range-clause-grown : goal.returns-in-Err-Range-clause-grown
returns-in-Err-Range-clause-grown c =
    let a = c.args in
    let e : a.asked ≡ Err Range = search rules in
    grown_as (rw e (reply_range _ a.trail.now a.pair refl)) c.bytes.ensures

pub returns-in-Err-Length-clause-grown : goal.returns-in-Err-Length-clause-grown
returns-in-Err-Length-clause-grown c =
    let a = c.args in
    let e : a.asked ≡ Err Length = search rules in
    grown_as (rw e (reply_length _ a.trail.now a.pair refl)) c.bytes-in-Err-Length.ensures

pub returns-in-Err-Fault-clause-grown : goal.returns-in-Err-Fault-clause-grown
returns-in-Err-Fault-clause-grown c =
    let a = c.args in
    let fault = c.in-Err-Fault.fault in
    let e : a.asked ≡ Err (Fault fault) = search rules in
    grown_as (rw e (reply_fault_of fault.part a.trail.now a.pair)) (rw c.at.ensures at c.fault_lines.ensures.grown)
