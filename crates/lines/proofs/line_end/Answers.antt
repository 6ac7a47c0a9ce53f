-- `line_end` seeks byte 10: the bytes before it all belong to the line. Assumes nothing.
use Rattle.std.proofs.Common.{◌≡◌, drop, ◌∙◌, rules, tests}
use Rattle.std.proofs.lemmas.Iterator.{IsFirst-from_position, YieldsList-from_slice}
use Rattle.std.proofs.lemmas.List.{take_rest}
use Rattle.lines.specs.Seeking.{seek_told}
use Rattle.lines.proofs.line_end.Goals as goal

pub returns-in_err-length : goal.returns-in_err-length
returns-in_err-length c =
    let a = c.args in
    let ahead = c.iter.ensures.rest ∙ take_rest a.input.now a.at in
    let first = IsFirst-from_position _ _ c.position.result (λ b. b ≡ 10) (λ b. b ≡ 10 → ⊥) c.position.ensures.ran (YieldsList-from_slice (drop a.at a.input.now) ahead) (λ x q k. search (rules, tests)) (λ x q k. search (rules, tests)) in
    let told = seek_told a.input.now a.at c.requires c.position.result first in
    rw c.from_residual.ensures (rw (c.in_err-length.was) at told)

pub returns : goal.returns
returns c =
    let a = c.args in
    let ahead = c.iter.ensures.rest ∙ take_rest a.input.now a.at in
    let first = IsFirst-from_position _ _ c.position.result (λ b. b ≡ 10) (λ b. b ≡ 10 → ⊥) c.position.ensures.ran (YieldsList-from_slice (drop a.at a.input.now) ahead) (λ x q k. search (rules, tests)) (λ x q k. search (rules, tests)) in
    let told = seek_told a.input.now a.at c.requires c.position.result first in
    rw (c.in_ok-length.was) at told
