use Rattle.std.proofs.Common.{◌+◌, ◌-◌, [], ◌∷◌, List, ℕ, arith, ap, ◌∙◌}
use Rattle.std.proofs.lemmas.List.Edits.{sets}
use Rattle.geometry.specs.Places.{erased}
use Rattle.edit.specs.Head.{slot_out}
use Rattle.edit.proofs.Moves.{copied, filled, stored_behind}
use Rattle.edit.proofs.take_out.Goals as goal

pub returns : goal.returns
unfolding slot_out
returns c =
    let a = c.args in
    let moved = c.copy_within.ensures.after ∙ copied a.words.now (a.place + 3) a.end a.place (omega (arith, c.requires)) (omega (arith, c.requires)) (omega (arith, c.requires)) in
    let left : List ℕ = erased ∷ erased ∷ erased ∷ [] in
    filled c.copy_within.new.self c.fill.new.self (a.end - 3) a.end erased (omega (arith, c.requires)) (omega (arith, c.requires, c.copy_within.ensures.len)) (c.fill.ensures.after (λ y e. e)) ∙
    ap (λ (v : List ℕ). sets v (a.end - 3) left) moved ∙ stored_behind a.words.now (a.place + 3) a.end a.place left (a.end - 3) (omega (arith, c.requires)) (omega (arith, c.requires))
