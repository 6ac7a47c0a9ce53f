-- Two results that the promise of `tell_why` allows are equal: the length told, which stream the text is for, every word and every byte. Assumes nothing.
use Rattle.std.specs.Prelude.{ℕ, ◌≡◌, List}
use Rattle.std.proofs.Common.{sym, ◌∙◌}
use Rattle.printing.specs.Printed.{printed_once}
use Rattle.why_text.specs.declared.Told.{Told}
use Rattle.why_text.specs.Text.{Outcome, Tells}

pub tell_why_has_one_result : {o : Outcome} {words out w x v u : List ℕ} {r s : Told} → Tells o words out w v r → Tells o words out x u s →
    (r.length ≡ s.length) × (r.stream ≡ s.stream) × (w ≡ x) × (v ≡ u)
tell_why_has_one_result p q =
    let texts = printed_once p.prints q.prints in
    (texts.1, p.stream ∙ sym q.stream, p.stores ∙ sym q.stores, texts.0)
