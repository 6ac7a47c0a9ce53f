-- A part of a slice that is written anew: the words are stored from its first place on. Assumes nothing.
use Rattle.std.proofs.Common.{◌+◌, ◌-◌, ◌≤◌, ◌≡◌, ℕ, Bool, true, false, List, ◌++◌, length, take, drop, replicate, min, leb, refl, sym, ◌∙◌, ap, arith}
use borrow.Author.Tests.{leb-true, leb-false}
use Rattle.std.proofs.lemmas.List.{append_assoc, drop-drop, length-replicate}
use Rattle.std.proofs.lemmas.List.Edits.{sets, sets-eq}
use borrow.Rule.Slice.PartMut.{mid_len, put_mid}

pub part_stored : (w vs : List ℕ) (i n : ℕ) → length vs ≡ n → i + n ≤ length w → put_mid i n w vs ≡ sets w i vs
part_stored w vs i n e h =
    ap (λ (l : List ℕ). take i w ++ (vs ++ l)) (drop-drop n i w) ∙
    sym (append_assoc (take i w) vs (drop (i + n) w)) ∙
    ap (λ (k : ℕ). take i w ++ vs ++ drop (i + k) w) (sym e) ∙
    sym (sets-eq vs w i (omega (arith, e, h)))

-- An end before the start leaves nothing to write.
pub part_erased : (w vs : List ℕ) (x from to first : ℕ) → first ≡ min from to → to ≤ length w → vs ≡ replicate (length (take (to - first) (drop first w))) x →
    put_mid first (to - first) w vs ≡ sets w from (replicate (to - from) x)
part_erased w vs x from to first e h fills =
    let erased : vs ≡ replicate (to - first) x = fills ∙ ap (λ (n : ℕ). replicate n x) (mid_len first to w h) in
    part_stored w vs first (to - first) (ap length erased ∙ length-replicate (to - first) x) (omega (arith, e, h)) ∙
    ap (sets w first) erased ∙ by_order (leb from to) refl
  where
    by_order : (b : Bool) → leb from to ≡ b → sets w first (replicate (to - first) x) ≡ sets w from (replicate (to - from) x)
    by_order true q = let same : first ≡ from = omega (arith, e, leb-true from to q) in ap (λ (k : ℕ). sets w k (replicate (to - k) x)) same
    by_order false q =
        let none : to - first ≡ 0 = omega (arith, e, leb-false from to q) in
        let past : to - from ≡ 0 = omega (arith, leb-false from to q) in
        rw (none, past) refl
