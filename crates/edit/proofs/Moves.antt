-- Words copied within a slice, and a part written over, as runs of stores. Assumes nothing.
use Rattle.std.proofs.Common.{ℕ, ◌+◌, ◌-◌, ◌≤◌, ◌≡◌, List, [], ◌∷◌, ◌++◌, take, drop, length, replicate, arith, refl, sym, ap, ◌∙◌, length-drop, length-take-le}
use Rattle.std.specs.List.{copy_within}
use borrow.Rule.Slice.PartMut.{put_mid}
use Rattle.std.proofs.lemmas.Slice.{put_mid-paste}
use Rattle.std.proofs.lemmas.List.{drop-take}
use Rattle.std.proofs.lemmas.List.Edits.{sets, sets-eq}
use Rattle.std.proofs.Math.Seq.{slice, paste, length-slice}
use Rattle.laws.specs.Sets.{sets_behind}

pub paste_stores : (w s : List ℕ) (at n : ℕ) → at + n ≤ length w → n ≤ length s → paste w at s n ≡ sets w at (take n s)
paste_stores w s at n h k =
    let m : length (take n s) ≡ n = length-take-le n s k in
    sym (rw m at (sets-eq (take n s) w at (omega (arith, m, h))))

pub copied : (w : List ℕ) (from to at : ℕ) → from ≤ to → to ≤ length w → at + (to - from) ≤ length w → copy_within w from to at ≡ sets w at (slice from to w)
copied w from to at h k b =
    let all : from + (to - from) ≡ to = omega arith in
    let part : slice from to w ≡ take (to - from) (drop from w) = rw all at (drop-take from (to - from) w) in
    paste_stores w (drop from w) at (to - from) b (omega (arith, length-drop from w)) ∙ ap (sets w at) (sym part)

-- Stores right behind a part that was copied down.
pub stored_behind : (w : List ℕ) (from to at : ℕ) (vs : List ℕ) (place : ℕ) → to ≤ length w → at + (to - from) ≡ place →
    sets (sets w at (slice from to w)) place vs ≡ sets w at (slice from to w ++ vs)
stored_behind w from to at vs place h e =
    let end : at + length (slice from to w) ≡ place = omega (arith, length-slice from to w h, e) in
    rw end at (sets_behind w at (slice from to w) vs)

-- Three words written over.
pub filled : (v ys : List ℕ) (at end x : ℕ) → at + 3 ≡ end → end ≤ length v → ys ≡ replicate (length (take (end - at) (drop at v))) x →
    put_mid at (end - at) v ys ≡ sets v at (x ∷ x ∷ x ∷ [])
filled v ys at end x e h f =
    let three : end - at ≡ 3 = omega arith in
    let long : length (take (end - at) (drop at v)) ≡ 3 = omega (arith, three, length-drop at v, length-take-le (end - at) (drop at v) (omega (arith, length-drop at v))) in
    let zs : List ℕ = x ∷ x ∷ x ∷ [] in
    put_mid-paste at (end - at) v ys zs 3 (rw long at f) (sym three) refl ∙ paste_stores v zs at 3 (omega arith) (omega arith)
