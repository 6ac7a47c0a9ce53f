-- Text put into a buffer from a place on: what stands there then, and the place behind it. Assumes nothing.
use Rattle.std.specs.Prelude.{ℕ, ◌+◌, ◌≡◌, refl, List, [], ◌++◌, length}
use Rattle.std.proofs.Common.{arith, sym, subst, ◌∙◌, length-append}
use Rattle.std.proofs.lemmas.List.Edits.{sets}
use Rattle.laws.specs.Sets.{sets_behind}

pub record Printed (w : List ℕ) (at : ℕ) (text v : List ℕ) (end : ℕ) : Type 0 where
  pub ends : end ≡ at + length text
  pub stands : v ≡ sets w at text

-- Two results that one promise allows are equal.
pub printed_once : {w : List ℕ} {at : ℕ} {text v u : List ℕ} {end last : ℕ} → Printed w at text v end → Printed w at text u last → (v ≡ u) × (end ≡ last)
printed_once p q = (p.stands ∙ sym q.stands, p.ends ∙ sym q.ends)

module _ {w : List ℕ} {at : ℕ} where
  pub printed_none : Printed w at [] w at
  printed_none = record { ends = omega arith; stands = refl }

  -- A text told in another way.
  pub printed_as : {xs ys v : List ℕ} {end : ℕ} → xs ≡ ys → Printed w at xs v end → Printed w at ys v end
  printed_as {v = v} {end = end} e p = subst (λ (text : List ℕ). Printed w at text v end) e p

  -- Text behind text is one text.
  pub printed_then : {xs ys v u : List ℕ} {middle end : ℕ} → Printed w at xs v middle → Printed v middle ys u end → Printed w at (xs ++ ys) u end
  printed_then {xs} {ys} p q = record {
    ends = omega (arith, p.ends, q.ends, length-append xs ys);
    stands = q.stands ∙ rw (p.stands, p.ends) (sets_behind w at xs ys);
  }

pub printed_three : {w : List ℕ} {at : ℕ} {xs ys zs v u x : List ℕ} {a b end : ℕ} → Printed w at xs v a → Printed v a ys u b → Printed u b zs x end →
    Printed w at (xs ++ ys ++ zs) x end
printed_three p q r = printed_then (printed_then p q) r
