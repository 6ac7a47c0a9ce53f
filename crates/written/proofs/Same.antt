-- Two slots are one by their derived equality exactly if badge, floor, kind number and page number are. Assumes nothing.
use Rattle.std.specs.Prelude.{◌≡◌, refl, ◌&&◌, eqb}
use Rattle.std.proofs.Common.{sym}
use denote.Enum.Bare.{sameb}
use Rattle.laws.specs.Tests.{and_assoc}
use Rattle.slot.specs.contracts.Kind.{the_type}
use Rattle.slot.specs.declared.Kind.{Kind}
use Rattle.slot.specs.declared.Kind.TheVariants.{Normal, Filter, External, Internal}
use Rattle.slot.specs.declared.Slot.{Slot}
use Rattle.slot.specs.Tag.{kind_number}
use Rattle.layout.specs.Stream.{same_slot}

kinds_same : (a b : Kind) → sameb the_type a b ≡ eqb (kind_number a) (kind_number b)
kinds_same Normal Normal = refl
kinds_same Normal Filter = refl
kinds_same Normal External = refl
kinds_same Normal Internal = refl
kinds_same Filter Normal = refl
kinds_same Filter Filter = refl
kinds_same Filter External = refl
kinds_same Filter Internal = refl
kinds_same External Normal = refl
kinds_same External Filter = refl
kinds_same External External = refl
kinds_same External Internal = refl
kinds_same Internal Normal = refl
kinds_same Internal Filter = refl
kinds_same Internal External = refl
kinds_same Internal Internal = refl

pub slots_same : (a b : Slot) →
    ((eqb a.pair.badge b.pair.badge && eqb a.pair.floor.0 b.pair.floor.0) && (sameb the_type a.kind b.kind && eqb a.page.0 b.page.0)) ≡ same_slot a b
unfolding same_slot
slots_same a b =
    rw (kinds_same a.kind b.kind)
    (sym (and_assoc (eqb a.pair.badge b.pair.badge && eqb a.pair.floor.0 b.pair.floor.0) (eqb (kind_number a.kind) (kind_number b.kind)) (eqb a.page.0 b.page.0)))
