-- What a refusal is told as. Assumes nothing.
use Rattle.std.specs.Prelude.{◌≡◌, [], ◌∷◌, Result, Ok, Err, IsErrAnd}
use Rattle.std.proofs.Common.{ap}
use Rattle.opening.specs.declared.Unopened.{Unopened}
use Rattle.opening.specs.declared.Unopened.TheVariants.{Range as RangeUnopened, Length as LengthUnopened}
use Rattle.opening.specs.declared.Refusal.{Refusal}
use Rattle.opening.specs.declared.Refusal.TheVariants.{Range, Length, Fault}
use Rattle.opening.specs.Reply.{Reply, replied, fault_number, fault_values}

abbrev pub refusal_of : Unopened → Refusal
refusal_of RangeUnopened = Range
refusal_of LengthUnopened = Length

-- A refusal returns zeros, but a fault its place.
abbrev pub refused_reply : Refusal → Reply
refused_reply Range = replied 1 (0 ∷ 0 ∷ 0 ∷ [])
refused_reply Length = replied 5 (0 ∷ 0 ∷ 0 ∷ [])
refused_reply (Fault fault) = replied (fault_number fault) (fault_values fault)

-- What the `?` at an error returns.
pub error_told : {A E : Type 0} (r : Result A E) {e : E} → IsErrAnd r (λ x. x ≡ e) → r ≡ Err e
error_told (Ok a) h = absurd h
error_told (Err x) h = ap Err h
