-- What a refusal of put or drop is told as. Assumes nothing.
use Rattle.std.specs.Prelude.{[], ◌∷◌}
use Rattle.opening.specs.declared.Unopened.{Unopened}
use Rattle.opening.specs.declared.Unopened.TheVariants.{Range as RangeUnopened, Length as LengthUnopened}
use Rattle.call_put.specs.declared.EditRefusal.{EditRefusal}
use Rattle.call_put.specs.declared.EditRefusal.TheVariants.{Range, Length, Fault, Held, Missing, Full}
use Rattle.opening.specs.Reply.{Reply, replied, fault_number, fault_values}

abbrev pub edit_refusal_of : Unopened → EditRefusal
edit_refusal_of RangeUnopened = Range
edit_refusal_of LengthUnopened = Length

-- A refusal returns zeros, but a fault its place.
abbrev pub edit_refused : EditRefusal → Reply
edit_refused Range = replied 1 (0 ∷ 0 ∷ 0 ∷ [])
edit_refused Length = replied 5 (0 ∷ 0 ∷ 0 ∷ [])
edit_refused (Fault fault) = replied (fault_number fault) (fault_values fault)
edit_refused Held = replied 2 (0 ∷ 0 ∷ 0 ∷ [])
edit_refused Missing = replied 3 (0 ∷ 0 ∷ 0 ∷ [])
edit_refused Full = replied 4 (0 ∷ 0 ∷ 0 ∷ [])
