-- Laws of a row cut into pages: what holds of it by the slots put first, and that its entries stay. Assumes nothing.
use Rattle.std.specs.Prelude.{ℕ, ◌≡◌, refl, List}
use Rattle.slot.specs.declared.Slot.{Slot}
use Rattle.rules.specs.Level.{internal, paged}
use Rattle.rules.specs.Sound.{entries_of}
use Rattle.rules.specs.Paged.{by_paging, entries_behind}

pub entries_paged : (j last : ℕ) (ss : List Slot) → entries_of (paged j last ss) ≡ entries_of ss
unfolding entries_of internal
entries_paged =
    by_paging (λ j last ss row. entries_of row ≡ entries_of ss) (λ j last. refl) (λ j last s ss row k ih. entries_behind s row ss ih)
    (λ last s ss row k ih. entries_behind s row ss ih) (λ j last s ss row k n ih. entries_behind s row ss ih)
