-- The slots of a level numbered through its pages, and the number of the slot that a fault names. Assumes nothing.
use Rattle.std.specs.Prelude.{ℕ, zero, suc, ◌+◌, ◌*◌, ◌/◌, ◌%◌, ◌<◌, ◌≡◌, List}
use Rattle.std.proofs.Math.Nat.{div-add-mod}
use Rattle.std.proofs.Common.{mod-lt, arith}
use Rattle.fault.specs.declared.Fault.{Fault}
use Rattle.fault.specs.declared.Part.{Part}
use Rattle.geometry.specs.declared.Geometry.{Geometry}
use Rattle.geometry.specs.Geometry.{InRange}
use Rattle.geometry.specs.Places.{head_room, head_place, slot_place, slots_in_page}
use Rattle.slot.specs.declared.Slot.{Slot}
use Rattle.slot.specs.Slot.{slot_at}
use Rattle.rules.specs.Faults.{page_size, placed}

-- The number of the slot that a fault names, counted through the pages of its level; the head is one page.
unfoldable pub slot_number : Geometry → Fault → ℕ
slot_number g f = page_size g f.level * f.page + f.slot

-- The slot of level i that has number n, as it stands.
unfoldable pub slot_numbered : Geometry → List ℕ → ℕ → ℕ → Slot
slot_numbered g w zero n = slot_at w (head_place n)
slot_numbered g w (suc i) n = slot_at w (slot_place g (suc i) (n / slots_in_page) (n % slots_in_page))

-- A fault that is placed at a slot's number names that slot.
pub number_placed : (part : Part) (g : Geometry) (i n : ℕ) → slot_number g (placed part g i n) ≡ n
unfolding slot_number
number_placed part g i n = div-add-mod n (page_size g i)

pub slot_placed : (part : Part) (g : Geometry) → InRange g → (i n : ℕ) → (placed part g i n).slot < page_size g i
unfolding page_size head_room
slot_placed part g fit zero n = mod-lt n (omega (arith, fit.head_least))
slot_placed part g fit (suc i) n = mod-lt n (omega arith)
