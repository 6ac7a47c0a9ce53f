-- The page rooms suffice: what the levels of a tree may hold at most is written in the rooms made for it. Assumes nothing.
use Prim.Native.Nat.{ℕ, zero, suc, ◌+◌, ◌≤◌, ◌<◌, ◌^◌}
use Rattle.std.proofs.Common.{add-zero, add-suc, suc-add, arith, ◌∙◌, ltb-true, ltb-false}
use Rattle.std.specs.Prelude.{◌≡◌, refl, Bool, true, false, length, get_or, ltb}
use Rattle.std.proofs.Math.Path.{ap}
use mathlib.Core.List.{List, [], ◌∷◌}
use Rattle.std.proofs.lemmas.List.{length-map}
use Rattle.std.proofs.Math.ListN.{get_or-eq_default}
use Rattle.geometry.specs.declared.Geometry.{Geometry}
use Rattle.geometry.specs.Geometry.{InRange, bottom, capacity, most, total, room}
use Rattle.geometry.specs.Places.{head_room}
use Rattle.geometry.specs.Bounds.{capacity_zero, capacity_least, room_small, room_bottom, room_above}
use Rattle.slot.specs.declared.Slot.{Slot}
use Rattle.rules.specs.Tree.{Level, Tree, level}
use Rattle.rules.specs.Level.{index, pages_for, paged, over, laid, head_on, slots_of}
use Rattle.rules.specs.Good.{TreeFits, Roomy, SlotsFit, Fits}
use Rattle.rules.specs.Pages.{pages_some}
use Rattle.rules.specs.Laid.{laid_length, laid_above, head_over, laid_alone}
use Rattle.good.specs.Pages.{over_length, paged_pages, pages_within}
use Rattle.good.specs.Fitting.{over_fits, laid_fits}

-- A level without slots has one page.
pub no_slots : pages_for 0 ≤ 2 ^ 30
unfolding pages_for
no_slots = omega arith
