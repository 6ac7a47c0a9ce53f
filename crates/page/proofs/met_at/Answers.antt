-- `met_at` tells what a slot says of a pair: whether its entry is normal, where it is an index entry of that pair. Assumes nothing.
use Rattle.std.specs.Prelude.{Bool, true, false, not, ◌&&◌, ◌≡◌, refl, cond, Some, None}
use Rattle.std.specs.Bool.{then_some}
use Rattle.page.specs.Tell.{met_in}
use Rattle.page.proofs.met_at.Goals as goal

pub returns : goal.returns
unfolding met_in
returns c = rw (← c.read_slot-slot.ensures, c.then_some.ensures, c.both.ensures, c.is_fence.ensures, c.same_pair.ensures, c.is_normal.ensures) (by _ _ _)
  where
    by : (fence same normal : Bool) → then_some (not fence && same) normal ≡ cond fence None (cond same (Some normal) None)
    by true same normal = refl
    by false true normal = refl
    by false false normal = refl
