-- A good state with a pair's entry toggled into its head: a cascade may begin there, and of all pairs just that one is held or not as the
-- entry says. Assumes nothing.
use Prim.Native.Nat.{ℕ, zero, suc, ◌+◌, ◌-◌, ◌≤◌, ◌<◌}
use native.Mathlib.Omega.{arith}
use Rattle.std.specs.Prelude.{◌≡◌, Bool, not, cond, length}
use Rattle.std.proofs.Math.Path.{refl}
use Rattle.std.proofs.Common.{sym, ◌∙◌}
use Rattle.std.proofs.Math.Bool.{true, false}
use mathlib.Core.List.{[], ◌∷◌}
use Rattle.laws.specs.Lists.{all_cons}
use Rattle.laws.specs.Flat.{all_first, all_rest}
use Rattle.geometry.specs.declared.Geometry.{Geometry}
use Rattle.geometry.specs.Geometry.{InRange, most, total}
use Rattle.slot.specs.declared.Pair.{Pair}
use Rattle.slot.specs.Pair.{same, Words}
use Rattle.slot.specs.Order.{same_level}
use Rattle.rules.specs.Tree.{Entry, Level, Tree, level}
use Rattle.rules.specs.Finding.{Met, absent, met, find, held}
use Rattle.rules.specs.Merging.{State, toggle, toggle_head}
use Rattle.rules.specs.Sound.{ascending, within_capacity}
use Rattle.rules.specs.Good.{Good, Cascading, TreeFits}
use Rattle.entries.specs.Ascending.{From, levels_ascend, from_ascending, all_from_ascending, find_here, held_met, held_absent, held_agree}
use Rattle.entries.specs.Counts.{kind_count, count_none, count_normal, count_filter, count_first, count_levels}
use Rattle.good.specs.Toggle.{toggle_ascends, toggle_fits, toggle_length, cancel, find_other, find_toggle}
use Rattle.good.specs.Alternate.{Over, alternating_over, alternating_below, over_alternating, held_rank, turned, met_over, toggle_over}
use Rattle.good.specs.Live.{Even, toggle_even, Counted, right_counted, counted_right}
use Rattle.good.specs.Within.{head_few}

-- The entry of a pair: normal for a put, a filter for a drop.
abbrev pub entry : Pair → Bool → Entry
entry p normal = record { pair = p; normal = normal }

-- The live pairs after a put (a normal entry), and after a drop; the state with its head toggled.
unfoldable pub live_after : Bool → ℕ → ℕ
live_after true n = n + 1
live_after false n = n - 1

abbrev pub toggled_state : Entry → State → State
toggled_state e s = record { live = live_after e.normal s.live; tree = toggle_head e s.tree }

-- A good state's head ascends, and stands over the levels below.
module _ (g : Geometry) (n : ℕ) (head : Level) (lower : Tree) (good : Good g (record { live = n; tree = head ∷ lower })) where
  pub head_ascends : ascending head ≡ true
  head_ascends = all_first ascending head lower good.ascends

  pub head_rises : From 0 head
  head_rises = from_ascending head head_ascends

  pub head_over : Over head lower
  head_over = alternating_over head lower good.alternates
