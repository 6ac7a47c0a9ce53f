-- What the lines of a why show, on any words: the entry that decides, and that no page read before it has one. Assumes nothing.
use Rattle.std.specs.Prelude.{ℕ, suc, ◌≤◌, ◌<◌, ◌≡◌, Bool, true, false, List, length}
use Rattle.geometry.specs.Directory.{geometry_of}
use Rattle.slot.specs.declared.Pair.{Pair}
use Rattle.walk.specs.Trail.{trail}
use Rattle.call_why.specs.Why.{why_lines}
use Rattle.trails.specs.Entry.{ReachesEntry, no_entry_of}
use Rattle.trails.specs.Decides.{line_at, run_at}

-- The lines are the trail of the walk. Where a level decides, the last line is that level's, and the slot that it names is an index entry of the
-- pair, normal exactly if the pair is held. No slot of a run that was read above the deciding level is one; where none decides, none that was read.
pub record WhyShows (w : List ℕ) (pair : Pair) (held : Bool) (level : ℕ) : Type 0 where
  pub lines : why_lines w pair ≡ trail (geometry_of w) w pair
  pub decides : level < (geometry_of w).levels →
      (length (why_lines w pair) ≡ suc level) × ReachesEntry pair (run_at (geometry_of w) w pair level) (line_at (geometry_of w) w pair level).reach held
  pub none_above : (i : ℕ) → i < length (why_lines w pair) → i < level → no_entry_of pair (run_at (geometry_of w) w pair i) ≡ true
  pub none_decides_here : (geometry_of w).levels ≤ level →
      (held ≡ false) × ((i : ℕ) → i < length (why_lines w pair) → no_entry_of pair (run_at (geometry_of w) w pair i) ≡ true)
