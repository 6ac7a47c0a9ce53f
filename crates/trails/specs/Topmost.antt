-- On the writing of a good state the line that decides stands at the topmost entry of the pair in the tree, and the pages that the trail reads are those
-- of the walk on slots. Assumes nothing.
use Rattle.std.specs.Prelude.{ℕ, suc, ◌<◌, ◌≡◌, length}
use Rattle.geometry.specs.declared.Geometry.{Geometry}
use Rattle.slot.specs.declared.Pair.{Pair}
use Rattle.rules.specs.Tree.{level}
use Rattle.rules.specs.Finding.{absent, met, find, held}
use Rattle.rules.specs.Merging.{State}
use Rattle.rules.specs.Store.{writing}
use Rattle.walk.specs.Trail.{trail}
use Rattle.finding.specs.Asked.{decider}
use Rattle.trails.specs.Entry.{ReachesEntry}
use Rattle.trails.specs.Decides.{line_at, run_at}

-- No level above the deciding one has an entry of the pair. Where a level decides, its entry of the pair tells whether the pair is held, and there the
-- trail ends: its last line is of that level and reached an index entry of the pair, of that entry's kind.
pub record Topmost (g : Geometry) (s : State) (p : Pair) : Type 0 where
  pub none_above : (i : ℕ) → i < decider p s.tree → find p (level i s.tree) ≡ absent
  pub entry_here : decider p s.tree < g.levels → find p (level (decider p s.tree) s.tree) ≡ met (held p s.tree)
  pub trail_ends : decider p s.tree < g.levels →
      (length (trail g (writing g s) p) ≡ suc (decider p s.tree)) ×
      ReachesEntry p (run_at g (writing g s) p (decider p s.tree)) (line_at g (writing g s) p (decider p s.tree)).reach (held p s.tree)
