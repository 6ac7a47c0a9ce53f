-- On the writing of a good state the line that decides stands at the topmost entry of the pair in the tree, and the pages that the trail reads are those
-- of the walk on slots. Assumes nothing.
use Rattle.std.specs.Prelude.{◌≡◌}
use Rattle.std.proofs.Common.{arith}
use Rattle.geometry.specs.declared.Geometry.{Geometry}
use Rattle.geometry.specs.Geometry.{InRange}
use Rattle.slot.specs.declared.Pair.{Pair}
use Rattle.rules.specs.Level.{slots_of}
use Rattle.rules.specs.Finding.{held, ask}
use Rattle.rules.specs.Merging.{State}
use Rattle.rules.specs.Store.{writing}
use Rattle.rules.specs.Good.{Good}
use Rattle.walk.specs.Trail.{trail, pages_below}
use Rattle.finding.specs.Asked.{decider, absent_above_decider, met_at_decider}
use Rattle.finding.specs.Walked.{walked_reads}
use Rattle.good.proofs.Cascade.{good_fits}
use Rattle.promises.specs.Written.{good_reads, good_walks}
use Rattle.trails.proofs.Decides.{deciding_line}
use Rattle.trails.specs.Topmost.{Topmost}

module _ (g : Geometry) (s : State) (p : Pair) (fit : InRange g) (good : Good g s) where
  pub topmost : Topmost g s p
  topmost = record {
    none_above = absent_above_decider p s.tree;
    entry_here = λ h. met_at_decider p s.tree (omega (arith, h, good.levels));
    trail_ends = deciding_line g (writing g s) p (held p s.tree) (decider p s.tree) (good_walks g s fit good p);
  }

  -- The pages that the trail reads below the head are those of the walk on slots.
  pub trail_reads : pages_below (trail g (writing g s) p) ≡ (ask p (slots_of s.tree)).read
  trail_reads = walked_reads g s (writing g s) fit good (good_fits g fit s good) (good_reads g s fit good) p
