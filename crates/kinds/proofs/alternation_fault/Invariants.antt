-- `alternation_fault` tells the first wrong entry of four levels. The loop's invariant: the levels from here on tell what all do. Assumes nothing.
use Prim.Native.Nat.{◌-◌}
use mathlib.Core.Path.{◌≡◌}
use mathlib.Core.Bool.{true}
use lib.ListN.{length}
use Rattle.rules.specs.Faults.{first_fault}
use Rattle.entries.specs.Levels.{AllInside, tree_in}
use Rattle.entries.specs.Ascending.{levels_ascend}
use Rattle.kinds.specs.Told.{faults_from}
use Rattle.kinds.proofs.alternation_fault.Given as goal

abbrev pub invariant-loop-level : goal.invariant-loop-level
invariant-loop-level l =
    (first_fault (faults_from l.words l.level l.top (4 - l.level)) ≡ first_fault (faults_from l.words 0 l.initial.top 4)) ×
    AllInside l.top (length l.words) × (levels_ascend (tree_in l.words l.top) ≡ true)
