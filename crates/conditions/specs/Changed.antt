-- An accepted put or drop on the writing of a good state: what it leaves is the writing of the state that the rules give, with their numbers.
-- Assumes nothing.
use Rattle.std.specs.Prelude.{ℕ, zero, suc, ◌≤◌, ◌<◌, ◌≡◌, Bool, false, not, List, [], ◌∷◌, get_or, replicate, leb, eqb}
use Rattle.std.proofs.Common.{arith, sym, ◌∙◌}
use Rattle.std.proofs.Math.Path.{refl, ap}
use Rattle.std.proofs.Math.Bool.{true}
use Rattle.std.proofs.Math.ListN.{length}
use Rattle.std.proofs.Math.Dec.{ltb}
use borrow.Author.Tests.{eq-eqb, ne_eqb, lt-ltb, le-ltb, leb-true, leb-false}
use Rattle.laws.specs.Lists.{all_at}
use Rattle.geometry.specs.declared.Geometry.{Geometry}
use Rattle.geometry.specs.Geometry.{InRange, bottom, capacity, most}
use Rattle.geometry.specs.Places.{live_word, erased}
use Rattle.geometry.specs.Bounds.{capacity_zero}
use Rattle.slot.specs.declared.Pair.{Pair}
use Rattle.slot.specs.Pair.{Words}
use Rattle.rules.specs.Tree.{Entry, Level, Tree, level}
use Rattle.rules.specs.Finding.{Met, absent, met, find, held}
use Rattle.rules.specs.Merging.{State, Settled, toggle, toggle_head, edit, entries}
use Rattle.rules.specs.Store.{writing}
use Rattle.std.specs.Prelude.{Ok}
use Rattle.rules.specs.Sound.{head_slots, entries_of, tree_of, ascending}
use Rattle.rules.specs.Good.{Good}
use Rattle.entries.specs.Ascending.{from_ascending}
use Rattle.finding.specs.Asked.{decider, head_decides, below_decides}
use Rattle.good.specs.Toggle.{toggle_adds, toggle_takes}
use Rattle.good.specs.Edit.{entry, live_after, toggled_state}
use Rattle.good.proofs.Edit.{change_cascading}
use Rattle.good.specs.Settle.{head_stays, head_merges}
use Rattle.good.proofs.Settle.{settle_good}
use Rattle.good.specs.Within.{head_few}
use Rattle.promises.specs.Written.{good_reads, good_tree, good_sound}
use Rattle.change.specs.Change.{fills_head, Changed, changed_head, changed_tree, change_of, change_merges, change_edits, merge_goes_on}
use Rattle.change.specs.Toggled.{head_toggled}

-- The work area after a call: all ones where it merged, else as it was.
unfoldable pub work_after : ℕ → List ℕ → List ℕ
work_after zero work = work
work_after (suc deepest) work = replicate (length work) erased

-- What the rules give an accepted put or drop, in words.
unfoldable pub ruled_change : Geometry → ℕ → Settled → List ℕ → Changed
ruled_change g live s work = record {
  fault = (Ok tt);
  values = live ∷ s.deepest ∷ length s.written ∷ entries s.tree;
  store = writing g (record { live = live; tree = s.tree });
  work = work_after s.deepest work;
}

pub merged_work : (deepest : ℕ) (work : List ℕ) → 1 ≤ deepest → work_after deepest work ≡ replicate (length work) erased
unfolding work_after
merged_work zero work h = absurd (omega arith)
merged_work (suc deepest) work h = refl

pub toggled_head : (e : Entry) (t : Tree) → 1 ≤ length t → level 0 (toggle_head e t) ≡ toggle e (level 0 t)
unfolding toggle_head
toggled_head e [] h = absurd (omega arith)
toggled_head e (es ∷ t) h = refl
