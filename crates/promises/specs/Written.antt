-- A store passes the whole-store test exactly if it is the writing of a good state. On such a store the walk's answer is whether the
-- topmost entry of the pair is normal. Assumes nothing.
use Rattle.std.specs.Prelude.{ℕ, ◌≡◌, List, length}
use Rattle.geometry.specs.declared.Geometry.{Geometry}
use Rattle.geometry.specs.Geometry.{InRange}
use Rattle.geometry.specs.Places.{store_words}
use Rattle.slot.specs.declared.Pair.{Pair}
use Rattle.rules.specs.Level.{slots_of}
use Rattle.rules.specs.Finding.{held}
use Rattle.rules.specs.Merging.{State}
use Rattle.rules.specs.Store.{writing}
use Rattle.std.specs.Prelude.{Ok}
use Rattle.rules.specs.Sound.{tree_of}
use Rattle.rules.specs.Faults.{fault}
use Rattle.geometry.specs.Directory.{geometry_of}
use Rattle.rules.specs.Good.{Good, Fits}
use Rattle.rules.specs.Reading.{Reads}
use Rattle.walk.specs.Walked.{found}
use Rattle.walk.specs.Walk.{walked}
use Rattle.stored.specs.Fitting.{WordsFit}
use Rattle.stored.specs.Reading.{reads_back}
use Rattle.stored.specs.Back.{state_of, tree_back}
use Rattle.stored.specs.Sound.{sound_written, written_sound}
use Rattle.finding.specs.Asked.{decider}
use Rattle.finding.specs.Formed.{directory_right_lem, head_right_lem, page_formed_lem}
use Rattle.finding.specs.Walked.{walked_finds}
use Rattle.good.proofs.Cascade.{good_fits}

-- A store that passes is the writing of the state that its words hold, and that state is good.
pub sound_good : (g : Geometry) (w : List ℕ) → InRange g → geometry_of w ≡ g → length w ≡ store_words g → WordsFit w → fault g w ≡ Ok tt →
    (w ≡ writing g (state_of g w)) × Good g (state_of g w)
sound_good = sound_written

module _ (g : Geometry) (s : State) (fit : InRange g) (good : Good g s) where
  fits : Fits g (slots_of s.tree)
  fits = good_fits g fit s good

  -- The slots of a good state fit their rooms, so its writing is read as them.
  pub good_reads : Reads g s.live (slots_of s.tree) (writing g s)
  unfolding writing
  good_reads = reads_back g s.live (slots_of s.tree) fit fits

  -- The writing has the store's length, and its words hold the geometry, the tree and the state.
  pub good_length : length (writing g s) ≡ store_words g
  good_length = good_reads.whole

  pub good_geometry : geometry_of (writing g s) ≡ g
  good_geometry = good_reads.geometry

  pub good_tree : tree_of g (writing g s) ≡ s.tree
  unfolding writing
  good_tree = tree_back g s.live s.tree fit fits

  pub good_state : state_of g (writing g s) ≡ s
  unfolding state_of
  good_state = λ i. record { live = good_reads.live_pairs i; tree = good_tree i }

  -- It passes the whole-store test.
  pub good_sound : fault g (writing g s) ≡ Ok tt
  good_sound =
      (written_sound g s fit good fits (directory_right_lem g s (writing g s) fit good fits good_reads)
      (head_right_lem g s (writing g s) fit good fits good_reads) (page_formed_lem g s (writing g s) fit good fits good_reads)).0

  -- The walk on it finds what the tree holds, and the level of the topmost entry.
  pub good_walks : (p : Pair) → walked g (writing g s) p ≡ found (held p s.tree) (decider p s.tree)
  good_walks = walked_finds g s (writing g s) fit good fits good_reads
