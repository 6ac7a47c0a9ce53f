-- A store passes the whole-store test exactly if it is the writing of a good state: the state that its words hold. Assumes nothing.
use Rattle.std.specs.Prelude.{ℕ, ◌≤◌, ◌<◌, ◌≡◌, true, List, length, get_or}
use Rattle.std.specs.Prelude.{Ok}
use Rattle.geometry.specs.declared.Geometry.{Geometry}
use Rattle.geometry.specs.Geometry.{InRange}
use Rattle.geometry.specs.Places.{live_word, store_words}
use Rattle.rules.specs.Level.{slots_of}
use Rattle.rules.specs.Merging.{State}
use Rattle.rules.specs.Store.{laid_out, writing}
use Rattle.rules.specs.Sound.{tree_of, directory_right, head_right, page_formed}
use Rattle.rules.specs.Faults.{fault}
use Rattle.rules.specs.Faultless.{fault_sound, sound_fault}
use Rattle.geometry.specs.Directory.{geometry_of, pages_of}
use Rattle.rules.specs.Good.{Good, Fits}
use Rattle.stored.specs.Parts.{parts_laid, laid_parts}
use Rattle.stored.specs.Back.{state_of, tree_back}
use Rattle.stored.specs.Fitting.{WordsFit}
use Rattle.stored.specs.Told.{parts, good}
use Rattle.stored.specs.Passes.{passes}

-- A store that passes is the writing of the state that it holds.
pub sound_written : (g : Geometry) (w : List ℕ) → InRange g → geometry_of w ≡ g → length w ≡ store_words g → WordsFit w → fault g w ≡ Ok tt →
    (w ≡ writing g (state_of g w)) × Good g (state_of g w)
unfolding writing state_of
sound_written g w fit e whole words h =
    let passed = fault_sound g w h in (
      parts_laid g (get_or w live_word 0) (slots_of (tree_of g w)) fit w (parts g w fit whole passed e),
      good g w fit whole passed words,
    )

-- The writing of a good state passes, and is read back.
pub written_sound : (g : Geometry) (s : State) → InRange g → Good g s → Fits g (slots_of s.tree) → directory_right g (writing g s) ≡ true →
    head_right g (writing g s) ≡ true → ((i p : ℕ) → 1 ≤ i → i < g.levels → p < pages_of g (writing g s) i → page_formed g (writing g s) i p ≡ true) →
    (fault g (writing g s) ≡ Ok tt) × (tree_of g (writing g s) ≡ s.tree)
unfolding writing
written_sound g s fit good fits right head_right_lem formed =
    let w = laid_out g s.live (slots_of s.tree) in
    let p = laid_parts g s.live (slots_of s.tree) fit fits.head in
    (sound_fault g w (passes g s w fit good fits p right head_right_lem formed), tree_back g s.live s.tree fit fits)
