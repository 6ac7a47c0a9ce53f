-- Where a level's words, or the head's, first leave the writing of its own entries: the first slot that does not stand. Assumes nothing.
use Prim.Native.Nat.{ℕ, ◌+◌, ◌*◌, ◌≤◌}
use Rattle.std.proofs.Common.{◌∙◌}
use Rattle.std.specs.Prelude.{◌≡◌, List, ◌∷◌}
use Rattle.std.proofs.Math.ListN.{length, get_or}
use Rattle.std.proofs.Math.Dec.{eqb}
use Rattle.laws.specs.First.{first_not}
use Rattle.geometry.specs.Places.{slots_in_page}
use Rattle.slot.specs.declared.Slot.{Slot}
use Rattle.rules.specs.Store.{run_words, level_words}
use Rattle.rules.specs.Faults.{leaving}
use Rattle.entries.specs.declared.Run.{Run}
use Rattle.leaving.specs.Grouped.{first_agree, pages_grouped, page_grouped}
use Rattle.leaving.specs.Stands.{stands}
use Rattle.leaving.proofs.Stands.{stands_compared}
use Rattle.leaving.specs.Leaving.{head_holds, level_holds}

-- So the first slot that does not stand is where the words leave the writing.
module _ (w : List ℕ) (run : Run) (slots : List Slot) where
  pub level_leaving : (room : ℕ) → run.most ≡ slots_in_page →
      first_not (stands w run slots) (slots_in_page * room) ≡ leaving w run.start slots_in_page room (level_words slots room)
  unfolding leaving
  level_leaving room e =
      first_agree (stands w run slots) _ (21 * room) (stands_compared w run slots (level_words slots room) (21 * room) (rw e (level_holds slots room))) ∙
      rw e (pages_grouped (λ j. eqb (get_or w (run.start + j) 0) (get_or (level_words slots room) j 0)) room)

  pub head_leaving : 1 ≤ run.most → length slots ≤ run.most →
      first_not (stands w run slots) (run.most * 1) ≡ leaving w run.start run.most 1 (length slots ∷ run_words slots run.most)
  unfolding leaving
  head_leaving some fits =
      first_agree (stands w run slots) _ (run.most * 1) (stands_compared w run slots (length slots ∷ run_words slots run.most) (run.most * 1) (head_holds slots run.most fits)) ∙
      page_grouped run.most (λ j. eqb (get_or w (run.start + j) 0) (get_or (length slots ∷ run_words slots run.most) j 0)) some
