-- The head edited in the writing of a good state: the writing of the state with its head toggled. Assumes nothing.
use Prim.Native.Nat.{ℕ}
use Rattle.std.proofs.Common.{arith, eq-eqb, ne_eqb}
use Rattle.std.specs.Prelude.{◌≡◌, get_or, eqb}
use Rattle.std.proofs.Math.Path.{refl}
use Rattle.geometry.specs.declared.Geometry.{Geometry}
use Rattle.geometry.specs.Geometry.{InRange}
use Rattle.geometry.specs.Places.{live_word}
use Rattle.rules.specs.Tree.{Entry, Tree, level}
use Rattle.rules.specs.Finding.{Met, absent, met, find}
use Rattle.rules.specs.Merging.{State}
use Rattle.rules.specs.Store.{writing}
use Rattle.rules.specs.Good.{Good}
use Rattle.finding.specs.Asked.{decider, head_decides, below_decides}
use Rattle.good.specs.Edit.{live_after, toggled_state}
use Rattle.edited.specs.Written.{added_written, removed_written}
use Rattle.promises.specs.Written.{good_reads}
use Rattle.change.specs.Change.{toggled_behind, edited_behind, head_edited}

-- The pair's own entry goes where the head decides on the pair, and else the entry comes.
module _ (g : Geometry) (fit : InRange g) (s : State) (good : Good g s) (e : Entry) where
  abbrev t : Tree
  t = s.tree

  pub head_toggled : head_edited g e (eqb (decider e.pair t) 0) (writing g s) ≡ writing g (toggled_state e s)
  unfolding head_edited edited_behind toggled_behind
  head_toggled = by_entry (find e.pair (level 0 t)) refl
    where
      live : ℕ
      live = live_after e.normal s.live

      live_read : get_or (writing g s) live_word 0 ≡ s.live
      live_read = (good_reads g s fit good).live_pairs

      by_entry : (m : Met) → find e.pair (level 0 t) ≡ m → head_edited g e (eqb (decider e.pair t) 0) (writing g s) ≡ writing g (toggled_state e s)
      by_entry absent f =
          let below = below_decides e.pair t (omega (arith, good.levels, fit.levels_least)) f in
          rw (ne_eqb (decider e.pair t) 0 (λ q. omega (arith, q, below)), live_read) (added_written g s e live fit good f)
      by_entry (met b) f = rw (eq-eqb (decider e.pair t) 0 (head_decides e.pair t b f), live_read) (removed_written g s e live fit good b f)
