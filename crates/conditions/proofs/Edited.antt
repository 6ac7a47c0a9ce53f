-- A put or drop on the writing of a good state, lent in exact lengths: what it comes to is what the rules give. Assumes nothing.
use Rattle.std.specs.Prelude.{ℕ, suc, ◌<◌, ◌≡◌, Bool, not, cond, List, [], ◌∷◌, length, get_or, take, eqb}
use Rattle.std.proofs.Common.{arith, ap, ◌∙◌, true≢false}
use Rattle.std.proofs.Math.Path.{refl, sym}
use Rattle.std.proofs.Math.Bool.{true, false}
use Rattle.std.proofs.Math.Dec.{ltb}
use borrow.Author.Tests.{eq-eqb, ne_eqb, lt-ltb, ltb-true}
use Rattle.geometry.specs.declared.Geometry.{Geometry}
use Rattle.geometry.specs.Geometry.{InRange, most}
use Rattle.geometry.specs.Places.{live_word, work_words}
use Rattle.slot.specs.declared.Pair.{Pair}
use Rattle.slot.specs.Pair.{Words}
use Rattle.rules.specs.Finding.{held}
use Rattle.rules.specs.Merging.{State, edit, entries, Outcome, refused, done, put, remove}
use Rattle.rules.specs.Store.{writing}
use Rattle.geometry.specs.Directory.{geometry_of}
use Rattle.rules.specs.Good.{Good}
use Rattle.rules.specs.Requests.{Request, putting, dropping, step, pair_in}
use Rattle.walk.specs.Walk.{walked}
use Rattle.finding.specs.Asked.{decider}
use Rattle.good.specs.Edit.{entry, live_after}
use Rattle.good.proofs.Edit.{held_live}
use Rattle.good.specs.Calls.{put_held as put-of-held, put_full as put-of-full, put_done, remove_missing, remove_done}
use Rattle.promises.specs.Calls.{ComesTo, refusal, edited}
use Rattle.promises.specs.Written.{good_reads, good_geometry, good_walks}
use Rattle.change.specs.Change.{change_of}
use Rattle.opening.specs.Opening.{opening_both, both_pass}
use Rattle.call_put.specs.Edit.{Kept, kept, zeros, changed_reply, put_found, drop_found, found_of, edit_of, edit_walked, put_held, put_full, put_changes, drop_missing, drop_changes}
use Rattle.conditions.specs.Calls.{change_on}
use Rattle.conditions.specs.Changed.{work_after, ruled_change}
use Rattle.conditions.proofs.Changed.{change_written}
use Rattle.conditions.specs.Opened.{opens}
use Rattle.conditions.specs.Edited.{kept_by, told_by}

module _ (g : Geometry) (fit : InRange g) (s : State) (good : Good g s) (work : List ℕ) (exact : length work ≡ work_words g) where
  abbrev w : List ℕ
  w = writing g s

  stored : geometry_of w ≡ g
  stored = good_geometry g s fit good

  live_read : get_or w live_word 0 ≡ s.live
  live_read = (good_reads g s fit good).live_pairs

  both_open : opening_both w work ≡ 0
  both_open = both_pass w work (opens g fit s good) (rw stored (eq-eqb (length work) (work_words g) exact))

  module _ (p : Pair) where
    found : (normal : Bool) → found_of w work normal p (held p s.tree) (decider p s.tree) ≡ edit_of w work normal p
    found normal = rw (ap (λ (h : Geometry). walked h w p) stored ∙ good_walks g s fit good p) at (edit_walked w work normal p both_open)

    -- What changes, where the rules accept it.
    module _ (pair : Words p) (normal : Bool) (h : held p s.tree ≡ not normal) (room : normal ≡ true → s.live < most g) where
      changes : changed_reply (change_of (geometry_of w) (entry p normal) (eqb (decider p s.tree) 0) w work) ≡
          kept_by g (done (live_after normal s.live) (edit g (entry p normal) s.tree)) work
      unfolding ruled_change kept_by told_by done
      changes = rw stored (ap changed_reply (change_written g fit s good p normal pair h room work))

    put_kept : Words p → edit_of w work true p ≡ kept_by g (put g p s) work
    unfolding found_of kept_by told_by refused work_after live_after
    put_kept pair = sym (found true) ∙ told (held p s.tree) refl (ltb s.live (most g)) refl
      where
        told : (h : Bool) → held p s.tree ≡ h → (l : Bool) → ltb s.live (most g) ≡ l →
            put_found w work p (held p s.tree) (decider p s.tree) ≡ kept_by g (put g p s) work
        told true e l k = sym (put_held w work p (decider p s.tree) (held p s.tree) e) ∙ rw (put-of-held g p s e) refl
        told false e false k =
            sym (put_full w work p (decider p s.tree) (held p s.tree) e (rw (live_read, stored) k)) ∙ rw (put-of-full g p s e k) refl
        told false e true k =
            sym (put_changes w work p (decider p s.tree) (held p s.tree) e (rw (live_read, stored) k)) ∙
            changes pair true e (λ n. ltb-true s.live (most g) k) ∙ rw (put_done g p s e k) refl

    drop_kept : Words p → edit_of w work false p ≡ kept_by g (remove g p s) work
    unfolding found_of kept_by told_by refused work_after live_after
    drop_kept pair = sym (found false) ∙ told (held p s.tree) refl
      where
        told : (h : Bool) → held p s.tree ≡ h → drop_found w work p (held p s.tree) (decider p s.tree) ≡ kept_by g (remove g p s) work
        told false e = sym (drop_missing w work p (decider p s.tree) (held p s.tree) e) ∙ rw (remove_missing g p s e) refl
        told true e =
            sym (drop_changes w work p (decider p s.tree) (held p s.tree) e (rw live_read (lt-ltb 0 s.live (held_live g s p good e)))) ∙
            changes pair false e (λ n. absurd (true≢false (sym n))) ∙ rw (remove_done g p s e) refl

  pub change_kept : (r : Request) → Words (pair_in r) → change_on r w work ≡ kept_by g (step g r s) work
  unfolding change_on step
  change_kept (putting p) pair = put_kept p pair
  change_kept (dropping p) pair = drop_kept p pair
