-- What the calls of a sheet leave: the stored geometry stays, and the four counts that an accepted put or drop returns are those of the store as it
-- stands then; a refusal leaves the store. Assumes nothing.
use Rattle.std.specs.Prelude.{ℕ, zero, suc, ◌<◌, ◌≡◌, Bool, List, get_or, drop, ltb, eqb}
use Rattle.std.proofs.Common.{arith}
use Rattle.std.proofs.Math.Path.{refl}
use Rattle.std.proofs.Math.Bool.{true, false}
use Rattle.geometry.specs.declared.Geometry.{Geometry}
use Rattle.geometry.specs.Geometry.{most}
use Rattle.geometry.specs.Places.{live_word, head_word, ratio_word, levels_word}
use Rattle.slot.specs.declared.Pair.{Pair}
use Rattle.rules.specs.Tree.{Entry}
use Rattle.rules.specs.Merging.{entries, State}
use Rattle.rules.specs.Store.{writing, laid_out, directory}
use Rattle.fault.specs.Judged.{Judged}
use Rattle.std.specs.Prelude.{Err, Ok}
use Rattle.rules.specs.Sound.{tree_of, head_slots}
use Rattle.rules.specs.Faults.{fault}
use Rattle.geometry.specs.Directory.{geometry_of}
use Rattle.walk.specs.Walked.{Walked}
use Rattle.walk.specs.Walk.{walked}
use Rattle.edited.specs.Reach.{reach}
use Rattle.change.specs.Change.{head_edited, edited_behind, fills_head, Changed, changed_head, changed_tree, stayed, merged_change, change_of}
use Rattle.change.specs.Head.{edited_directory}
use Rattle.opening.specs.Opening.{opening_both}
use Rattle.fault.specs.declared.Fault.{Fault}
use Rattle.fault.specs.declared.Part.{Part}
use Rattle.fault.specs.declared.Part.TheVariants.{Directory, Head, Page, Writing, Kinds}
use Rattle.fault.specs.Numbers.{number_of}
use Rattle.opening.specs.Reply.{fault_number}
use Rattle.call_put.specs.Edit.{Kept, kept, faulty, changed_reply, put_found, drop_found, found_of, after_walk, after_opening, edit_of, zeros}

-- A call that was refused and left the store, or that was accepted and told the counts of the store that it left.
pub data Left (w : List ℕ) (k : Kept) : Type 0 where
  refused : (n : ℕ) → k.reply.number ≡ suc n → k.store ≡ w → Left w k
  accepted : k.reply.number ≡ 0 → drop 3 k.reply.values ≡ entries (tree_of (geometry_of w) k.store) → geometry_of k.store ≡ geometry_of w → Left w k

-- A fault is refused, whatever its part.
fault_left : (f : Fault) (w work : List ℕ) → Left w (kept (fault_number f) (faulty f) w work)
fault_left f w work = by f.part
  where
    by : (part : Part) → Left w (kept (number_of part) (faulty f) w work)
    by Directory = refused 9 refl refl
    by Head = refused 10 refl refl
    by Page = refused 11 refl refl
    by Writing = refused 12 refl refl
    by Kinds = refused 13 refl refl

-- The words of the geometry stay in an edit of the head, and stand first in a writing.
edited_geometry : (e : Entry) (behind : ℕ) (own : Bool) (w : List ℕ) → geometry_of (edited_behind e behind own w) ≡ geometry_of w
unfolding geometry_of
edited_geometry e behind own w = rw (stays head_word (omega arith), stays ratio_word (omega arith), stays levels_word (omega arith))
  where
    stays : (i : ℕ) → i < live_word → get_or (edited_behind e behind own w) i 0 ≡ get_or w i 0
    stays i h = edited_directory e behind own w i (omega arith) (λ q. omega (arith, q, h))

pub written_geometry : (g : Geometry) (s : State) → geometry_of (writing g s) ≡ g
unfolding geometry_of writing laid_out directory
written_geometry g s = refl

module _ (w work : List ℕ) where
  abbrev g : Geometry
  g = geometry_of w

  change_leaves : (e : Entry) (own : Bool) → Left w (changed_reply (change_of g e own w work))
  unfolding change_of merged_change stayed changed_tree changed_head head_edited
  change_leaves e own = by (fills_head g w own) (fault g w)
    where
      by : (fills : Bool) (f : Judged) →
          Left w (changed_reply (elim fills as (λ _. Changed) [
            | true ↦ elim f as (λ _. Changed) [ (Ok tt) ↦ changed_tree g e w work | Err i ↦ stayed i w work ]
            | false ↦ changed_head g e own w work
          ]))
      by true (Ok tt) = accepted refl refl (written_geometry g _)
      by true (Err i) = fault_left i w work
      by false f = accepted refl refl (edited_geometry e (reach e.pair (head_slots g w)) own w)

  module _ (p : Pair) (level : ℕ) where
    put_leaves : (held : Bool) → Left w (put_found w work p held level)
    unfolding put_found
    put_leaves true = refused 1 refl refl
    put_leaves false = by (ltb (get_or w live_word 0) (most g)) (change_leaves (record { pair = p; normal = true }) (eqb level 0))
      where
        by : (b : Bool) → Left w (changed_reply (change_of g (record { pair = p; normal = true }) (eqb level 0) w work)) →
            Left w (elim b as (λ _. Kept) [
              | true ↦ changed_reply (change_of g (record { pair = p; normal = true }) (eqb level 0) w work)
              | false ↦ kept 4 zeros w work
            ])
        by true l = l
        by false l = refused 3 refl refl

    drop_leaves : (held : Bool) → Left w (drop_found w work p held level)
    unfolding drop_found
    drop_leaves false = refused 2 refl refl
    drop_leaves true = by (ltb 0 (get_or w live_word 0)) (change_leaves (record { pair = p; normal = false }) (eqb level 0))
      where
        by : (b : Bool) → Left w (changed_reply (change_of g (record { pair = p; normal = false }) (eqb level 0) w work)) →
            Left w (elim b as (λ _. Kept) [
              | true ↦ changed_reply (change_of g (record { pair = p; normal = false }) (eqb level 0) w work)
              | false ↦ kept 14 zeros w work
            ])
        by true l = l
        by false l = refused 13 refl refl

  pub edit_leaves : (normal : Bool) (p : Pair) → Left w (edit_of w work normal p)
  unfolding edit_of found_of
  edit_leaves normal p = opened (opening_both w work) (walked g w p)
    where
      found : (b held : Bool) (level : ℕ) → Left w (found_of w work b p held level)
      found true held level = put_leaves p level held
      found false held level = drop_leaves p level held

      opened : (n : ℕ) (f : Walked) → Left w (after_opening w work n (after_walk w work f (found_of w work normal p)))
      opened zero (Ok f) = found normal f.held f.level
      opened zero (Err f) = fault_left f w work
      opened (suc n) f = refused n refl refl
