-- On the writing of a state that a cascade has come to, settling in words gives the writing of the settled state, with the deepest level and
-- the pages of the rules. Assumes nothing.
use Prim.Native.Nat.{ℕ, zero, suc, ◌+◌, ◌<◌}
use Rattle.std.proofs.Common.{arith, ◌∙◌, length-append}
use Rattle.std.specs.Prelude.{◌≡◌, Bool, [], length}
use Rattle.std.proofs.Math.Path.{refl}
use Rattle.std.proofs.Math.Bool.{true, false}
use Rattle.std.proofs.Math.Dec.{ltb}
use Rattle.laws.specs.Lists.{all_at}
use Rattle.geometry.specs.declared.Geometry.{Geometry}
use Rattle.geometry.specs.Geometry.{InRange, bottom, capacity}
use Rattle.rules.specs.Tree.{level}
use Rattle.rules.specs.Level.{slots_of}
use Rattle.rules.specs.Merging.{State, Settled, merge, pages_written, settle}
use Rattle.rules.specs.Store.{writing}
use Rattle.rules.specs.Sound.{ascending}
use Rattle.rules.specs.Good.{Cascading}
use Rattle.entries.specs.Levels.{PagesWithin}
use Rattle.good.specs.Cascade.{merged_state}
use Rattle.good.proofs.Cascade.{merged_cascading, cascading_fits}
use Rattle.merge.specs.Filling.{Outcome, outcome, room_at, settled, Settleable}
use Rattle.merge.specs.Laid.{within_laid}
use Rattle.merge.specs.Merged.{entries_laid, Merges, merged_laid}

-- What the rules settle to, in words.
unfoldable pub settled_to : Geometry → ℕ → Settled → Outcome
settled_to g live s = outcome (writing g (record { live = live; tree = s.tree })) s.deepest (length s.written)

pub record Settles (g : Geometry) (n i : ℕ) (s : State) : Type 0 where
  pub asked : Settleable g n i (writing g s)
  pub told : settled g n i (writing g s) ≡ settled_to g s.live (settle g n i s.tree)

module _ (g : Geometry) (fit : InRange g) where
  room_told : (i : ℕ) (s : State) → Cascading g i s → room_at g (writing g s) i ≡ ltb (length (level i s.tree)) (capacity g i)
  unfolding room_at writing
  room_told i s c = rw (entries_laid g s.live fit s.tree (cascading_fits g fit i s c) i c.reaches) refl

  within : (i : ℕ) (s : State) → Cascading g i s → PagesWithin g (writing g s)
  unfolding writing
  within i s c = within_laid g s.live fit (slots_of s.tree) (cascading_fits g fit i s c)

  -- A level that has room stays, and any other is merged on.
  stays : (n i : ℕ) (s : State) → Cascading g i s → ltb (length (level i s.tree)) (capacity g i) ≡ true → Settles g (suc n) i s
  unfolding Settleable settled settle settled_to
  stays n i s c e =
      let r : room_at g (writing g s) i ≡ true = room_told i s c ∙ e in
      record { asked = (within i s c, rw (r, Settleable) tt); told = rw (r, e, settled, settle) refl }

  merges : (i : ℕ) (s : State) → Cascading g i s → i < bottom g → Merges g s.live fit i s.tree
  merges i s c h =
      let next = merged_cascading g fit i s c h in
      let ascends : (j : ℕ) → j < g.levels → ascending (level j s.tree) ≡ true = λ j b. all_at ascending s.tree j [] c.ascends (omega (arith, b, c.levels)) in
      merged_laid g s.live fit i s.tree (omega (arith, h)) (cascading_fits g fit i s c) (cascading_fits g fit (suc i) (merged_state i s) next) (ascends i c.reaches) (ascends (suc i) (omega (arith, h)))

  sinks : (n i : ℕ) (s : State) → Cascading g i s → i < bottom g → ltb (length (level i s.tree)) (capacity g i) ≡ false →
      Settles g n (suc i) (merged_state i s) → Settles g (suc n) i s
  unfolding Settleable settled settle settled_to writing
  sinks n i s c h e rest =
      let r : room_at g (writing g s) i ≡ false = room_told i s c ∙ e in
      let m = merges i s c h in
      record {
        asked = (within i s c, rw (r, Settleable) (m.asked, rw m.words rest.asked));
        told =
            rw (r, e, settled, settle)
            (rw (m.words, m.pages)
            (rw rest.told (rw (length-append (pages_written (suc i) (slots_of (merge i s.tree))) (settle g n (suc i) (merge i s.tree)).written) refl)));
      }

  pub settles : (n i : ℕ) (s : State) → Cascading g i s → n + i ≡ bottom g → Settles g n i s
  unfolding Settleable settled settle settled_to
  settles zero i s c e = record { asked = within i s c; told = refl }
  settles (suc n) i s c e = chosen (ltb (length (level i s.tree)) (capacity g i)) refl (settles n (suc i) (merged_state i s))
    where
      chosen : (b : Bool) → ltb (length (level i s.tree)) (capacity g i) ≡ b →
          (Cascading g (suc i) (merged_state i s) → n + suc i ≡ bottom g → Settles g n (suc i) (merged_state i s)) → Settles g (suc n) i s
      chosen true r rest = stays n i s c r
      chosen false r rest =
          let h : i < bottom g = omega (arith, e) in
          sinks n i s c h r (rest (merged_cascading g fit i s c h) (omega (arith, e)))
