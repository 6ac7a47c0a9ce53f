-- The entries that a level is filled with: those of a level and the next joined, or none. Assumes nothing.
use Rattle.std.specs.Prelude.{ℕ, suc, ◌+◌, ◌<◌, ◌≡◌, List, [], length}
use Rattle.std.proofs.Math.Numerals.{add-one}
use Rattle.std.proofs.Common.{arith, ◌∙◌}
use Rattle.std.proofs.Math.Path.{refl}
use Rattle.geometry.specs.declared.Geometry.{Geometry}
use Rattle.geometry.specs.declared.Plan.{Plan}
use Rattle.geometry.specs.Lent.{Lent}
use Rattle.rules.specs.Merging.{join}
use Rattle.rules.specs.Sound.{ascending}
use Rattle.entries.specs.declared.Run.{Run}
use Rattle.entries.specs.Run.{entries_in}
use Rattle.writer.specs.Source.{empty_run, empty_entries, empty_inside}
use Rattle.merge.specs.Filling.{filled, filled_pages, Fillable, run_at, joined, Mergeable}
use Rattle.merge.specs.Runs.{run_inside}
use Rattle.merge.specs.Source.{Joinable}

-- Two runs without entries.
module _ (w : List ℕ) {upper lower : Run} (u : upper ≡ empty_run) (l : lower ≡ empty_run) where
  pub none_joined : join (entries_in w upper) (entries_in w lower) ≡ []
  unfolding join
  none_joined = rw (u, l, empty_entries w) refl

  pub none_joinable : Joinable w upper lower
  unfolding ascending
  none_joinable =
      rw (u, l)
      (record {
        upper_inside = empty_inside (length w);
        lower_inside = empty_inside (length w);
        upper_ascends = rw (empty_entries w) refl;
        lower_ascends = rw (empty_entries w) refl;
      })

-- The runs of a level and the next.
module _ (g : Geometry) (w : List ℕ) (i : ℕ) {upper lower : Run} (u : upper ≡ run_at g w i) (l : lower ≡ run_at g w (i + 1)) where
  pub levels_joined : join (entries_in w upper) (entries_in w lower) ≡ joined g i w
  unfolding joined
  levels_joined = rw (u, l, add-one i) refl

  pub levels_joinable : (plan : Plan) → Lent g plan w → suc i < g.levels → Mergeable g i w → Joinable w upper lower
  levels_joinable plan lent h m =
      rw (u, l, add-one i)
      (record {
        upper_inside = run_inside g plan w lent m.fills.within i (omega arith);
        lower_inside = run_inside g plan w lent m.fills.within (suc i) h;
        upper_ascends = m.upper_ascends;
        lower_ascends = m.lower_ascends;
      })

  pub levels_fillable : Mergeable g i w → Fillable g (i + 1) (join (entries_in w upper) (entries_in w lower)) w
  levels_fillable m = rw (levels_joined, add-one i) m.fills

  pub levels_told : {v : List ℕ} {r : ℕ} → v ≡ filled g (i + 1) (join (entries_in w upper) (entries_in w lower)) w →
      r ≡ filled_pages g (i + 1) (join (entries_in w upper) (entries_in w lower)) w → (v ≡ filled g (suc i) (joined g i w) w) × (r ≡ filled_pages g (suc i) (joined g i w) w)
  levels_told a b = (a ∙ rw (levels_joined, add-one i) refl, b ∙ rw (levels_joined, add-one i) refl)
