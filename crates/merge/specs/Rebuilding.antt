-- Levels rebuilt one after another, up to the head: from each level on, what is left to rebuild makes up the whole. Assumes nothing.
use Prim.Native.Nat.{ℕ, zero, suc, ◌+◌, ◌-◌, ◌*◌, ◌≤◌}
use Rattle.std.proofs.Common.{zero-add, ◌∙◌}
use native.Mathlib.Omega.{arith}
use Rattle.std.specs.Prelude.{◌≡◌, refl, List, [], length}
use Rattle.geometry.specs.declared.Geometry.{Geometry}
use Rattle.geometry.specs.Geometry.{InRange}
use Rattle.geometry.specs.Bounds.{room_small}
use Rattle.entries.specs.Levels.{PagesWithin}
use Rattle.merge.specs.Filling.{filled, filled_pages, Fillable, head_rebuilt, rebuilt, rebuilt_pages, Rebuildable, joined, merged, merged_pages, Mergeable}

-- The pages of the levels are few.
pub rebuilt_few : (g : Geometry) → InRange g → (i : ℕ) (w : List ℕ) → Rebuildable g i w → rebuilt_pages g i w ≤ 2000 * i
unfolding Rebuildable rebuilt_pages
rebuilt_few g fit zero w r = omega arith
rebuilt_few g fit (suc i) w r = omega (arith, r.0.enough, room_small g fit (suc i), rebuilt_few g fit i (filled g (suc i) [] w) r.1)

pub merged_few : (g : Geometry) → InRange g → (i : ℕ) (w : List ℕ) → i ≤ 3 → Mergeable g i w → merged_pages g i w ≤ 8000
unfolding merged_pages
merged_few g fit i w h m =
    omega (arith, m.fills.enough, room_small g fit (suc i), rebuilt_few g fit i (filled g (suc i) (joined g i w) w) m.rebuilds)

module _ (g : Geometry) (w : List ℕ) (level : ℕ) where
  pub record Rebuilding (v : List ℕ) (i pages : ℕ) : Type 0 where
    pub reaches : i ≤ level
    pub long : length v ≡ length w
    pub ready : Rebuildable g i v
    pub words : rebuilt g i v ≡ rebuilt g level w
    pub count : pages + rebuilt_pages g i v ≡ rebuilt_pages g level w

  pub rebuilding_begins : Rebuildable g level w → Rebuilding w level 0
  rebuilding_begins r = record { reaches = omega arith; long = refl; ready = r; words = refl; count = zero-add (rebuilt_pages g level w) }

  module _ (v : List ℕ) (pages : ℕ) where
    pub next_fillable : (i : ℕ) → Rebuilding v i pages → 1 ≤ i → Fillable g i [] v
    unfolding Rebuildable
    next_fillable zero so h = absurd (omega arith)
    next_fillable (suc i) so h = so.ready.0

    pub rebuilding_goes_on : (i : ℕ) → Rebuilding v i pages → {u : List ℕ} {r : ℕ} → 1 ≤ i → length u ≡ length v → u ≡ filled g i [] v →
        r ≡ filled_pages g i [] v → Rebuilding u (i - 1) (pages + r)
    unfolding Rebuildable rebuilt rebuilt_pages
    rebuilding_goes_on zero so h n e q = absurd (omega arith)
    rebuilding_goes_on (suc i) so {u} {r} h n e q = record {
      reaches = omega (arith, so.reaches);
      long = n ∙ so.long;
      ready = rw (before, e) so.ready.1;
      words = rw (before, e) so.words;
      count = rw (before, e) (omega (arith, q, so.count));
    }
      where
        before : suc i - 1 ≡ i
        before = omega arith

    pub rebuilding_few : (i : ℕ) → Rebuilding v i pages → InRange g → level ≤ 3 → Rebuildable g level w → pages ≤ 6000
    rebuilding_few i so fit h r = omega (arith, so.count, rebuilt_few g fit level w r)

    pub head_within : (i : ℕ) → Rebuilding v i pages → i ≡ 0 → PagesWithin g v
    unfolding Rebuildable
    head_within zero so z = so.ready
    head_within (suc i) so z = absurd (omega arith)

    pub rebuilding_ends : (i : ℕ) → Rebuilding v i pages → {u : List ℕ} → i ≡ 0 → u ≡ head_rebuilt g v → (u ≡ rebuilt g level w) × (pages ≡ rebuilt_pages g level w)
    unfolding rebuilt rebuilt_pages
    rebuilding_ends zero so z e = (e ∙ so.words, omega (arith, so.count))
    rebuilding_ends (suc i) so z e = absurd (omega arith)

-- A merge is the next level filled and those above it rebuilt.
pub merges_told : (g : Geometry) (w : List ℕ) (i : ℕ) {v u : List ℕ} {a b : ℕ} → v ≡ filled g (suc i) (joined g i w) w → a ≡ filled_pages g (suc i) (joined g i w) w →
    u ≡ rebuilt g i v → b ≡ rebuilt_pages g i v → (u ≡ merged g i w) × (a + b ≡ merged_pages g i w)
unfolding merged merged_pages
merges_told g w i e p f q = (f ∙ rw e refl, rw (p, q, e) refl)
