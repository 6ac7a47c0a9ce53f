-- The writing of a level's entries over the first slots below as they stand, where the level below is written in slots: it is their writing
-- over those slots. Assumes nothing.
use Rattle.std.specs.Prelude.{ℕ, zero, suc, ◌*◌, ◌≤◌, ◌<◌, ◌≡◌, List, map, length, take, drop}
use Rattle.std.proofs.Common.{zero-add, arith, ap, eq-eqb, ne_eqb}
use Rattle.std.proofs.Math.Path.{refl}
use Rattle.laws.specs.Flat.{span_agree}
use Rattle.geometry.specs.declared.Geometry.{Geometry}
use Rattle.geometry.specs.Geometry.{bottom, room}
use Rattle.geometry.specs.Places.{level_start, store_words}
use Rattle.slot.specs.declared.Pair.{Pair}
use Rattle.slot.specs.declared.Slot.{Slot}
use Rattle.rules.specs.Tree.{Level}
use Rattle.rules.specs.Level.{index, external, pages_for, first_among, fence_of, fences, weave, paged, over}
use Rattle.rules.specs.Store.{level_words}
use Rattle.rules.specs.Sound.{first_at, level_laid}
use Rattle.geometry.specs.Directory.{pages_of}
use Rattle.rules.specs.Pages.{pages_inside}
use Rattle.stored.specs.Reading.{first_stands}

-- Fences to the same pages agree where those pages' first pairs do; that of page 0 is never asked.
fences_agree : (f h : ℕ → Pair) (n : ℕ) → ((p : ℕ) → 1 ≤ p → p < n → f p ≡ h p) → fences f n ≡ fences h n
unfolding fences fence_of
fences_agree f h n e = span_agree (fence_of f) (fence_of h) 0 0 n (λ k b. rw (zero-add k) (each k b))
  where
    each : (k : ℕ) → k < n → fence_of f k ≡ fence_of h k
    each zero b = refl
    each (suc k) b = ap (λ (a : Pair). external a (suc k)) (e (suc k) (omega arith) b)

module _ (g : Geometry) (w : List ℕ) (i : ℕ) where
  -- In the bottom stand index entries alone.
  pub laid_bare : (es : Level) → suc i ≡ g.levels → level_laid g w i es ≡ map index es
  unfolding level_laid
  laid_bare es e = rw (eq-eqb i (bottom g) (omega arith), level_laid)

  -- Above it, the level below is written in slots.
  module _ (below : List Slot) (whole : length w ≡ store_words g) (exists : suc i < 4) (pages : pages_of g w (suc i) ≡ pages_for (length below))
      (fits : pages_for (length below) ≤ room g (suc i))
      (stands : take (64 * room g (suc i)) (drop (level_start g (suc i)) w) ≡ level_words below (room g (suc i))) where
    pub woven_over : (es : Level) → weave es (fences (first_at g w (suc i)) (pages_of g w (suc i))) ≡ over es below
    unfolding over
    woven_over es =
        let n = pages_for (length below) in
        rw (
          pages,
          fences_agree (first_at g w (suc i)) (first_among below) n (λ p l b. first_stands g w (suc i) below whole exists fits stands p (pages_inside (length below) p l b)),
        ) refl

    pub laid_over_lem : (es : Level) → suc i < g.levels → level_laid g w i es ≡ paged 0 0 (over es below)
    unfolding level_laid
    laid_over_lem es u = rw (ne_eqb i (bottom g) (λ e. omega (arith, e, u)), level_laid) (ap (paged 0 0) (woven_over es))
