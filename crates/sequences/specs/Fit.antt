-- What a sequence's numbers and the lengths of what is lent must be, and that a plan's numbers are such. Assumes nothing.
use Rattle.std.specs.Prelude.{◌≡◌, ℕ, ◌-◌, ◌≤◌, List, length, take, slice_index}
use Rattle.std.proofs.Common.{arith, ◌∙◌, length-take-le}
use Rattle.geometry.specs.declared.Geometry.{Geometry}
use Rattle.geometry.specs.declared.Plan.{Plan}
use Rattle.geometry.specs.Geometry.{InRange, bottom, most}
use Rattle.geometry.specs.Places.{level_start, plan_of, store_words, work_words, directory_words}
use Rattle.geometry.specs.Bounds.{PlanSmall, capacity_least, capacity_small, room_least}
use Rattle.geometry.specs.Apart.{plan_small, level_inside}
use Rattle.geometry.specs.Lent.{Lent, lent, plan_words}
use Rattle.geometry.proofs.Lent.{most_at, starts_at}
use Rattle.sequences.specs.declared.Sequence.{Sequence}

-- M is 1 to 32,768, and the directory and the head lie inside a store of `words` words.
pub record Fit (s : Sequence) (words : ℕ) : Type 0 where
  pub most_least : 1 ≤ s.most
  pub most_most : s.most ≤ 32768
  pub head_least : directory_words ≤ s.head_words
  pub head_most : s.head_words ≤ words

-- A work area has words, and they can be numbered.
pub record WorkFit (words : ℕ) : Type 0 where
  pub least : 1 ≤ words
  pub most : words ≤ 1000000

-- M and the words before level 1 are those of a plan.
pub record Planned (g : Geometry) (plan : Plan) (s : Sequence) : Type 0 where
  pub most_is : s.most ≡ slice_index plan.capacities (bottom g)
  pub head_is : s.head_words ≡ slice_index plan.starts 1

fit : (g : Geometry) (plan : Plan) (s : Sequence) (w : List ℕ) → Lent g plan w → Planned g plan s → Fit s (length w)
unfolding most store_words level_start
fit g plan s w l p =
    let m : s.most ≡ most g = p.most_is ∙ most_at g plan w l in
    let h : s.head_words ≡ level_start g 1 = p.head_is ∙ starts_at g plan w l 1 (omega arith) (omega arith) in
    record {
      most_least = omega (arith, m, capacity_least g l.in_range_lem (bottom g));
      most_most = omega (arith, m, capacity_small g l.in_range_lem (bottom g) (omega (arith, l.in_range_lem.levels_most)));
      head_least = omega (arith, h);
      head_most = omega (arith, h, l.exact, level_inside g 0 (omega arith));
    }

work_fit : (g : Geometry) (plan : Plan) → InRange g → plan ≡ plan_of g → WorkFit plan.work_words
unfolding plan_of work_words
work_fit g plan r e =
    record {
      least = rw e (omega (arith, room_least g r 1 (omega arith) (omega (arith, r.levels_least))));
      most = omega (arith, small.work_below);
    }
  where
    small : PlanSmall plan
    small = rw e (plan_small g r)

-- The first words of a store and of a work area, as many as the plan has, are such.
pub parts_fit : (g : Geometry) (plan : Plan) (s : Sequence) (store work : List ℕ) → InRange g → plan ≡ plan_of g → Planned g plan s →
    plan.store_words ≤ length store → plan.work_words ≤ length work →
    Fit s (length (take (plan.store_words - 0) store)) × WorkFit (length (take (plan.work_words - 0) work))
parts_fit g plan s store work r e p a b =
    let x : length (take (plan.store_words - 0) store) ≡ plan.store_words = length-take-le (plan.store_words - 0) store (omega arith) ∙ omega arith in
    let y : length (take (plan.work_words - 0) work) ≡ plan.work_words = length-take-le (plan.work_words - 0) work (omega arith) ∙ omega arith in
    (fit g plan s (take (plan.store_words - 0) store) (lent g plan (take (plan.store_words - 0) store) r e (x ∙ plan_words plan g e)) p, rw y (work_fit g plan r e))
