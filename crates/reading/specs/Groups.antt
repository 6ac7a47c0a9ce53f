-- From the lines of a group, as they were read, to its request or its first faulty line. Assumes nothing.
use Rattle.std.specs.Prelude.{ℕ, ◌+◌, ◌<◌, ◌≡◌, List, length, drop, Some, None, Err}
use Rattle.std.proofs.Common.{add-zero, arith, ◌∙◌, length-drop}
use Rattle.lines.specs.Lines.{Line, first_among, rest_of}
use Rattle.lines.specs.Number.{value}
use Rattle.lines.specs.Told.{ahead, ReadAs}
use Rattle.reading.specs.declared.Operation.{Operation}
use Rattle.reading.specs.Sheet.{badge_name, floor_name, operation, group, requests_from, requests_here}
use Rattle.reading.specs.Told.{NamedAs, Requested, GroupAs}

module _ (w : List ℕ) (at : ℕ) (here : at < length w) where
  abbrev lines : List Line
  lines = ahead w at

  step : (n : ℕ) →
      requests_from n lines ≡ group n (operation (first_among lines)) (value badge_name (first_among (rest_of lines))) (value floor_name (first_among (rest_of (rest_of lines))))
      (requests_from (n + 3) (rest_of (rest_of (rest_of lines))))
  step n = requests_here n (drop at w) (omega (arith, length-drop at w))

  pub group_unnamed : NamedAs w at None → GroupAs w at (Err 0)
  group_unnamed e = (omega arith, λ n. step n ∙ rw (e, add-zero n))

  module _ (op : Operation) (badge-at : ℕ) (p : NamedAs w at (Some (op, badge-at))) where
    pub group_badgeless : ReadAs w badge-at 6 (value badge_name) None → GroupAs w at (Err 1)
    group_badgeless e = (omega arith, λ n. step n ∙ rw (p.0, p.1.follows, e))

    module _ (badge floor-at : ℕ) (q : ReadAs w badge-at 6 (value badge_name) (Some (badge, floor-at))) where
      pub group_floorless : ReadAs w floor-at 6 (value floor_name) None → GroupAs w at (Err 2)
      group_floorless e = (omega arith, λ n. step n ∙ rw (p.0, p.1.follows, q.0, q.1.follows, e))

      pub group_read : (floor next : ℕ) → ReadAs w floor-at 6 (value floor_name) (Some (floor, next)) →
          Requested w at (record { operation = op; pair = record { badge = badge; floor = record { 0 = floor } } }) next
      group_read floor next r = record {
        joins = λ n. step n ∙ rw (p.0, p.1.follows, q.0, q.1.follows, r.0, r.1.follows);
        passes = omega (arith, p.1.passes, q.1.passes, r.1.passes);
        within = r.1.within;
      }
