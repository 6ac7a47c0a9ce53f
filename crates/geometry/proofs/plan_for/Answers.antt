-- `plan_for` gives the plan of a geometry: each level begins where the one before it ends. Assumes nothing.
use Rattle.geometry.specs.Geometry.{rooms}
use Rattle.geometry.specs.Places.{head_room, store_words, work_words, plan_of}
use Rattle.geometry.specs.Apart.{level_one, level_after, plan_told}
use borrow.Author.Rules.{rules}
use Rattle.laws.specs.Clauses.{two_clauses}
use Rattle.geometry.proofs.plan_for.Goals as goal

pub returns : goal.returns
unfolding rooms head_room store_words work_words plan_of
returns c =
    let g = c.args.g in
    two_clauses (λ v0 v1. record { exact = v0; small = v1 }) (plan_told g c.requires
    (rw (c.max-2.ensures, c.max.ensures, c.capacities-capacities.ensures.exact, c.rooms-rooms.ensures.exact, level_one g, ← level_after g 1, ← level_after g 2, ← level_after g 3)))
