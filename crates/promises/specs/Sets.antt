-- Condition 2 on the rules: after any requests from a formatted store the pairs held are those of the plain set after the same requests,
-- live is its size, and the replies are the same. Assumes nothing.
use Rattle.std.specs.Prelude.{ℕ, ◌≡◌, length}
use mathlib.Core.List.{List, map}
use Rattle.geometry.specs.declared.Geometry.{Geometry}
use Rattle.slot.specs.declared.Pair.{Pair}
use Rattle.rules.specs.Finding.{held}
use Rattle.rules.specs.Merging.{State, Outcome}
use Rattle.rules.specs.Good.{Good}
use Rattle.promises.specs.Plain.{has, Rises, PairsFit}
use Rattle.promises.specs.Answers.{Answered}

-- A good state that holds the pairs of a set.
pub record Holds (g : Geometry) (s : State) (set : List Pair) : Type 0 where
  pub good : Good g s
  pub members : (p : Pair) → held p s.tree ≡ has p set
  pub size : s.live ≡ length set
  pub rises : Rises 0 set
  pub fit : PairsFit set

-- The reply numbers of requests one after another.
abbrev pub replies : List Outcome → List ℕ
replies os = map (λ o. o.reply) os

abbrev pub plain_replies : List Answered → List ℕ
plain_replies rest = map (λ a. a.reply) rest

-- A request that comes to the same on both.
pub record Agrees (g : Geometry) (o : Outcome) (a : Answered) : Type 0 where
  pub reply : o.reply ≡ a.reply
  pub after : Holds g o.after a.after
