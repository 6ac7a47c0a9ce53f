-- `level_place` gives a level's place: of one that exists by `place_lent`, below the bottom by `place_past`. Assumes nothing.
use Rattle.geometry.proofs.Lent.{place_lent, place_past}
use native.Mathlib.Omega.{arith}
use borrow.Author.Rules.{rules}
use Rattle.geometry.proofs.Store.level_place.Goals as goal

pub returns-then-self-level : goal.returns-then-self-level
returns-then-self-level c =
    let s = c.args.self.now in
    place_past s.geometry s.plan s.words.now s.lent c.args.level c.if-self-level.true c.requires.1

pub returns : goal.returns
returns c =
    let s = c.args.self.now in
    place_lent s.geometry s.plan s.words.now s.lent c.args.level c.requires.0 (omega (arith, c.if-self-level.false)) c.at_level.ensures c.at_level-2.ensures
