-- `note` writes the five words of a line at the line's place, if the trail has room for them. Assumes nothing.
use Prim.Native.Nat.{suc, ◌+◌, ◌*◌}
use mathlib.Core.Path.{◌≡◌, refl}
use borrow.Author.Tests.{le-leb, lt-leb}
use Rattle.trail_words.specs.Places.{line_start}
use Rattle.walk.specs.Lines.{line_words, note_at, numbers_seen}
use native.Mathlib.Omega.{arith}
use Rattle.walk.proofs.note.Goals as goal

pub returns-then-at-trail : goal.returns-then-at-trail
unfolding note_at line_start line_words
returns-then-at-trail c =
    let level = c.args.level in
    let zero : 2 + 5 * level + 0 ≡ 2 + 5 * level = omega arith in
    let one : 2 + 5 * level + 1 ≡ suc (2 + 5 * level) = omega arith in
    let two : 2 + 5 * level + 2 ≡ suc (suc (2 + 5 * level)) = omega arith in
    let three : 2 + 5 * level + 3 ≡ suc (suc (suc (2 + 5 * level))) = omega arith in
    let four : 2 + 5 * level + 4 ≡ suc (suc (suc (suc (2 + 5 * level)))) = omega arith in
    λ part.
    let numbers = numbers_seen part level c.args.page.0 c.args.look.step in
    rw (le-leb _ _ c.if-at-trail.true, zero, one, two, three, four, c.follow_number.ensures, c.entry_number.ensures, numbers.0, numbers.1) refl

pub returns-else-at-trail : goal.returns-else-at-trail
unfolding note_at line_start
returns-else-at-trail c = λ part. rw (lt-leb _ _ c.if-at-trail.false) refl
