-- An ask, and a why, depends on its pair, the store's length, the directory, the head and at most one page in each lower level, and on nothing else. The
-- stores are of any words. Assumes nothing.
use Prim.Native.Nat.{ℕ, zero, suc, ◌*◌, ◌≤◌}
use Rattle.std.specs.Prelude.{◌≡◌, List, [], length}
use Rattle.std.proofs.Math.Path.{refl, ap}
use Rattle.std.proofs.Common.{sym, ◌∙◌}
use Rattle.geometry.specs.Geometry.{bottom}
use Rattle.geometry.specs.Places.{head_start, words_in_slot, head_room}
use Rattle.slot.specs.declared.Pair.{Pair}
use Rattle.geometry.specs.Directory.{geometry_of}
use Rattle.walk.specs.Walk.{walked}
use Rattle.walk.specs.Trail.{walk_lines, pages_below}
use Rattle.opening.specs.Reply.{Reply, by_first}
use Rattle.opening.specs.Opening.{open_tests, opening, opened_range}
use Rattle.call_ask.specs.Ask.{ask_reply, walk_reply, ask_of, ask_refused_lem, ask_walked}
use Rattle.call_why.specs.Why.{why_lines, why_words, why_of}
use Rattle.replies.specs.Unique.{ask_has_one_answer}
use Rattle.locality.specs.Reads.{pages_read, pages_read_lem, reads_few}
use Rattle.locality.specs.Inside.{PagesInside, reads_lie_inside}
use Rattle.locality.specs.Agree.{Same, SamePages, same_geometry}
use Rattle.locality.specs.Walks.{same_walk}

-- Two stores of one length agree on the directory (words 0..8), the head (H + Pg(1) slots) and the pages that an ask of the pair reads.
pub record AgreeFor (asked : Pair) (w v : List ℕ) : Type 0 where
  pub one_length : length w ≡ length v
  pub directory : Same w v 0 head_start
  pub head : Same w v head_start (words_in_slot * head_room (geometry_of w))
  pub pages : SamePages (geometry_of w) w v 1 (pages_read w asked)

-- There is at most one such page in each lower level, and each lies inside the store.
pub one_page_a_level : (w : List ℕ) (asked : Pair) → length (pages_read w asked) ≤ bottom (geometry_of w)
one_page_a_level = reads_few

pub pages_inside : (w : List ℕ) (asked : Pair) → PagesInside (geometry_of w) (length w) 1 (pages_read w asked)
pages_inside = reads_lie_inside
