-- An ask, and a why, depends on its pair, the store's length, the directory, the head and at most one page in each lower level, and on nothing else. The
-- stores are of any words. Assumes nothing.
use Prim.Native.Nat.{ℕ, zero, suc, ◌*◌, ◌≤◌}
use Rattle.std.specs.Prelude.{◌≡◌, List, [], length, Result}
use Rattle.std.proofs.Math.Path.{refl, ap}
use Rattle.std.proofs.Common.{sym, ◌∙◌}
use Rattle.geometry.specs.Geometry.{bottom}
use Rattle.geometry.specs.Places.{head_start, words_in_slot, head_room}
use Rattle.slot.specs.declared.Pair.{Pair}
use Rattle.geometry.specs.Directory.{geometry_of}
use Rattle.walk.specs.Walk.{walked}
use Rattle.walk.specs.Trail.{walk_lines, pages_below}
use Rattle.walk.specs.declared.Found.{Found}
use Rattle.opening.specs.declared.Refusal.{Refusal}
use Rattle.opening.specs.Reply.{Reply, by_first}
use Rattle.opening.specs.Opening.{open_tests, opening, opened_range}
use Rattle.call_ask.specs.Ask.{ask_reply, walk_reply, ask_of, ask_refused_lem, ask_walked}
use Rattle.call_why.specs.Why.{why_lines, why_words, why_of}
use Rattle.replies.specs.Unique.{ask_has_one_answer}
use Rattle.locality.specs.Reads.{pages_read, pages_read_lem, reads_few}
use Rattle.locality.specs.Inside.{PagesInside, reads_lie_inside}
use Rattle.locality.specs.Agree.{Same, SamePages, same_geometry}
use Rattle.locality.specs.Walks.{same_walk}
use Rattle.locality.specs.Locality.{AgreeFor}

module _ (asked : Pair) (w v : List ℕ) (agree : AgreeFor asked w v) where
  same_opening : opening w ≡ opening v
  unfolding opening open_tests
  same_opening = rw (agree.one_length, same_geometry w v agree.directory)

  -- Where the opening tests pass, the walks are the same.
  module _ (opened : opening w ≡ 0) where
    same_walks : (walked (geometry_of w) w asked ≡ walked (geometry_of w) v asked) × (walk_lines (geometry_of w) w asked ≡ walk_lines (geometry_of w) v asked)
    same_walks =
        same_walk (geometry_of w) w v asked (opened_range w opened).levels_most agree.directory agree.head
        (rw (pages_read_lem w asked, opened) at agree.pages)

  -- The two stores give the same answer.
  pub ask_local : ask_of w asked ≡ ask_of v asked
  ask_local = by (opening w) refl
    where
      by : (n : ℕ) → opening w ≡ n → ask_of w asked ≡ ask_of v asked
      by zero e =
          sym (ask_walked w asked e) ∙ ap walk_reply ((same_walks e).0 ∙ ap (λ g. walked g v asked) (same_geometry w v agree.directory)) ∙
          ask_walked v asked (sym same_opening ∙ e)
      by (suc n) e = sym (ask_refused_lem w asked n e) ∙ ask_refused_lem v asked n (sym same_opening ∙ e)

  -- The same lines are told of both, with the page read in each level, how many of its slots are at most the pair, and what it told.
  pub lines_local : why_lines w asked ≡ why_lines v asked
  unfolding why_lines
  lines_local = rw (← same_opening, ← (same_geometry w v agree.directory)) (by (opening w) refl)
    where
      by : (n : ℕ) → opening w ≡ n → by_first n (walk_lines (geometry_of w) w asked) (λ n. []) ≡ by_first n (walk_lines (geometry_of w) v asked) (λ n. [])
      by zero e = (same_walks e).1
      by (suc n) e = refl

  pub reads_local : pages_read w asked ≡ pages_read v asked
  unfolding pages_read
  reads_local = ap pages_below lines_local

  pub why_local : why_of w asked ≡ why_of v asked
  unfolding why_of why_words
  why_local = rw (ask_local, lines_local)

  -- So it is with what ask returns, and with the number and values that the C interface gives.
  pub ask_returns_local : (a b : Result Found Refusal) → ask_reply a ≡ ask_of w asked → ask_reply b ≡ ask_of v asked → a ≡ b
  ask_returns_local a b p q = ask_has_one_answer w asked a b p (q ∙ sym ask_local)

  pub ask_replies_local : (m n : ℕ) (out other : List ℕ) → record { number = m; values = out } ≡ ask_of w asked →
      record { number = n; values = other } ≡ ask_of v asked → (m ≡ n) × (out ≡ other)
  ask_replies_local m n out other p q =
      let e : ◌≡◌ {A = Reply} (record { number = m; values = out }) (record { number = n; values = other }) = p ∙ ask_local ∙ sym q in
      (ap (λ (r : Reply). r.number) e, ap (λ (r : Reply). r.values) e)
