-- The writing of a level goes on with the wanted slot, and slots that follow the stream are the writing of their own entries. Assumes nothing.
use Prim.Native.Nat.{ℕ, zero, suc, ◌+◌, ◌-◌, ◌%◌, ◌≤◌, ◌<◌}
use Rattle.std.proofs.Math.Numerals.{add-one}
use native.Mathlib.Omega.{arith}
use Rattle.std.proofs.Math.Path.{◌≡◌, refl, sym, ap}
use Rattle.std.proofs.Common.{◌∙◌}
use Rattle.std.specs.Prelude.{Bool, ◌&&◌, ◌||◌}
use Rattle.std.proofs.Math.Bool.{true, false, cond, not}
use mathlib.Core.List.{List, [], ◌∷◌}
use Rattle.std.proofs.Math.Dec.{leb, eqb}
use borrow.Author.Tests.{leb-true, leb-false, not-true, eqb-true, eq-eqb}
use Rattle.laws.specs.Tests.{and_left, and_right}
use Rattle.laws.specs.Lists.{span}
use Rattle.slot.specs.declared.Pair.{Pair}
use Rattle.slot.specs.declared.Slot.{Slot}
use Rattle.slot.specs.declared.Kind.{Kind}
use Rattle.slot.specs.declared.Kind.TheVariants.{Normal, Filter, External, Internal}
use Rattle.slot.specs.Pair.{before, least}
use Rattle.slot.specs.Tag.{kind_number, tag_of, kind_back}
use Rattle.rules.specs.Tree.{Entry, Level}
use Rattle.rules.specs.Level.{index, external, internal, fence_kind, fence_of, place, weave, paged}
use Rattle.rules.specs.Finding.{normal_kind}
use Rattle.rules.specs.Sound.{entries_of}
use Rattle.geometry.specs.Places.{slots_in_page}
use Rattle.layout.specs.Stream.{are_stream, cut, cut_entry, cut_fence, cut_first, ended, entry_next, entry_passed, fence_passed, fenced_at, fences_from, internal_passed, laid_ended, laid_fence, laid_from, left, left_behind, passed, same_slot, same_slot_lem, slot_same, wanted, weave_entry, weave_fence}

module _ (inner : Bool) (first : ℕ → Pair) (below : ℕ) where
  laid_entry : (n p : ℕ) (e : Entry) (es : Level) (b : Bool) → fenced_at inner n ≡ b → entry_next first below p e.pair ≡ true → cut inner n p (weave (e ∷ es) (fences_from inner first below p)) ≡
      cond b (internal e.pair (p - 1)) (index e) ∷
      cut inner (n + 1) (passed (cond b (internal e.pair (p - 1)) (index e)).kind p)
      (weave (cond (not b) es (e ∷ es)) (fences_from inner first below (passed (cond b (internal e.pair (p - 1)) (index e)).kind p)))
  unfolding fenced_at
  laid_entry n p e es true f q =
      rw (internal_passed e.pair (p - 1) p, weave_entry inner first below p e es q) (cut_first inner first below inner n p e (weave es (fences_from inner first below p)) f)
  laid_entry n p e es false f q = rw (entry_passed e p, weave_entry inner first below p e es q) (cut_entry inner first below inner n p e (weave es (fences_from inner first below p)) f)

  -- The writing goes on with the wanted slot, and then with what is left; it ends where nothing is left.
  pub laid_next : (n p : ℕ) (es : Level) → ended inner first below p es ≡ false →
      laid_from inner first below n p es ≡ wanted inner first below n p es ∷ laid_from inner first below (n + 1) (passed (wanted inner first below n p es).kind p) (left inner first below n p es)
  unfolding laid_from ended wanted left
  laid_next n p [] h = rw (fence_passed inner first below p) (laid_fence inner first below n p (leb-false below p h))
  laid_next n p (e ∷ es) h = chosen (entry_next first below p e.pair) refl
    where
      chosen : (b : Bool) → entry_next first below p e.pair ≡ b → cut inner n p (weave (e ∷ es) (fences_from inner first below p)) ≡
          cond b (cond (fenced_at inner n) (internal e.pair (p - 1)) (index e)) (fence_of first p) ∷
          cut inner (n + 1) (passed (cond b (cond (fenced_at inner n) (internal e.pair (p - 1)) (index e)) (fence_of first p)).kind p)
          (weave (cond (b && not (fenced_at inner n)) es (e ∷ es))
          (fences_from inner first below (passed (cond b (cond (fenced_at inner n) (internal e.pair (p - 1)) (index e)) (fence_of first p)).kind p)))
      chosen true q = laid_entry n p e es (fenced_at inner n) refl q
      chosen false q = rw (fence_passed inner first below p, weave_fence inner first below p e es q) (cut_fence inner first below inner n p (weave (e ∷ es) (fences_from inner first below (p + 1))))

  -- Slots that follow the stream are the writing of their own entries, and the writing follows the stream.
  pub stream_laid : (n p : ℕ) (ss : List Slot) → are_stream inner first below n p ss ≡ true → laid_from inner first below n p (entries_of ss) ≡ ss
  unfolding are_stream entries_of ended
  stream_laid n p [] h = laid_ended inner first below n p [] h
  stream_laid n p (s ∷ ss) h =
      let es = entries_of (s ∷ ss) in
      let rest = are_stream inner first below (n + 1) (passed s.kind p) ss in
      let front = and_left (not (ended inner first below p es) && same_slot s (wanted inner first below n p es)) rest h in
      let more : ended inner first below p es ≡ false = not-true (ended inner first below p es) (and_left (not (ended inner first below p es)) (same_slot s (wanted inner first below n p es)) front) in
      let same : s ≡ wanted inner first below n p es = same_slot_lem s (wanted inner first below n p es) (and_right (not (ended inner first below p es)) (same_slot s (wanted inner first below n p es)) front) in
      let tail : laid_from inner first below (n + 1) (passed s.kind p) (entries_of ss) ≡ ss =
      stream_laid (n + 1) (passed s.kind p) ss (and_right (not (ended inner first below p es) && same_slot s (wanted inner first below n p es)) rest h) in
      laid_next n p es more ∙ goes_on s (wanted inner first below n p es) same (left inner first below n p es) (left_behind inner first below n p s ss same) tail
    where
      goes_on : (a b : Slot) → a ≡ b → (l : Level) → l ≡ entries_of ss → laid_from inner first below (n + 1) (passed a.kind p) (entries_of ss) ≡ ss →
          b ∷ laid_from inner first below (n + 1) (passed b.kind p) l ≡ a ∷ ss
      goes_on a b e l f t = rw (← e, f, t) refl

  pub laid_stream : (n p : ℕ) (ss : List Slot) → laid_from inner first below n p (entries_of ss) ≡ ss → are_stream inner first below n p ss ≡ true
  unfolding are_stream entries_of ended
  laid_stream n p [] h = chosen (leb below p) refl
    where
      chosen : (b : Bool) → leb below p ≡ b → leb below p ≡ true
      chosen true q = q
      chosen false q = let z : _ ∷ _ ≡ [] = sym (laid_next n p [] q) ∙ h in cc
  laid_stream n p (s ∷ ss) h = chosen (laid_stream (n + 1) (passed s.kind p) ss) (ended inner first below p (entries_of (s ∷ ss))) refl
    where
      goes_on : (a b : Slot) → a ≡ b → (l : Level) → l ≡ entries_of ss → laid_from inner first below (n + 1) (passed b.kind p) l ≡ ss →
          laid_from inner first below (n + 1) (passed a.kind p) (entries_of ss) ≡ ss
      goes_on a b e l f t = rw (e, ← f) t

      chosen : (laid_from inner first below (n + 1) (passed s.kind p) (entries_of ss) ≡ ss → are_stream inner first below (n + 1) (passed s.kind p) ss ≡ true) → (b : Bool) →
          ended inner first below p (entries_of (s ∷ ss)) ≡ b →
          (not (ended inner first below p (entries_of (s ∷ ss))) && same_slot s (wanted inner first below n p (entries_of (s ∷ ss))) && are_stream inner first below (n + 1) (passed s.kind p) ss) ≡ true
      chosen again true q = let z : [] ≡ s ∷ ss = sym (laid_ended inner first below n p (entries_of (s ∷ ss)) q) ∙ h in cc
      chosen again false q =
          let es = entries_of (s ∷ ss) in
          let all : wanted inner first below n p es ∷ laid_from inner first below (n + 1) (passed (wanted inner first below n p es).kind p) (left inner first below n p es) ≡ s ∷ ss = sym (laid_next n p es q) ∙ h in
          let same : s ≡ wanted inner first below n p es = cc in
          let tail : laid_from inner first below (n + 1) (passed (wanted inner first below n p es).kind p) (left inner first below n p es) ≡ ss = cc in
          rw (q, slot_same s (wanted inner first below n p es) same, again (goes_on s (wanted inner first below n p es) same (left inner first below n p es) (left_behind inner first below n p s ss same) tail)) refl
