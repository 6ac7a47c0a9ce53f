-- An entry toggled into a level that ascends: where it comes to stand, that the level still ascends and fits, what it then tells of a pair,
-- and how many entries it has. Assumes nothing.
use Prim.Native.Nat.{ℕ, suc, ◌≤◌}
use Rattle.std.proofs.Common.{arith, ap, ◌∙◌}
use Rattle.std.specs.Prelude.{◌≡◌, Bool, true}
use Rattle.std.proofs.Math.Path.{refl, sym}
use Rattle.std.proofs.Math.Bool.{false}
use mathlib.Core.List.{[], ◌∷◌}
use Rattle.std.proofs.Math.ListN.{length}
use Rattle.slot.specs.declared.Pair.{Pair}
use Rattle.slot.specs.Pair.{rank, before, same, Words}
use Rattle.slot.specs.Order.{before_below, same_level, not_same_apart, below_before, above_not_before, level_same, apart_not_same}
use Rattle.rules.specs.Tree.{Entry, Level, rank_of}
use Rattle.rules.specs.Finding.{Met, absent, met, find}
use Rattle.rules.specs.Merging.{toggle}
use Rattle.rules.specs.Sound.{ascending}
use Rattle.rules.specs.Good.{LevelFits}
use Rattle.entries.specs.Ascending.{From, from_ascending, from_lower_lem, find_here, find_on, find_above, ascending_from}
use Rattle.good.specs.Comparing.{Compared, earlier, equal, later, compared}

-- Where the entry comes to stand: before the first entry, in place of none with it, or further on.
module _ (e f : Entry) (fs : Level) where
  pub toggle_before : before e.pair f.pair ≡ true → toggle e (f ∷ fs) ≡ e ∷ f ∷ fs
  unfolding toggle
  toggle_before b = rw (b, toggle)

  pub toggle_cancels : same e.pair f.pair ≡ true → toggle e (f ∷ fs) ≡ fs
  unfolding toggle
  toggle_cancels s =
      let b : before e.pair f.pair ≡ false = above_not_before e.pair f.pair (omega (arith, same_level e.pair f.pair s)) in
      rw (b, s, toggle)

  pub toggle_after : before f.pair e.pair ≡ true → toggle e (f ∷ fs) ≡ f ∷ toggle e fs
  unfolding toggle
  toggle_after l =
      let h = before_below f.pair e.pair l in
      let b : before e.pair f.pair ≡ false = above_not_before e.pair f.pair (omega (arith, h)) in
      let s : same e.pair f.pair ≡ false = apart_not_same e.pair f.pair (λ q. omega (arith, h, q)) in
      rw (b, s, toggle)

-- An entry below a whole level comes to stand at its front.
pub toggle_front : (e : Entry) (fs : Level) → From (suc (rank_of e)) fs → toggle e fs ≡ e ∷ fs
unfolding From toggle
toggle_front e [] a = refl
toggle_front e (f ∷ fs) a = toggle_before e f fs (below_before e.pair f.pair a.0)

-- The level still rises, so it ascends; its pairs still are words, and it has one entry more at most.
pub toggle_from : (n : ℕ) (e : Entry) (fs : Level) → n ≤ rank_of e → From n fs → From n (toggle e fs)
unfolding From toggle
toggle_from n e [] h a = (h, tt)
toggle_from n e (f ∷ fs) h a = stands (compared e.pair f.pair) (toggle_from (suc (rank_of f)) e fs)
  where
    stands : Compared e.pair f.pair → (suc (rank_of f) ≤ rank_of e → From (suc (rank_of f)) fs → From (suc (rank_of f)) (toggle e fs)) →
        From n (toggle e (f ∷ fs))
    stands (earlier b) rest = rw (toggle_before e f fs b) (h, (before_below e.pair f.pair b, a.1))
    stands (equal s) rest = rw (toggle_cancels e f fs s) (from_lower_lem n (suc (rank_of f)) fs (omega (arith, a.0)) a.1)
    stands (later l) rest = rw (toggle_after e f fs l) (a.0, rest (before_below f.pair e.pair l) a.1)

pub toggle_ascends : (e : Entry) (fs : Level) → ascending fs ≡ true → ascending (toggle e fs) ≡ true
toggle_ascends e fs a = ascending_from 0 (toggle e fs) (toggle_from 0 e fs (omega arith) (from_ascending fs a))

pub toggle_fits : (e : Entry) (fs : Level) → Words e.pair → LevelFits fs → LevelFits (toggle e fs)
unfolding LevelFits toggle
toggle_fits e [] w a = (w, tt)
toggle_fits e (f ∷ fs) w a = stands (compared e.pair f.pair) (toggle_fits e fs w a.1)
  where
    stands : Compared e.pair f.pair → LevelFits (toggle e fs) → LevelFits (toggle e (f ∷ fs))
    stands (earlier b) rest = rw (toggle_before e f fs b) (w, a)
    stands (equal s) rest = rw (toggle_cancels e f fs s) a.1
    stands (later l) rest = rw (toggle_after e f fs l) (a.0, rest)

pub toggle_length : (e : Entry) (fs : Level) → length (toggle e fs) ≤ suc (length fs)
unfolding toggle
toggle_length e [] = omega arith
toggle_length e (f ∷ fs) = stands (compared e.pair f.pair) (toggle_length e fs)
  where
    stands : Compared e.pair f.pair → length (toggle e fs) ≤ suc (length fs) → length (toggle e (f ∷ fs)) ≤ suc (suc (length fs))
    stands (earlier b) rest = rw (toggle_before e f fs b) (omega arith)
    stands (equal s) rest = rw (toggle_cancels e f fs s) (omega arith)
    stands (later l) rest = rw (toggle_after e f fs l) (omega (arith, rest))

-- What two levels tell of a pair once joined: entries of both cancel.
unfoldable pub cancel : Met → Met → Met
cancel absent m = m
cancel (met b) absent = met b
cancel (met b) (met c) = absent

cancel_absent : (m : Met) → m ≡ cancel m absent
unfolding cancel
cancel_absent absent = refl
cancel_absent (met b) = refl

-- What the level then tells of a pair.
pub find_nothing : (p : Pair) → find p [] ≡ absent
unfolding find
find_nothing p = refl

pub find_other : (p : Pair) (e : Entry) → same p e.pair ≡ false → find p (e ∷ []) ≡ absent
unfolding find
find_other p e s = find_on p e [] s

-- An entry before the pair is not its own.
pub find_later : (p : Pair) (e : Entry) (es : Level) → before e.pair p ≡ true → find p (e ∷ es) ≡ find p es
find_later p e es l = find_on p e es (apart_not_same p e.pair (λ q. omega (arith, q, before_below e.pair p l)))

pub above_same : (p : Pair) (e : Entry) (fs : Level) → same p e.pair ≡ true → From (suc (rank_of e)) fs → find p fs ≡ absent
above_same p e fs s a = find_above p fs (from_lower_lem (suc (rank p)) (suc (rank_of e)) fs (omega (arith, same_level p e.pair s)) a)

find_front : (p : Pair) (e : Entry) (fs : Level) → From (suc (rank_of e)) fs → find p (e ∷ fs) ≡ cancel (find p (e ∷ [])) (find p fs)
unfolding cancel
find_front p e fs a = told (same p e.pair) refl
  where
    told : (b : Bool) → same p e.pair ≡ b → find p (e ∷ fs) ≡ cancel (find p (e ∷ [])) (find p fs)
    told true s = rw (find_here p e fs s, find_here p e [] s, above_same p e fs s a) refl
    told false s = rw (find_on p e fs s, find_other p e s) refl

pub find_toggle : (p : Pair) (n : ℕ) (e : Entry) (fs : Level) → From n fs → find p (toggle e fs) ≡ cancel (find p (e ∷ [])) (find p fs)
unfolding From toggle cancel
find_toggle p n e [] a = rw (find_nothing p) (cancel_absent (find p (e ∷ [])))
find_toggle p n e (f ∷ fs) a = stands (compared e.pair f.pair) (find_toggle p (suc (rank_of f)) e fs a.1)
  where
    cancels : same e.pair f.pair ≡ true → (b : Bool) → same p e.pair ≡ b → find p fs ≡ cancel (find p (e ∷ [])) (find p (f ∷ fs))
    cancels s true h =
        let q : same p f.pair ≡ true = level_same p f.pair (same_level p e.pair h ∙ same_level e.pair f.pair s) in
        rw (find_here p e [] h, find_here p f fs q) (above_same p f fs q a.1)
    cancels s false h =
        let q : same p f.pair ≡ false = apart_not_same p f.pair λ k. not_same_apart p e.pair h (k ∙ sym (same_level e.pair f.pair s)) in
        rw (find_other p e h, find_on p f fs q) refl

    goes_on : before f.pair e.pair ≡ true → find p (toggle e fs) ≡ cancel (find p (e ∷ [])) (find p fs) → (b : Bool) → same p f.pair ≡ b →
        find p (f ∷ toggle e fs) ≡ cancel (find p (e ∷ [])) (find p (f ∷ fs))
    goes_on l rest true h =
        let q : same p e.pair ≡ false = apart_not_same p e.pair λ k. omega (arith, before_below f.pair e.pair l, same_level p f.pair h, k) in
        rw (find_here p f (toggle e fs) h, find_here p f fs h, find_other p e q) refl
    goes_on l rest false h = rw (find_on p f (toggle e fs) h, find_on p f fs h) rest

    stands : Compared e.pair f.pair → find p (toggle e fs) ≡ cancel (find p (e ∷ [])) (find p fs) → find p (toggle e (f ∷ fs)) ≡ cancel (find p (e ∷ [])) (find p (f ∷ fs))
    stands (earlier b) rest = rw (toggle_before e f fs b) (find_front p e (f ∷ fs) (before_below e.pair f.pair b, a.1))
    stands (equal s) rest = rw (toggle_cancels e f fs s) (cancels s (same p e.pair) refl)
    stands (later l) rest = rw (toggle_after e f fs l) (goes_on l rest (same p f.pair) refl)

-- An entry whose pair has none among ascending ones is one more, and one whose pair has one is one less.
module _ (e : Entry) where
  pub toggle_adds : (fs : Level) → find e.pair fs ≡ absent → length (toggle e fs) ≡ suc (length fs)
  unfolding toggle
  toggle_adds [] h = refl
  toggle_adds (f ∷ fs) h = stands (compared e.pair f.pair) (toggle_adds fs)
    where
      stands : Compared e.pair f.pair → (find e.pair fs ≡ absent → length (toggle e fs) ≡ suc (length fs)) →
          length (toggle e (f ∷ fs)) ≡ suc (suc (length fs))
      stands (earlier b) rest = rw (toggle_before e f fs b) refl
      stands (equal s) rest = let z : absent ≡ met f.normal = sym h ∙ find_here e.pair f fs s in cc
      stands (later l) rest = rw (toggle_after e f fs l) (ap suc (rest (sym (find_later e.pair f fs l) ∙ h)))

  pub toggle_takes : (n : ℕ) (fs : Level) (b : Bool) → From n fs → find e.pair fs ≡ met b → suc (length (toggle e fs)) ≡ length fs
  unfolding From
  toggle_takes n [] b a h = let z : absent ≡ met b = sym (find_nothing e.pair) ∙ h in cc
  toggle_takes n (f ∷ fs) b a h = stands (compared e.pair f.pair) (toggle_takes (suc (rank_of f)) fs b a.1)
    where
      stands : Compared e.pair f.pair → (find e.pair fs ≡ met b → suc (length (toggle e fs)) ≡ length fs) →
          suc (length (toggle e (f ∷ fs))) ≡ suc (length fs)
      stands (earlier l) rest =
          let z : absent ≡ met b = sym (find_above e.pair (f ∷ fs) (before_below e.pair f.pair l, a.1)) ∙ h in
          cc
      stands (equal s) rest = rw (toggle_cancels e f fs s) refl
      stands (later l) rest = rw (toggle_after e f fs l) (ap suc (rest (sym (find_later e.pair f fs l) ∙ h)))
