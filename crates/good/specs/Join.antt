-- Two levels that ascend, joined: the equations of a merge from the front, that the result ascends and fits, and what it tells of a pair.
-- Assumes nothing.
use Rattle.std.specs.Prelude.{ℕ, suc, ◌+◌, ◌≤◌, ◌≡◌, refl, Bool, true, false, [], ◌∷◌, length}
use Rattle.std.proofs.Common.{arith, ◌∙◌}
use Rattle.std.proofs.Math.Path.{ap}
use Rattle.slot.specs.declared.Pair.{Pair}
use Rattle.slot.specs.Pair.{rank, before, same}
use Rattle.slot.specs.Order.{before_below, same_level, below_before}
use Rattle.rules.specs.Tree.{Entry, Level, rank_of}
use Rattle.rules.specs.Finding.{find}
use Rattle.rules.specs.Merging.{toggle, join}
use Rattle.rules.specs.Sound.{ascending}
use Rattle.rules.specs.Good.{LevelFits}
use Rattle.entries.specs.Ascending.{From, from_ascending, from_lower_lem, find_here, find_on, find_above, ascending_from}
use Rattle.good.specs.Toggle.{toggle_cancels, toggle_after, toggle_front, toggle_from, toggle_fits, toggle_length, cancel, find_nothing, find_other, above_same, find_toggle}

-- The result rises from where both do, so it ascends.
pub join_from : (n : ℕ) (es fs : Level) → From n es → From n fs → From n (join es fs)
unfolding From join
join_from n [] fs a b = b
join_from n (e ∷ es) fs a b =
    toggle_from n e (join es fs) a.0 (join_from n es fs (from_lower_lem n (suc (rank_of e)) es (omega (arith, a.0)) a.1) b)

pub join_ascends : (es fs : Level) → ascending es ≡ true → ascending fs ≡ true → ascending (join es fs) ≡ true
join_ascends es fs a b = ascending_from 0 (join es fs) (join_from 0 es fs (from_ascending es a) (from_ascending fs b))

-- An entry below a whole upper level is the first of the two joined.
join_under : (f : Entry) (es fs : Level) → From (suc (rank_of f)) es → join es (f ∷ fs) ≡ f ∷ join es fs
unfolding From join
join_under f [] fs a = refl
join_under f (e ∷ es) fs a =
    ap (toggle e) (join_under f es fs (from_lower_lem (suc (rank_of f)) (suc (rank_of e)) es (omega (arith, a.0)) a.1)) ∙
    toggle_after e f (join es fs) (below_before f.pair e.pair a.0)

-- The merge from the front, entry by entry: the upper level's first entry goes first, the two cancel, or the lower level's goes first; with
-- nothing in the lower level left, the upper level is the rest. (With nothing in the upper level left, the lower is, as join says.)
module _ (m n : ℕ) (e f : Entry) (es fs : Level) (a : From m (e ∷ es)) (b : From n (f ∷ fs)) where
  pub join_upper : before e.pair f.pair ≡ true → join (e ∷ es) (f ∷ fs) ≡ e ∷ join es (f ∷ fs)
  unfolding From join
  join_upper h = toggle_front e (join es (f ∷ fs)) (join_from (suc (rank_of e)) es (f ∷ fs) a.1 (before_below e.pair f.pair h, b.1))

  pub join_both : same e.pair f.pair ≡ true → join (e ∷ es) (f ∷ fs) ≡ join es fs
  unfolding From join
  join_both s =
      let l : From (suc (rank_of f)) es = from_lower_lem (suc (rank_of f)) (suc (rank_of e)) es (omega (arith, same_level e.pair f.pair s)) a.1 in
      ap (toggle e) (join_under f es fs l) ∙ toggle_cancels e f (join es fs) s

  pub join_lower : before f.pair e.pair ≡ true → join (e ∷ es) (f ∷ fs) ≡ f ∷ join (e ∷ es) fs
  unfolding From
  join_lower h = join_under f (e ∷ es) fs (before_below f.pair e.pair h, a.1)

pub join_alone : (n : ℕ) (es : Level) → From n es → join es [] ≡ es
unfolding From join
join_alone n [] a = refl
join_alone n (e ∷ es) a = ap (toggle e) (join_alone (suc (rank_of e)) es a.1) ∙ toggle_front e es a.1

-- Its pairs are words where theirs are, and it has no more entries than the two.
pub join_fits : (es fs : Level) → LevelFits es → LevelFits fs → LevelFits (join es fs)
unfolding LevelFits join
join_fits [] fs a b = b
join_fits (e ∷ es) fs a b = toggle_fits e (join es fs) a.0 (join_fits es fs a.1 b)

pub join_length : (es fs : Level) → length (join es fs) ≤ length es + length fs
unfolding join
join_length [] fs = omega arith
join_length (e ∷ es) fs = omega (arith, toggle_length e (join es fs), join_length es fs)

-- It tells of a pair what the one level does that has an entry of it, and nothing where both have.
pub find_join : (p : Pair) (m n : ℕ) (es fs : Level) → From m es → From n fs → find p (join es fs) ≡ cancel (find p es) (find p fs)
unfolding From join cancel
find_join p m n [] fs a b = rw (find_nothing p) refl
find_join p m n (e ∷ es) fs a b =
    find_toggle p 0 e (join es fs) (join_from 0 es fs (from_lower_lem 0 (suc (rank_of e)) es (omega arith) a.1) (from_lower_lem 0 n fs (omega arith) b)) ∙
    told (same p e.pair) refl (find_join p (suc (rank_of e)) n es fs a.1 b)
  where
    told : (t : Bool) → same p e.pair ≡ t → find p (join es fs) ≡ cancel (find p es) (find p fs) →
        cancel (find p (e ∷ [])) (find p (join es fs)) ≡ cancel (find p (e ∷ es)) (find p fs)
    told true s rest = rw (rest, find_here p e [] s, find_here p e es s, above_same p e es s a.1) refl
    told false s rest = rw (find_other p e s, find_on p e es s) rest

-- Of a pair below the whole upper level it tells what the lower level does.
pub find_join_lower : (p : Pair) (n : ℕ) (es fs : Level) → From (suc (rank p)) es → From n fs → find p (join es fs) ≡ find p fs
unfolding cancel
find_join_lower p n es fs a b = find_join p (suc (rank p)) n es fs a b ∙ rw (find_above p es a) refl
