-- Two runs' index entries joined, from a spot in each on, and whose entry comes next, as the clauses of src/lib.rt cite it. Assumes nothing.
use Rattle.std.specs.Prelude.{ℕ, ◌+◌, ◌<◌, Bool, List, [], ◌∷◌, length, drop, leb}
use native.Mathlib.Omega.{arith}
use Rattle.std.proofs.Math.Path.{◌≡◌, refl}
use Rattle.std.proofs.Common.{sym, ap, ◌∙◌, subst, leb-true, leb-false}
use Rattle.std.proofs.Math.Bool.{true, false, cond}
use Rattle.slot.specs.declared.Pair.{Pair}
use Rattle.slot.specs.declared.Slot.{Slot}
use Rattle.slot.specs.Pair.{rank, before, same, least}
use Rattle.slot.specs.Slot.{slot_at}
use Rattle.slot.specs.Order.{not_before_above, not_same_apart, below_before}
use Rattle.rules.specs.Tree.{Entry, Level}
use Rattle.rules.specs.Finding.{normal_kind}
use Rattle.rules.specs.Merging.{join}
use Rattle.entries.specs.declared.Run.{Run}
use Rattle.entries.specs.Run.{Inside, place_in, entries_in}
use Rattle.entries.specs.Skip.{skip, skip_least}
use Rattle.entries.specs.Spot.{page_at, slot_number, cursor_at, upcoming, Standing, upcoming_all, upcoming_none, entry_upcoming}
use Rattle.entries.specs.Ascending.{From, from_ascending, from_lower_lem}
use Rattle.good.specs.Join.{join_upper, join_both, join_lower, join_alone}
use Rattle.writer.specs.declared.Source.{Source}
use Rattle.writer.specs.declared.Turn.{Turn}
use Rattle.writer.specs.declared.Turn.TheVariants.{Upper, Lower, Both, Neither}
use Rattle.writer.specs.Source.{SourceInside, SourceAscends}

-- Whose entry comes next of two, and of two levels.
unfoldable pub turn_of_two : Entry → Entry → Turn
turn_of_two e f = cond (same e.pair f.pair) Both (cond (before e.pair f.pair) Upper Lower)

abbrev pub turn_of : Level → Level → Turn
turn_of [] [] = Neither
turn_of [] (f ∷ fs) = Lower
turn_of (e ∷ es) [] = Upper
turn_of (e ∷ es) (f ∷ fs) = turn_of_two e f

-- The turn of two entries by the tests of their pairs, and what it tells of them.
module _ (e f : Entry) where
  pub two_cancel : same e.pair f.pair ≡ true → Both ≡ turn_of_two e f
  unfolding turn_of_two
  two_cancel s = rw s refl

  pub two_upper : same e.pair f.pair ≡ false → before e.pair f.pair ≡ true → Upper ≡ turn_of_two e f
  unfolding turn_of_two
  two_upper s b = rw (s, b) refl

  pub two_lower : same e.pair f.pair ≡ false → before e.pair f.pair ≡ false → Lower ≡ turn_of_two e f
  unfolding turn_of_two
  two_lower s b = rw (s, b) refl

  upper_before : turn_of_two e f ≡ Upper → before e.pair f.pair ≡ true
  unfolding turn_of_two
  upper_before t = by_tests (same e.pair f.pair) (before e.pair f.pair) t
    where
      by_tests : (s b : Bool) → cond s Both (cond b Upper Lower) ≡ Upper → b ≡ true
      by_tests s true t = refl
      by_tests true false t = cc
      by_tests false false t = cc

  lower_before : turn_of_two e f ≡ Lower → before f.pair e.pair ≡ true
  unfolding turn_of_two
  lower_before t = by_tests (same e.pair f.pair) (before e.pair f.pair) refl refl t
    where
      by_tests : (s b : Bool) → same e.pair f.pair ≡ s → before e.pair f.pair ≡ b → cond s Both (cond b Upper Lower) ≡ Lower →
          before f.pair e.pair ≡ true
      by_tests true b p q t = cc
      by_tests false true p q t = cc
      by_tests false false p q t =
          let apart : ¬ (rank e.pair ≡ rank f.pair) = not_same_apart e.pair f.pair p in
          below_before f.pair e.pair (omega (arith, not_before_above e.pair f.pair q))

  both_same : turn_of_two e f ≡ Both → same e.pair f.pair ≡ true
  unfolding turn_of_two
  both_same t = by_tests (same e.pair f.pair) (before e.pair f.pair) t
    where
      by_tests : (s b : Bool) → cond s Both (cond b Upper Lower) ≡ Both → s ≡ true
      by_tests true b t = refl
      by_tests false true t = cc
      by_tests false false t = cc

  one_comes : turn_of_two e f ≡ Neither → ⊥
  unfolding turn_of_two
  one_comes t = by_tests (same e.pair f.pair) (before e.pair f.pair) t
    where
      by_tests : (s b : Bool) → cond s Both (cond b Upper Lower) ≡ Neither → ⊥
      by_tests true b t = let z : ◌≡◌ {A = ℕ} 0 1 = cc in omega arith
      by_tests false true t = let z : ◌≡◌ {A = ℕ} 0 1 = cc in omega arith
      by_tests false false t = let z : ◌≡◌ {A = ℕ} 0 1 = cc in omega arith

-- The upper level's first entry is the first of both joined, or the lower level's is; two of one pair cancel.
upper_first : (us ls : Level) (e : Entry) (es : Level) → From 0 us → From 0 ls → e ∷ es ≡ us → turn_of us ls ≡ Upper →
    e ∷ join (drop 1 us) ls ≡ join us ls
unfolding From
upper_first [] ls e es a b q t = cc
upper_first (d ∷ us) [] e es a b q t =
    let first : e ≡ d = cc in
    rw first (ap (λ (l : Level). d ∷ l) (join_alone _ us a.1) ∙ sym (join_alone 0 (d ∷ us) a))
upper_first (d ∷ us) (f ∷ ls) e es a b q t =
    let first : e ≡ d = cc in
    rw first (sym (join_upper 0 0 d f us ls a b (upper_before d f t)))

lower_first : (us ls : Level) (f : Entry) (fs : Level) → From 0 us → From 0 ls → f ∷ fs ≡ ls → turn_of us ls ≡ Lower →
    f ∷ join us (drop 1 ls) ≡ join us ls
unfolding join
lower_first us [] f fs a b q t = cc
lower_first [] (d ∷ ls) f fs a b q t = cc
lower_first (e ∷ us) (d ∷ ls) f fs a b q t =
    let first : f ≡ d = cc in
    rw first (sym (join_lower 0 0 e d us ls a b (lower_before e d t)))

both_cancel : (us ls : Level) → From 0 us → From 0 ls → turn_of us ls ≡ Both → join (drop 1 us) (drop 1 ls) ≡ join us ls
both_cancel [] [] a b t = cc
both_cancel [] (f ∷ ls) a b t = cc
both_cancel (e ∷ us) [] a b t = cc
both_cancel (e ∷ us) (f ∷ ls) a b t = sym (join_both 0 0 e f us ls a b (both_same e f t))

neither_left : (us ls : Level) → turn_of us ls ≡ Neither → join us ls ≡ []
unfolding join
neither_left [] [] t = refl
neither_left [] (f ∷ ls) t = cc
neither_left (e ∷ us) [] t = cc
neither_left (e ∷ us) (f ∷ ls) t = absurd (one_comes e f t)

-- Who has the turn has an entry.
abbrev pub from_upper : Turn → Bool
from_upper Upper = true
from_upper Lower = false
from_upper Both = true
from_upper Neither = false

abbrev pub from_lower : Turn → Bool
from_lower Upper = false
from_lower Lower = true
from_lower Both = true
from_lower Neither = false

upper_some : (us ls : Level) → from_upper (turn_of us ls) ≡ true → us ≡ [] → ⊥
upper_some [] [] t q = let z : ◌≡◌ {A = ℕ} 0 1 = cc in omega arith
upper_some [] (f ∷ ls) t q = let z : ◌≡◌ {A = ℕ} 0 1 = cc in omega arith
upper_some (e ∷ us) ls t q = let z : ◌≡◌ {A = ℕ} 0 1 = cc in omega arith

lower_some : (us ls : Level) → from_lower (turn_of us ls) ≡ true → ls ≡ [] → ⊥
lower_some [] [] t q = let z : ◌≡◌ {A = ℕ} 0 1 = cc in omega arith
lower_some (e ∷ us) [] t q = let z : ◌≡◌ {A = ℕ} 0 1 = cc in omega arith
lower_some us (f ∷ ls) t q = let z : ◌≡◌ {A = ℕ} 0 1 = cc in omega arith

-- A spot in a run -----------------------------------------------------------------------------------------------------------------------------

-- Where the first entry at or after a spot stands, and where the entry behind one stands.
pub record Reached (w : List ℕ) (run : Run) (from r : ℕ) : Type 0 where
  pub all_kept : upcoming w run r ≡ upcoming w run from
  pub stands : Standing w run r

pub record Passed (w : List ℕ) (run : Run) (spot r : ℕ) : Type 0 where
  pub one_less : upcoming w run r ≡ drop 1 (upcoming w run spot)
  pub stands : Standing w run r
  pub fewer : length (upcoming w run r) < length (upcoming w run spot)

-- A skip to the least pair skips no entry.
pub reached : (w : List ℕ) (run : Run) (from r : ℕ) (p : Pair) → p ≡ least → upcoming w run r ≡ skip p (upcoming w run from) →
    Standing w run r → Reached w run from r
reached w run from r p q e stands = record { all_kept = e ∙ rw q (skip_least (upcoming w run from)); stands = stands }

-- Where no page is left, no entry comes; where one is left, an entry stands, with the others behind it.
none_there : (w : List ℕ) (run : Run) (spot : ℕ) → leb run.pages (page_at spot) ≡ true → upcoming w run spot ≡ []
none_there w run spot q = upcoming_none w run spot (leb-true run.pages (page_at spot) q)

page_left : (w : List ℕ) (run : Run) (spot : ℕ) → (upcoming w run spot ≡ [] → ⊥) → page_at spot < run.pages
page_left w run spot some = by_page (leb run.pages (page_at spot)) refl
  where
    by_page : (b : Bool) → leb run.pages (page_at spot) ≡ b → page_at spot < run.pages
    by_page true q = absurd (some (none_there w run spot q))
    by_page false q = leb-false run.pages (page_at spot) q

module _ (w : List ℕ) (run : Run) (spot words : ℕ) (inside : Inside run words) (here : Standing w run spot) (h : page_at spot < run.pages) where
  abbrev place : ℕ
  place = place_in run (page_at spot) (slot_number spot)

  abbrev there : Slot
  there = slot_at w place

  entry_there : record { pair = there.pair; normal = normal_kind there.kind } ∷ upcoming w run (spot + 1) ≡ upcoming w run spot
  entry_there = entry_upcoming w run spot words inside here h (cursor_at spot) place refl refl there (normal_kind there.kind) refl refl

  pub passed : (r : ℕ) → Reached w run (spot + 1) r → Passed w run spot r
  passed r to = record {
    one_less = to.all_kept ∙ ap (drop 1) entry_there;
    stands = to.stands;
    fewer = omega (arith, ap length to.all_kept, ap length entry_there);
  }

-- Behind an entry a run still ascends.
from_behind : (es : Level) → From 0 es → From 0 (drop 1 es)
unfolding From
from_behind [] a = tt
from_behind (e ∷ es) a = from_lower_lem 0 _ es (omega arith) a.1

-- Spots in the two runs -----------------------------------------------------------------------------------------------------------------------

module _ (w : List ℕ) (source : Source) where
  abbrev highs : ℕ → Level
  highs upper = upcoming w source.upper upper

  abbrev lows : ℕ → Level
  lows lower = upcoming w source.lower lower

  -- The entries from two spots on, joined, and whose turn it is there.
  unfoldable pub joined : ℕ → ℕ → Level
  joined upper lower = join (highs upper) (lows lower)

  unfoldable pub turn_at : ℕ → ℕ → Turn
  turn_at upper lower = turn_of (highs upper) (lows lower)

  -- An entry stands at both, unless the run has ended, and the entries from there on ascend.
  pub record Ready (upper lower : ℕ) : Type 0 where
    pub upper_stands : Standing w source.upper upper
    pub lower_stands : Standing w source.lower lower
    pub upper_rises : From 0 (highs upper)
    pub lower_rises : From 0 (lows lower)

  -- At the first spots everything is still to come.
  module _ (upper lower : ℕ) (above : Reached w source.upper 0 upper) (under : Reached w source.lower 0 lower) where
    all_highs : highs upper ≡ entries_in w source.upper
    all_highs = above.all_kept ∙ upcoming_all w source.upper

    all_lows : lows lower ≡ entries_in w source.lower
    all_lows = under.all_kept ∙ upcoming_all w source.lower

    pub joined_all : joined upper lower ≡ join (entries_in w source.upper) (entries_in w source.lower)
    unfolding joined
    joined_all = rw (all_highs, all_lows) refl

    pub ready_first : SourceAscends w source → Ready upper lower
    ready_first a = record {
      upper_stands = above.stands;
      lower_stands = under.stands;
      upper_rises = subst (From 0) (sym all_highs) (from_ascending (entries_in w source.upper) a.upper_ascends);
      lower_rises = subst (From 0) (sym all_lows) (from_ascending (entries_in w source.lower) a.lower_ascends);
    }

  -- Whose turn it is, by which of the runs have ended.
  module _ (upper lower : ℕ) where
    abbrev upper_ended : Bool
    upper_ended = leb source.upper.pages (page_at upper)

    abbrev lower_ended : Bool
    lower_ended = leb source.lower.pages (page_at lower)

    module _ (inside : SourceInside w source) (ready : Ready upper lower) where
      pub turn_neither : upper_ended ≡ true → lower_ended ≡ true → Neither ≡ turn_at upper lower
      unfolding turn_at
      turn_neither u l = rw (none_there w source.upper upper u, none_there w source.lower lower l) refl

      pub turn_lower : upper_ended ≡ true → lower_ended ≡ false → Lower ≡ turn_at upper lower
      unfolding turn_at
      turn_lower u l =
          let low = entry_there w source.lower lower (length w) inside.lower_inside ready.lower_stands (leb-false _ _ l) in
          rw (none_there w source.upper upper u, ← low) refl

      pub turn_upper : upper_ended ≡ false → lower_ended ≡ true → Upper ≡ turn_at upper lower
      unfolding turn_at
      turn_upper u l =
          let high = entry_there w source.upper upper (length w) inside.upper_inside ready.upper_stands (leb-false _ _ u) in
          rw (none_there w source.lower lower l, ← high) refl

    pub turn_two : (e f : Entry) (es fs : Level) (t : Turn) → t ≡ turn_of_two e f → e ∷ es ≡ highs upper → f ∷ fs ≡ lows lower →
        t ≡ turn_at upper lower
    unfolding turn_at
    turn_two e f es fs t q x y = rw (← x, ← y) q

    -- What the turn tells.
    module _ (t : Turn) (told : t ≡ turn_at upper lower) where
      pub upper_there : from_upper t ≡ true → page_at upper < source.upper.pages
      unfolding turn_at
      upper_there q = page_left w source.upper upper (upper_some (highs upper) (lows lower) (ap from_upper (sym told) ∙ q))

      pub lower_there : from_lower t ≡ true → page_at lower < source.lower.pages
      unfolding turn_at
      lower_there q = page_left w source.lower lower (lower_some (highs upper) (lows lower) (ap from_lower (sym told) ∙ q))

      pub none_comes : t ≡ Neither → joined upper lower ≡ []
      unfolding joined turn_at
      none_comes is = neither_left (highs upper) (lows lower) (sym told ∙ is)

      module _ (ready : Ready upper lower) where
        pub upper_comes : t ≡ Upper → (e : Entry) (es : Level) (u : ℕ) → e ∷ es ≡ highs upper → Passed w source.upper upper u →
            e ∷ joined u lower ≡ joined upper lower
        unfolding joined turn_at
        upper_comes is e es u q to =
            rw to.one_less (upper_first (highs upper) (lows lower) e es ready.upper_rises ready.lower_rises q (sym told ∙ is))

        pub lower_comes : t ≡ Lower → (f : Entry) (fs : Level) (l : ℕ) → f ∷ fs ≡ lows lower → Passed w source.lower lower l →
            f ∷ joined upper l ≡ joined upper lower
        unfolding joined turn_at
        lower_comes is f fs l q to =
            rw to.one_less (lower_first (highs upper) (lows lower) f fs ready.upper_rises ready.lower_rises q (sym told ∙ is))

        pub both_go : t ≡ Both → (u l : ℕ) → Passed w source.upper upper u → Passed w source.lower lower l →
            joined u l ≡ joined upper lower
        unfolding joined turn_at
        both_go is u l high low =
            rw (high.one_less, low.one_less)
            (both_cancel (highs upper) (lows lower) ready.upper_rises ready.lower_rises (sym told ∙ is))

  module _ (upper lower : ℕ) (ready : Ready upper lower) where
    pub upper_past : (u : ℕ) → Passed w source.upper upper u → Ready u lower
    upper_past u to = record {
      upper_stands = to.stands;
      lower_stands = ready.lower_stands;
      upper_rises = subst (From 0) (sym to.one_less) (from_behind (highs upper) ready.upper_rises);
      lower_rises = ready.lower_rises;
    }

    pub lower_past : (l : ℕ) → Passed w source.lower lower l → Ready upper l
    lower_past l to = record {
      upper_stands = ready.upper_stands;
      lower_stands = to.stands;
      upper_rises = ready.upper_rises;
      lower_rises = subst (From 0) (sym to.one_less) (from_behind (lows lower) ready.lower_rises);
    }
