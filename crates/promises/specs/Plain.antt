-- A plain set of pairs: an ascending list of them, with a pair put in or taken out. Assumes nothing.
use Rattle.std.specs.Prelude.{ℕ, suc, ◌≤◌, ◌≡◌, Bool, ◌&&◌, ◌||◌, length}
use Rattle.std.proofs.Common.{arith, ap, ap₂, ◌∙◌}
use Rattle.std.proofs.Math.Path.{refl, sym}
use Rattle.std.proofs.Math.Bool.{true, false, not}
use Rattle.std.proofs.lemmas.Bool.{false≢true}
use mathlib.Core.List.{List, [], ◌∷◌}
use Rattle.laws.specs.Tests.{and_false_right, eqb_agree}
use Rattle.laws.specs.Lists.{passing, passing_yes, passing_no}
use Rattle.slot.specs.declared.Pair.{Pair}
use Rattle.slot.specs.Pair.{rank, before, same, Words, rank_same}
use Rattle.slot.specs.Order.{before_below, same_level, above_not_before, level_same, apart_not_same}
use Rattle.rules.specs.Listing.{insert}
use Rattle.good.specs.Comparing.{Compared, earlier, equal, later, compared}

-- Whether a pair is in it, and the set with a pair put in (insert) or taken out.
unfoldable pub has : Pair → List Pair → Bool
has p [] = false
has p (q ∷ qs) = same p q || has p qs

unfoldable pub without : Pair → List Pair → List Pair
without p qs = passing (λ q. not (same q p)) qs

-- Ranks that rise from n on.
unfoldable pub Rises : ℕ → List Pair → Type 0
Rises n [] = Unit {0}
Rises n (p ∷ ps) = (n ≤ rank p) × Rises (suc (rank p)) ps

rises_lower : (m n : ℕ) (ps : List Pair) → m ≤ n → Rises n ps → Rises m ps
unfolding Rises
rises_lower m n [] h a = tt
rises_lower m n (p ∷ ps) h a = (omega (arith, h, a.0), a.1)

-- Neither of two, where not one of them.
or_first : (a b : Bool) → (a || b) ≡ false → a ≡ false
or_first true b e = e
or_first false b e = refl

or_second : (a b : Bool) → (a || b) ≡ false → b ≡ false
or_second true b e = cc
or_second false b e = e

-- One pair under two names.
module _ (p q r : Pair) (s : same p q ≡ true) where
  same_left : same p r ≡ same q r
  unfolding same
  same_left = rw (same_level p q s) refl

  same_right : same r p ≡ same r q
  unfolding same
  same_right = rw (same_level p q s) refl

same_turned : (p q : Pair) → same p q ≡ same q p
unfolding same
same_turned p q = eqb_agree (rank p) (rank q) (rank q) (rank p) (λ e. sym e) (λ e. sym e)

-- A pair put in: where it comes to stand, what is then in the set, and how many pairs.
module _ (p q : Pair) (qs : List Pair) where
  insert_first : before p q ≡ true → insert p (q ∷ qs) ≡ p ∷ q ∷ qs
  unfolding insert
  insert_first b = rw (b, insert)

  insert_there : same p q ≡ true → insert p (q ∷ qs) ≡ q ∷ qs
  unfolding insert
  insert_there s =
      let b : before p q ≡ false = above_not_before p q (omega (arith, same_level p q s)) in
      rw (b, s, insert)

  insert_later : before q p ≡ true → insert p (q ∷ qs) ≡ q ∷ insert p qs
  unfolding insert
  insert_later l =
      let h = before_below q p l in
      let b : before p q ≡ false = above_not_before p q (omega (arith, h)) in
      let s : same p q ≡ false = apart_not_same p q (λ e. omega (arith, h, e)) in
      rw (b, s, insert)

pub insert_rises : (n : ℕ) (p : Pair) (ps : List Pair) → n ≤ rank p → Rises n ps → Rises n (insert p ps)
unfolding Rises insert
insert_rises n p [] h a = (h, tt)
insert_rises n p (q ∷ qs) h a = stands (compared p q) (insert_rises (suc (rank q)) p qs)
  where
    stands : Compared p q → (suc (rank q) ≤ rank p → Rises (suc (rank q)) qs → Rises (suc (rank q)) (insert p qs)) → Rises n (insert p (q ∷ qs))
    stands (earlier b) rest = rw (insert_first p q qs b) (h, (before_below p q b, a.1))
    stands (equal s) rest = rw (insert_there p q qs s) a
    stands (later l) rest = rw (insert_later p q qs l) (a.0, rest (before_below q p l) a.1)

pub insert_has : (p : Pair) (ps : List Pair) (q : Pair) → has q (insert p ps) ≡ (same q p || has q ps)
unfolding has insert
insert_has p [] q = refl
insert_has p (r ∷ rs) q = stands (compared p r) (insert_has p rs q)
  where
    twice : (a b : Bool) → (a || b) ≡ (a || (a || b))
    twice true b = refl
    twice false b = refl

    swap : (a b c : Bool) → (a || (b || c)) ≡ (b || (a || c))
    swap true true c = refl
    swap true false c = refl
    swap false true c = refl
    swap false false c = refl

    stands : Compared p r → has q (insert p rs) ≡ (same q p || has q rs) → has q (insert p (r ∷ rs)) ≡ (same q p || (same q r || has q rs))
    stands (earlier b) ih = rw (insert_first p r rs b) refl
    stands (equal s) ih = rw (insert_there p r rs s, same_right p r q s) (twice (same q r) (has q rs))
    stands (later l) ih = rw (insert_later p r rs l, ih) (swap (same q r) (same q p) (has q rs))

pub insert_length : (p : Pair) (ps : List Pair) → has p ps ≡ false → length (insert p ps) ≡ suc (length ps)
unfolding has insert
insert_length p [] h = refl
insert_length p (r ∷ rs) h = stands (compared p r) (insert_length p rs)
  where
    stands : Compared p r → (has p rs ≡ false → length (insert p rs) ≡ suc (length rs)) → length (insert p (r ∷ rs)) ≡ suc (suc (length rs))
    stands (earlier b) ih = rw (insert_first p r rs b) refl
    stands (equal s) ih = absurd (false≢true (sym (or_first (same p r) (has p rs) h) ∙ s))
    stands (later l) ih = rw (insert_later p r rs l) (ap suc (ih (or_second (same p r) (has p rs) h)))

-- Those that pass a test. It is one of pairs if it tells nothing apart that has one rank.
abbrev pub OfPairs : (Pair → Bool) → Type 0
OfPairs t = (p q : Pair) → same p q ≡ true → t p ≡ t q

module _ (t : Pair → Bool) where
  pub passing_rises : (n : ℕ) (ps : List Pair) → Rises n ps → Rises n (passing t ps)
  unfolding Rises passing
  passing_rises n [] a = tt
  passing_rises n (p ∷ ps) a = stands (t p) refl (passing_rises (suc (rank p)) ps a.1)
    where
      stands : (b : Bool) → t p ≡ b → Rises (suc (rank p)) (passing t ps) → Rises n (passing t (p ∷ ps))
      stands true e ih = rw (passing_yes t p ps e) (a.0, ih)
      stands false e ih = rw (passing_no t p ps e) (rises_lower n (suc (rank p)) (passing t ps) (omega (arith, a.0)) ih)

  pub passing_has : OfPairs t → (ps : List Pair) (q : Pair) → has q (passing t ps) ≡ (has q ps && t q)
  unfolding has passing
  passing_has of [] q = refl
  passing_has of (p ∷ ps) q = stands (t p) refl (passing_has of ps q)
    where
      kept : (a b c : Bool) → (a ≡ true → c ≡ true) → (a || (b && c)) ≡ ((a || b) && c)
      kept true b c f = sym (f refl)
      kept false b c f = refl

      gone : (a b c : Bool) → (a ≡ true → c ≡ false) → (b && c) ≡ ((a || b) && c)
      gone true b c f = and_false_right b c (f refl) ∙ sym (f refl)
      gone false b c f = refl

      stands : (b : Bool) → t p ≡ b → has q (passing t ps) ≡ (has q ps && t q) → has q (passing t (p ∷ ps)) ≡ ((same q p || has q ps) && t q)
      stands true e ih = rw (passing_yes t p ps e, has, ih) (kept (same q p) (has q ps) (t q) (λ s. of q p s ∙ e))
      stands false e ih = rw (passing_no t p ps e, ih) (gone (same q p) (has q ps) (t q) (λ s. of q p s ∙ e))

-- A pair taken out.
module _ (p q : Pair) (qs : List Pair) where
  without_this : same p q ≡ true → without p (q ∷ qs) ≡ without p qs
  unfolding without
  without_this s = passing_no (λ r. not (same r p)) q qs (ap not (same_turned q p ∙ s))

  without_other : same p q ≡ false → without p (q ∷ qs) ≡ q ∷ without p qs
  unfolding without
  without_other s = passing_yes (λ r. not (same r p)) q qs (ap not (same_turned q p ∙ s))

pub without_rises : (n : ℕ) (p : Pair) (ps : List Pair) → Rises n ps → Rises n (without p ps)
unfolding without
without_rises n p ps a = passing_rises (λ r. not (same r p)) n ps a

pub without_has : (p : Pair) (ps : List Pair) (q : Pair) → has q (without p ps) ≡ (has q ps && not (same q p))
unfolding without
without_has p ps q = passing_has (λ r. not (same r p)) (λ a b s. ap not (same_left a b p s)) ps q

-- What is not in the set stays out of it, and what is in it is there once.
without_absent : (p : Pair) (ps : List Pair) → has p ps ≡ false → without p ps ≡ ps
unfolding has without passing
without_absent p [] h = refl
without_absent p (q ∷ qs) h =
    without_other p q qs (or_first (same p q) (has p qs) h) ∙ ap (λ (l : List Pair). q ∷ l) (without_absent p qs (or_second (same p q) (has p qs) h))

has_above : (p : Pair) (ps : List Pair) → Rises (suc (rank p)) ps → has p ps ≡ false
unfolding has Rises
has_above p [] a = refl
has_above p (q ∷ qs) a =
    rw (apart_not_same p q (λ e. omega (arith, a.0, e))) (has_above p qs (rises_lower (suc (rank p)) (suc (rank q)) qs (omega (arith, a.0)) a.1))

pub without_length : (n : ℕ) (p : Pair) (ps : List Pair) → Rises n ps → has p ps ≡ true → suc (length (without p ps)) ≡ length ps
unfolding has Rises
without_length n p [] a h = absurd (false≢true h)
without_length n p (q ∷ qs) a h = stands (same p q) refl (without_length (suc (rank q)) p qs a.1)
  where
    stands : (b : Bool) → same p q ≡ b → (has p qs ≡ true → suc (length (without p qs)) ≡ length qs) → suc (length (without p (q ∷ qs))) ≡ suc (length qs)
    stands true s ih =
        let above : Rises (suc (rank p)) qs = rises_lower (suc (rank p)) (suc (rank q)) qs (omega (arith, same_level p q s)) a.1 in
        rw (without_this p q qs s, without_absent p qs (has_above p qs above)) refl
    stands false s ih = rw (without_other p q qs s) (ap suc (ih (rw s at h)))

-- Badges and floors that are words.
unfoldable pub PairsFit : List Pair → Type 0
PairsFit [] = Unit {0}
PairsFit (p ∷ ps) = Words p × PairsFit ps

pub insert_fits : (p : Pair) (ps : List Pair) → Words p → PairsFit ps → PairsFit (insert p ps)
unfolding PairsFit insert
insert_fits p [] w a = (w, tt)
insert_fits p (q ∷ qs) w a = stands (compared p q) (insert_fits p qs w a.1)
  where
    stands : Compared p q → PairsFit (insert p qs) → PairsFit (insert p (q ∷ qs))
    stands (earlier b) ih = rw (insert_first p q qs b) (w, a)
    stands (equal s) ih = rw (insert_there p q qs s) a
    stands (later l) ih = rw (insert_later p q qs l) (a.0, ih)

pub passing_fits : (t : Pair → Bool) (ps : List Pair) → PairsFit ps → PairsFit (passing t ps)
unfolding PairsFit passing
passing_fits t [] a = tt
passing_fits t (p ∷ ps) a = stands (t p) refl (passing_fits t ps a.1)
  where
    stands : (b : Bool) → t p ≡ b → PairsFit (passing t ps) → PairsFit (passing t (p ∷ ps))
    stands true e ih = rw (passing_yes t p ps e) (a.0, ih)
    stands false e ih = rw (passing_no t p ps e) ih

pub without_fits : (p : Pair) (ps : List Pair) → PairsFit ps → PairsFit (without p ps)
unfolding without
without_fits p ps a = passing_fits (λ r. not (same r p)) ps a

-- Two ascending lists of the same pairs are one list.
has_first : (p : Pair) (ps : List Pair) → has p (p ∷ ps) ≡ true
unfolding has
has_first p ps = rw (level_same p p refl) refl

has_on : (p q : Pair) (qs : List Pair) → same p q ≡ false → has p (q ∷ qs) ≡ has p qs
unfolding has
has_on p q qs e = rw e refl

pub one_list : (m n : ℕ) (ps qs : List Pair) → Rises m ps → Rises n qs → PairsFit ps → PairsFit qs → ((r : Pair) → has r ps ≡ has r qs) → ps ≡ qs
unfolding Rises PairsFit has
one_list m n [] [] a b v w h = refl
one_list m n [] (q ∷ qs) a b v w h = absurd (false≢true (h q ∙ has_first q qs))
one_list m n (p ∷ ps) [] a b v w h = absurd (false≢true (sym (h p) ∙ has_first p ps))
one_list m n (p ∷ ps) (q ∷ qs) a b v w h = stands (compared p q) (one_list (suc (rank p)) (suc (rank q)) ps qs a.1 b.1 v.1 w.1)
  where
    stands : Compared p q → (((r : Pair) → has r ps ≡ has r qs) → ps ≡ qs) → p ∷ ps ≡ q ∷ qs
    stands (earlier l) rest = absurd (false≢true (sym (has_above p (q ∷ qs) (before_below p q l, b.1)) ∙ sym (h p) ∙ has_first p ps))
    stands (later l) rest = absurd (false≢true (sym (has_above q (p ∷ ps) (before_below q p l, a.1)) ∙ h q ∙ has_first q qs))
    stands (equal s) rest =
        ap₂ (λ (x : Pair) (l : List Pair). x ∷ l) (rank_same v.0 w.0 (same_level p q s)) (rest λ r. below r (same r p) refl)
      where
        below : (r : Pair) (b : Bool) → same r p ≡ b → has r ps ≡ has r qs
        below r true e =
            has_above r ps (rises_lower (suc (rank r)) (suc (rank p)) ps (omega (arith, same_level r p e)) a.1) ∙
            sym (has_above r qs (rises_lower (suc (rank r)) (suc (rank q)) qs (omega (arith, same_level r p e, same_level p q s)) b.1))
        below r false e = sym (has_on r p ps e) ∙ h r ∙ has_on r q qs (sym (same_right p q r s) ∙ e)
