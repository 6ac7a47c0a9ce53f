-- Condition 2 on the rules, of lists: the held pairs from a first to a second are those of the plain set, in the same order.
-- Assumes nothing.
use Rattle.std.proofs.Common.{arith, sym, ap, ap₂, ◌∙◌}
use Rattle.std.specs.Prelude.{◌≡◌, refl, true, false, not, ◌&&◌, ◌||◌, List, [], ◌∷◌}
use Rattle.std.proofs.Math.Bool.{Bool}
use Rattle.std.proofs.lemmas.Bool.{false≢true}
use Rattle.laws.specs.Lists.{passing}
use Rattle.laws.specs.Tests.{and_false}
use Rattle.geometry.specs.declared.Geometry.{Geometry}
use Rattle.slot.specs.declared.Pair.{Pair}
use Rattle.slot.specs.Pair.{before, same}
use Rattle.slot.specs.Order.{same_level}
use Rattle.rules.specs.Tree.{Level, Tree}
use Rattle.rules.specs.Finding.{Met, absent, met, find, held}
use Rattle.rules.specs.Merging.{State}
use Rattle.rules.specs.Listing.{pairs_with, pairs_of, held_between}
use Rattle.rules.specs.Good.{LevelFits, TreeFits}
use Rattle.entries.specs.Ascending.{find_on, held_absent}
use Rattle.good.specs.Alternate.{held_rank}
use Rattle.promises.specs.Plain.{has, Rises, PairsFit, OfPairs, insert_rises, insert_has, insert_fits, passing_rises, passing_has, passing_fits, one_list}
use Rattle.promises.specs.Sets.{Holds}

-- The pairs that a tree has entries of: ascending, words, and every held one among them.
pairs_with_rise : (es : Level) (ps : List Pair) → Rises 0 ps → Rises 0 (pairs_with es ps)
unfolding pairs_with
pairs_with_rise [] ps a = a
pairs_with_rise (e ∷ es) ps a = insert_rises 0 e.pair (pairs_with es ps) (omega arith) (pairs_with_rise es ps a)

pairs_rise : (t : Tree) → Rises 0 (pairs_of t)
unfolding pairs_of Rises
pairs_rise [] = tt
pairs_rise (es ∷ t) = pairs_with_rise es (pairs_of t) (pairs_rise t)

pairs_with_fit : (es : Level) (ps : List Pair) → LevelFits es → PairsFit ps → PairsFit (pairs_with es ps)
unfolding pairs_with LevelFits
pairs_with_fit [] ps f a = a
pairs_with_fit (e ∷ es) ps f a = insert_fits e.pair (pairs_with es ps) f.0 (pairs_with_fit es ps f.1 a)

pairs_fit : (t : Tree) → TreeFits t → PairsFit (pairs_of t)
unfolding pairs_of TreeFits PairsFit
pairs_fit [] f = tt
pairs_fit (es ∷ t) f = pairs_with_fit es (pairs_of t) f.0 (pairs_fit t f.1)

or_right : (a b : Bool) → b ≡ true → (a || b) ≡ true
or_right true b e = refl
or_right false b e = e

below_has : (p : Pair) (es : Level) (ps : List Pair) → has p ps ≡ true → has p (pairs_with es ps) ≡ true
unfolding pairs_with
below_has p [] ps h = h
below_has p (e ∷ es) ps h = insert_has e.pair (pairs_with es ps) p ∙ or_right (same p e.pair) (has p (pairs_with es ps)) (below_has p es ps h)

met_has : (p : Pair) (es : Level) (ps : List Pair) (b : Bool) → find p es ≡ met b → has p (pairs_with es ps) ≡ true
unfolding pairs_with find
met_has p [] ps b f = let z : ◌≡◌ {A = Met} absent (met b) = f in cc
met_has p (e ∷ es) ps b f = insert_has e.pair (pairs_with es ps) p ∙ stands (same p e.pair) refl (met_has p es ps b)
  where
    stands : (s : Bool) → same p e.pair ≡ s → (find p es ≡ met b → has p (pairs_with es ps) ≡ true) → (s || has p (pairs_with es ps)) ≡ true
    stands true s rest = refl
    stands false s rest = rest (sym (find_on p e es s) ∙ f)

held_has : (p : Pair) (t : Tree) → held p t ≡ true → has p (pairs_of t) ≡ true
unfolding pairs_of held
held_has p [] h = absurd (false≢true h)
held_has p (es ∷ t) h = stands (find p es) refl (held_has p t)
  where
    stands : (m : Met) → find p es ≡ m → (held p t ≡ true → has p (pairs_of t) ≡ true) → has p (pairs_with es (pairs_of t)) ≡ true
    stands (met b) f rest = met_has p es (pairs_of t) b f
    stands absent f rest = below_has p es (pairs_of t) (rest (sym (held_absent p es t f) ∙ h))

-- Whether a pair is from the first to the second, ends included.
unfoldable pub between : Pair → Pair → Pair → Bool
between first second p = not (before p first) && not (before second p)

between_of_pairs : (first second : Pair) → OfPairs (between first second)
unfolding between before
between_of_pairs first second p q s = rw (same_level p q s) refl

module _ (g : Geometry) (s : State) (set : List Pair) (holds : Holds g s set) where
  pub holds_lists : (first second : Pair) → held_between first second s.tree ≡ passing (between first second) set
  unfolding held_between between
  holds_lists first second =
      one_list 0 0 (passing wanted (pairs_of s.tree)) (passing (between first second) set) (passing_rises wanted 0 (pairs_of s.tree) (pairs_rise s.tree))
      (passing_rises (between first second) 0 set holds.rises) (passing_fits wanted (pairs_of s.tree) (pairs_fit s.tree holds.good.fit))
      (passing_fits (between first second) set holds.fit) same_pairs
    where
      wanted : Pair → Bool
      wanted p = held p s.tree && between first second p

      both : (a b c : Bool) → (b ≡ true → a ≡ true) → (a && (b && c)) ≡ (b && c)
      both a true c f = rw (f refl) refl
      both a false c f = and_false a

      same_pairs : (p : Pair) → has p (passing wanted (pairs_of s.tree)) ≡ has p (passing (between first second) set)
      same_pairs p =
          passing_has wanted (λ p q e. ap₂ ◌&&◌ (held_rank p q s.tree (same_level p q e)) (between_of_pairs first second p q e)) (pairs_of s.tree) p ∙
          both (has p (pairs_of s.tree)) (held p s.tree) (between first second p) (held_has p s.tree) ∙
          ap (λ (b : Bool). b && between first second p) (holds.members p) ∙ sym (passing_has (between first second) (between_of_pairs first second) set p)
