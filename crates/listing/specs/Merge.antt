-- A merge of levels that ascend: the least pair among the levels' first entries comes next, the topmost level that has it decides whether it
-- is held, and every level that has it moves on. So the held pairs come out in order. Assumes nothing.
use Rattle.std.specs.Prelude.{ℕ, suc, ◌+◌, ◌≤◌, ◌<◌, ◌≡◌, refl, ◌&&◌, length}
use Rattle.std.proofs.Common.{le_refl, arith, sym, subst, ◌∙◌}
use Rattle.std.proofs.Math.Path.{ap, ap₂}
use Rattle.std.proofs.Math.Bool.{Bool, true, false, not}
use mathlib.Core.List.{List, [], ◌∷◌}
use Rattle.std.proofs.Math.Option.{Option, none, some}
use Rattle.laws.specs.Lists.{passing, passing_no}
use Rattle.slot.specs.declared.Pair.{Pair}
use Rattle.slot.specs.Pair.{rank, before, same}
use Rattle.slot.specs.Order.{before_below, not_before_above, same_level, not_same_apart, below_before, above_not_before, level_same, apart_not_same}
use Rattle.rules.specs.Tree.{Entry, Level, Tree, rank_of}
use Rattle.rules.specs.Finding.{find, held}
use Rattle.rules.specs.Listing.{insert, pairs_with, pairs_of}
use Rattle.entries.specs.Ascending.{From, AllFrom, from_lower_lem, all_from_lower, find_here, find_on, find_above, held_met, held_absent, held_agree}

-- Of two entries the one whose pair comes first; at one pair the upper one's kind counts.
unfoldable pub lesser : Entry → Entry → Entry
lesser e f = elim (before e.pair f.pair) [ true ↦ e | false ↦ elim (same e.pair f.pair) [ true ↦ record { pair = f.pair; normal = e.normal } | false ↦ f ] ]

pub lesser_is : (e f : Entry) (b s : Bool) → before e.pair f.pair ≡ b → same e.pair f.pair ≡ s →
    elim b [ true ↦ e | false ↦ elim s [ true ↦ record { pair = f.pair; normal = e.normal } | false ↦ f ] ] ≡ lesser e f
unfolding lesser
lesser_is e f b s x y =
    sym (ap₂ (λ (b s : Bool). elim b as (λ _. Entry) [ true ↦ e | false ↦ elim s [ true ↦ record { pair = f.pair; normal = e.normal } | false ↦ f ] ]) x y)

unfoldable pub lower : Level → Option Entry → Option Entry
lower [] l = l
lower (e ∷ es) none = some e
lower (e ∷ es) (some f) = some (lesser e f)

-- The least pair of a tree, as an entry that is normal exactly if the pair is held; none of an empty tree.
unfoldable pub least_of : Tree → Option Entry
least_of [] = none
least_of (es ∷ t) = lower es (least_of t)

-- A level without its first entry, if that is of a pair; so each level of a tree.
unfoldable pub past : Pair → Level → Level
past p [] = []
past p (e ∷ es) = elim (same p e.pair) [ true ↦ es | false ↦ e ∷ es ]

unfoldable pub past_all : Pair → Tree → Tree
past_all p [] = []
past_all p (es ∷ t) = past p es ∷ past_all p t

-- Levels that moved on -------------------------------------------------------------------------------------------------------------------
pub past_here : (p : Pair) (e : Entry) (es : Level) → same p e.pair ≡ true → past p (e ∷ es) ≡ es
unfolding past
past_here p e es s = ap (λ (b : Bool). elim b [ true ↦ es | false ↦ e ∷ es ]) s

pub past_other : (p : Pair) (e : Entry) (es : Level) → same p e.pair ≡ false → past p (e ∷ es) ≡ e ∷ es
unfolding past
past_other p e es s = ap (λ (b : Bool). elim b [ true ↦ es | false ↦ e ∷ es ]) s

past_above : (p : Pair) (es : Level) → From (suc (rank p)) es → past p es ≡ es
unfolding past From
past_above p [] a = refl
past_above p (e ∷ es) a = past_other p e es (apart_not_same p e.pair (λ h. omega (arith, a.0, h)))

past_all_above : (p : Pair) (t : Tree) → AllFrom (suc (rank p)) t → past_all p t ≡ t
unfolding past_all AllFrom
past_all_above p [] a = refl
past_all_above p (es ∷ t) a = ap₂ (λ (x : Level) (y : Tree). x ∷ y) (past_above p es a.0) (past_all_above p t a.1)

from_past : (p : Pair) (es : Level) → From (rank p) es → From (suc (rank p)) (past p es)
unfolding From past
from_past p [] a = tt
from_past p (e ∷ es) a = picked (same p e.pair) refl
  where
    picked : (b : Bool) → same p e.pair ≡ b → From (suc (rank p)) (elim b [ true ↦ es | false ↦ e ∷ es ])
    picked true s = from_lower_lem (suc (rank p)) (suc (rank_of e)) es (omega (arith, a.0)) a.1
    picked false s =
        let d : ¬ (rank p ≡ rank_of e) = not_same_apart p e.pair s in
        (omega (arith, a.0), a.1)

pub all_from_past : (p : Pair) (t : Tree) → AllFrom (rank p) t → AllFrom (suc (rank p)) (past_all p t)
unfolding AllFrom past_all
all_from_past p [] a = tt
all_from_past p (es ∷ t) a = (from_past p es a.0, all_from_past p t a.1)

-- Of every other pair they tell the same.
find_past : (p q : Pair) (es : Level) → (rank q ≡ rank p → ⊥) → find q (past p es) ≡ find q es
unfolding past find
find_past p q [] d = refl
find_past p q (e ∷ es) d = picked (same p e.pair) refl
  where
    picked : (b : Bool) → same p e.pair ≡ b → find q (elim b [ true ↦ es | false ↦ e ∷ es ]) ≡ find q (e ∷ es)
    picked true s = sym (find_on q e es (apart_not_same q e.pair (λ h. d (h ∙ sym (same_level p e.pair s)))))
    picked false s = refl

pub held_past : (p q : Pair) (t : Tree) → (rank q ≡ rank p → ⊥) → held q (past_all p t) ≡ held q t
unfolding past_all
held_past p q [] d = refl
held_past p q (es ∷ t) d = held_agree q (past p es) es (past_all p t) t (find_past p q es d) (held_past p q t d)

-- The number of a tree's entries falls as levels move on.
unfoldable pub entry_count : Tree → ℕ
entry_count [] = 0
entry_count (es ∷ t) = length es + entry_count t

past_length : (p : Pair) (es : Level) → length (past p es) ≤ length es
unfolding past
past_length p [] = omega arith
past_length p (e ∷ es) = picked (same p e.pair)
  where
    picked : (b : Bool) → length {A = Entry} (elim b [ true ↦ es | false ↦ e ∷ es ]) ≤ suc (length es)
    picked true = omega arith
    picked false = omega arith

past_count : (p : Pair) (t : Tree) → entry_count (past_all p t) ≤ entry_count t
unfolding entry_count past_all
past_count p [] = omega arith
past_count p (es ∷ t) = omega (arith, past_length p es, past_count p t)

-- The pairs of a tree in order --------------------------------------------------------------------------------------------------------------
-- Every pair's rank is at least n.
unfoldable pub PairsFrom : ℕ → List Pair → Type 0
PairsFrom n [] = Unit {0}
PairsFrom n (p ∷ ps) = (n ≤ rank p) × PairsFrom n ps

module _ (p q : Pair) (qs : List Pair) where
  inserted : (b s : Bool) → before p q ≡ b → same p q ≡ s →
      insert p (q ∷ qs) ≡ elim b [ true ↦ p ∷ q ∷ qs | false ↦ elim s [ true ↦ q ∷ qs | false ↦ q ∷ insert p qs ] ]
  unfolding insert
  inserted b s e f = ap₂ (λ (b s : Bool). elim b [ true ↦ p ∷ q ∷ qs | false ↦ elim s [ true ↦ q ∷ qs | false ↦ q ∷ insert p qs ] ]) e f

insert_least : (p : Pair) (ps : List Pair) → PairsFrom (suc (rank p)) ps → insert p ps ≡ p ∷ ps
unfolding PairsFrom insert
insert_least p [] a = refl
insert_least p (q ∷ qs) a = inserted p q qs true (same p q) (below_before p q a.0) refl

insert_after : (p q : Pair) (ps : List Pair) → rank p < rank q → insert q (p ∷ ps) ≡ p ∷ insert q ps
insert_after p q ps h = inserted q p ps false false (above_not_before q p (omega arith)) (apart_not_same q p (λ e. omega arith))

insert_from : (n : ℕ) (p : Pair) (ps : List Pair) → n ≤ rank p → PairsFrom n ps → PairsFrom n (insert p ps)
unfolding PairsFrom insert
insert_from n p [] h a = (h, tt)
insert_from n p (q ∷ qs) h a = picked (before p q) (same p q) (insert_from n p qs h a.1)
  where
    picked : (b s : Bool) → PairsFrom n (insert p qs) → PairsFrom n (elim b [ true ↦ p ∷ q ∷ qs | false ↦ elim s [ true ↦ q ∷ qs | false ↦ q ∷ insert p qs ] ])
    picked true s ih = (h, a)
    picked false true ih = a
    picked false false ih = (a.0, ih)

pairs_with_from : (n : ℕ) (es : Level) (ps : List Pair) → From n es → PairsFrom n ps → PairsFrom n (pairs_with es ps)
unfolding From pairs_with
pairs_with_from n [] ps a b = b
pairs_with_from n (e ∷ es) ps a b = insert_from n e.pair (pairs_with es ps) a.0 (pairs_with_from n es ps (from_lower_lem n (suc (rank_of e)) es (omega (arith, a.0)) a.1) b)

pub pairs_of_from : (n : ℕ) (t : Tree) → AllFrom n t → PairsFrom n (pairs_of t)
unfolding AllFrom pairs_of PairsFrom
pairs_of_from n [] a = tt
pairs_of_from n (es ∷ t) a = pairs_with_from n es (pairs_of t) a.0 (pairs_of_from n t a.1)

pairs_with_after : (p : Pair) (es : Level) (ps : List Pair) → From (suc (rank p)) es → pairs_with es (p ∷ ps) ≡ p ∷ pairs_with es ps
unfolding From pairs_with
pairs_with_after p [] ps a = refl
pairs_with_after p (e ∷ es) ps a =
    ap (insert e.pair) (pairs_with_after p es ps (from_lower_lem (suc (rank p)) (suc (rank_of e)) es (omega (arith, a.0)) a.1)) ∙
    insert_after p e.pair (pairs_with es ps) a.0

-- The merge ---------------------------------------------------------------------------------------------------------------------------------
-- An entry that comes next: no pair of the tree is before it, it is the first of the tree's pairs, its kind decides, and some level has it.
pub record NextIs (t : Tree) (f : Entry) : Type 0 where
  pub from : AllFrom (rank_of f) t
  pub pairs : pairs_of t ≡ f.pair ∷ pairs_of (past_all f.pair t)
  pub decides : held f.pair t ≡ f.normal
  pub fewer : entry_count (past_all f.pair t) < entry_count t

-- An entry of the top level whose pair stands before all else.
next_top : (e : Entry) (es : Level) (t : Tree) → From (suc (rank_of e)) es → AllFrom (suc (rank_of e)) t → NextIs ((e ∷ es) ∷ t) e
unfolding From AllFrom pairs_of pairs_with past_all entry_count
next_top e es t a b = record {
  from = ((le_refl _, a), all_from_lower (rank_of e) (suc (rank_of e)) t (omega arith) b);
  pairs = insert_least e.pair (pairs_with es (pairs_of t)) (pairs_with_from (suc (rank_of e)) es (pairs_of t) a (pairs_of_from (suc (rank_of e)) t b)) ∙
      sym (ap₂ (λ (x : Level) (y : Tree). e.pair ∷ pairs_with x (pairs_of y)) (past_here e.pair e es (level_same e.pair e.pair refl)) (past_all_above e.pair t b));
  decides = held_met e.pair (e ∷ es) t e.normal (find_here e.pair e es (level_same e.pair e.pair refl));
  fewer = omega (arith, ap length (past_here e.pair e es (level_same e.pair e.pair refl)), past_count e.pair t);
}

-- One whose pair the levels below have too.
next_both : (e : Entry) (es : Level) (t : Tree) (f : Entry) → From (suc (rank_of e)) es → NextIs t f → rank_of e ≡ rank_of f →
    NextIs ((e ∷ es) ∷ t) (record { pair = f.pair; normal = e.normal })
unfolding From AllFrom pairs_of pairs_with past_all entry_count
next_both e es t f a m h =
    let here : same f.pair e.pair ≡ true = level_same f.pair e.pair (sym h) in
    let after : From (suc (rank_of f)) es = from_lower_lem (suc (rank_of f)) (suc (rank_of e)) es (omega arith) a in
    record {
      from = ((omega arith, a), m.from);
      pairs = ap (λ (ps : List Pair). insert e.pair (pairs_with es ps)) m.pairs ∙
          ap (insert e.pair) (pairs_with_after f.pair es (pairs_of (past_all f.pair t)) after) ∙
          inserted e.pair f.pair (pairs_with es (pairs_of (past_all f.pair t))) false true (above_not_before e.pair f.pair (omega arith)) (level_same e.pair f.pair h) ∙
          sym (ap (λ (x : Level). f.pair ∷ pairs_with x (pairs_of (past_all f.pair t))) (past_here f.pair e es here));
      decides = held_met f.pair (e ∷ es) t e.normal (find_here f.pair e es here);
      fewer = omega (arith, ap length (past_here f.pair e es here), past_count f.pair t);
    }

-- One of the levels below, before all of the top level.
next_below : (es : Level) (t : Tree) (f : Entry) → From (suc (rank_of f)) es → NextIs t f → NextIs (es ∷ t) f
unfolding AllFrom pairs_of past_all entry_count
next_below es t f a m = record {
  from = (from_lower_lem (rank_of f) (suc (rank_of f)) es (omega arith) a, m.from);
  pairs = ap (pairs_with es) m.pairs ∙ pairs_with_after f.pair es (pairs_of (past_all f.pair t)) a ∙
      sym (ap (λ (x : Level). f.pair ∷ pairs_with x (pairs_of (past_all f.pair t))) (past_above f.pair es a));
  decides = held_absent f.pair es t (find_above f.pair es a) ∙ m.decides;
  fewer = omega (arith, past_length f.pair es, m.fewer);
}

-- A tree that has no least pair is empty.
pub record Spent (t : Tree) : Type 0 where
  pub from : (n : ℕ) → AllFrom n t
  pub pairs : pairs_of t ≡ []

pub spent : (t : Tree) → least_of t ≡ none → Spent t
unfolding least_of lower AllFrom From pairs_of pairs_with
spent [] e = record { from = λ n. tt; pairs = refl }
spent ([] ∷ t) e =
    let s = spent t e in
    record { from = λ n. (tt, s.from n); pairs = s.pairs }
spent ((f ∷ fs) ∷ t) e = picked (least_of t) e
  where
    picked : (l : Option Entry) → lower (f ∷ fs) l ≡ none → Spent ((f ∷ fs) ∷ t)
    picked none q = let z : ◌≡◌ {A = ℕ} 0 1 = cc in absurd (omega arith)
    picked (some g) q = let z : ◌≡◌ {A = ℕ} 0 1 = cc in absurd (omega arith)

-- The least pair of a tree whose levels ascend comes next.
pub next_is_least : (n : ℕ) (t : Tree) (f : Entry) → AllFrom n t → least_of t ≡ some f → NextIs t f
unfolding least_of lower lesser AllFrom From
next_is_least n [] f a e = let z : ◌≡◌ {A = ℕ} 0 1 = cc in absurd (omega arith)
next_is_least n ([] ∷ t) f a e = next_below [] t f tt (next_is_least n t f a.1 e)
next_is_least n ((e ∷ es) ∷ t) f a q = picked (least_of t) refl (λ g. next_is_least n t g a.1) q
  where
    chosen : (g : Entry) → NextIs t g → (b s : Bool) → before e.pair g.pair ≡ b → same e.pair g.pair ≡ s →
        NextIs ((e ∷ es) ∷ t) (elim b [ true ↦ e | false ↦ elim s [ true ↦ record { pair = g.pair; normal = e.normal } | false ↦ g ] ])
    chosen g m true s x y = next_top e es t a.0.1 (all_from_lower (suc (rank_of e)) (rank_of g) t (before_below e.pair g.pair x) m.from)
    chosen g m false true x y = next_both e es t g a.0.1 m (same_level e.pair g.pair y)
    chosen g m false false x y =
        let d : ¬ (rank_of e ≡ rank_of g) = not_same_apart e.pair g.pair y in
        next_below (e ∷ es) t g (omega (arith, not_before_above e.pair g.pair x), a.0.1) m

    picked : (l : Option Entry) → least_of t ≡ l → ((g : Entry) → least_of t ≡ some g → NextIs t g) → lower (e ∷ es) l ≡ some f → NextIs ((e ∷ es) ∷ t) f
    picked none r ih w =
        let same-entry : e ≡ f = cc in
        subst (λ (x : Entry). NextIs ((e ∷ es) ∷ t) x) same-entry (next_top e es t a.0.1 ((spent t r).from (suc (rank_of e))))
    picked (some g) r ih w =
        let same-entry : lesser e g ≡ f = cc in
        subst (λ (x : Entry). NextIs ((e ∷ es) ∷ t) x) same-entry (chosen g (ih g r) (before e.pair g.pair) (same e.pair g.pair) refl refl)

-- The held pairs between two pairs, step by step ---------------------------------------------------------------------------------------------
-- Whether an entry that comes next is listed: held, not before the first pair and not past the second.
unfoldable pub wanted : Pair → Pair → Entry → Bool
wanted first second f = f.normal && (not (before f.pair first) && not (before second f.pair))

pub passing_agree : (n : ℕ) (s t : Pair → Bool) → ((p : Pair) → n ≤ rank p → s p ≡ t p) → (ps : List Pair) → PairsFrom n ps → passing s ps ≡ passing t ps
unfolding PairsFrom passing
passing_agree n s t h [] a = refl
passing_agree n s t h (p ∷ ps) a =
    ap₂ (λ (b : Bool) (l : List Pair). elim b [ true ↦ p ∷ l | false ↦ l ]) (h p a.0) (passing_agree n s t h ps a.1)

pub passing_none : (n : ℕ) (t : Pair → Bool) → ((p : Pair) → n ≤ rank p → t p ≡ false) → (ps : List Pair) → PairsFrom n ps → passing t ps ≡ []
unfolding PairsFrom passing
passing_none n t h [] a = refl
passing_none n t h (p ∷ ps) a = passing_no t p ps (h p a.0) ∙ passing_none n t h ps a.1
