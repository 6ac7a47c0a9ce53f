-- Entries that alternate in kind, pair by pair: kept by an entry toggled into the top level and by the top level joined into the next, which
-- keeps what the tree holds. Assumes nothing.
use Rattle.std.specs.Prelude.{ℕ, suc, ◌≡◌, Bool, true, false, not, [], ◌∷◌}
use Rattle.std.proofs.Common.{arith, sym, ap, ◌∙◌}
use Rattle.std.proofs.Math.Path.{refl}
use Rattle.std.specs.Bool.{beq}
use Rattle.laws.specs.Tests.{and_left, and_right}
use Rattle.laws.specs.Lists.{all}
use Rattle.laws.specs.Flat.{all_first, all_rest}
use Rattle.slot.specs.declared.Pair.{Pair}
use Rattle.slot.specs.Pair.{rank, same}
use Rattle.slot.specs.Order.{before_below, same_level, not_same_apart, level_same, apart_not_same}
use Rattle.rules.specs.Tree.{Entry, Level, Tree, rank_of}
use Rattle.rules.specs.Finding.{Met, absent, met, find, held}
use Rattle.rules.specs.Merging.{toggle, join}
use Rattle.rules.specs.Sound.{alternating}
use Rattle.entries.specs.Ascending.{From, from_lower_lem, find_here, find_on, find_above, held_met, held_absent, held_agree}
use Rattle.good.specs.Comparing.{Compared, earlier, equal, later, compared}
use Rattle.good.specs.Toggle.{toggle_before, toggle_cancels, toggle_after, cancel, find_nothing, find_later}
use Rattle.good.specs.Join.{join_from, find_join, find_join_lower}

-- Each entry of a level is normal exactly if its pair is not held below.
unfoldable pub Over : Level → Tree → Type 0
Over [] t = Unit {0}
Over (e ∷ es) t = (e.normal ≡ not (held e.pair t)) × Over es t

-- As the test has it.
unlike : (a b : Bool) → not (beq a b) ≡ true → a ≡ not b
unlike true true e = sym e
unlike true false e = refl
unlike false true e = refl
unlike false false e = e

unlike_again : (a b : Bool) → a ≡ not b → not (beq a b) ≡ true
unlike_again true true e = sym e
unlike_again true false e = refl
unlike_again false true e = refl
unlike_again false false e = e

pub turned : (a b : Bool) → a ≡ not b → b ≡ not a
turned a true h = rw h refl
turned a false h = rw h refl

abbrev test_over : Tree → Entry → Bool
test_over t e = not (beq e.normal (held e.pair t))

over_all : (es : Level) (t : Tree) → all (test_over t) es ≡ true → Over es t
unfolding Over
over_all [] t a = tt
over_all (e ∷ es) t a = (unlike e.normal (held e.pair t) (all_first (test_over t) e es a), over_all es t (all_rest (test_over t) e es a))

all_over : (es : Level) (t : Tree) → Over es t → all (test_over t) es ≡ true
unfolding Over all
all_over [] t a = refl
all_over (e ∷ es) t a = rw (unlike_again e.normal (held e.pair t) a.0, all) (all_over es t a.1)

module _ (es : Level) (t : Tree) where
  pub alternating_over : alternating (es ∷ t) ≡ true → Over es t
  unfolding alternating
  alternating_over a = over_all es t (and_left (all (test_over t) es) (alternating t) a)

  pub alternating_below : alternating (es ∷ t) ≡ true → alternating t ≡ true
  unfolding alternating
  alternating_below a = and_right (all (test_over t) es) (alternating t) a

  pub over_alternating : Over es t → alternating t ≡ true → alternating (es ∷ t) ≡ true
  unfolding alternating
  over_alternating a b = rw (all_over es t a, b) refl

-- What is told of a pair is told of every pair of its rank.
find_rank : (p q : Pair) (es : Level) → rank p ≡ rank q → find p es ≡ find q es
find_rank p q [] h = rw (find_nothing p, find_nothing q)
find_rank p q (e ∷ es) h = told (same p e.pair) refl (find_rank p q es h)
  where
    told : (b : Bool) → same p e.pair ≡ b → find p es ≡ find q es → find p (e ∷ es) ≡ find q (e ∷ es)
    told true s rest = rw (find_here p e es s, find_here q e es (level_same q e.pair (sym h ∙ same_level p e.pair s)))
    told false s rest = rw (find_on p e es s, find_on q e es (apart_not_same q e.pair λ k. not_same_apart p e.pair s (h ∙ k))) rest

pub held_rank : (p q : Pair) (t : Tree) → rank p ≡ rank q → held p t ≡ held q t
unfolding held
held_rank p q [] h = refl
held_rank p q (es ∷ t) h =
    ap (λ (m : Met). elim m [ absent ↦ held p t | met n ↦ n ]) (find_rank p q es h) ∙
    ap (λ (b : Bool). elim (find q es) [ absent ↦ b | met n ↦ n ]) (held_rank p q t h)

-- The entry that a level has of a pair is normal exactly if the pair is not held below.
pub met_over : (p : Pair) (es : Level) (t : Tree) (b : Bool) → Over es t → find p es ≡ met b → b ≡ not (held p t)
unfolding Over
met_over p [] t b a f =
    let z : absent ≡ met b = sym (find_nothing p) ∙ f in
    cc
met_over p (e ∷ es) t b a f = told (same p e.pair) refl (met_over p es t b a.1)
  where
    told : (c : Bool) → same p e.pair ≡ c → (find p es ≡ met b → b ≡ not (held p t)) → b ≡ not (held p t)
    told true s rest =
        let z : met e.normal ≡ met b = sym (find_here p e es s) ∙ f in
        let h : held p t ≡ held e.pair t = held_rank p e.pair t (same_level p e.pair s) in
        let n : e.normal ≡ not (held e.pair t) = a.0 in
        cc
    told false s rest = rest (sym (find_on p e es s) ∙ f)

-- An entry toggled into a level stands right over the levels below if it does where the level has no entry of its pair.
pub toggle_over : (n : ℕ) (e : Entry) (fs : Level) (t : Tree) → From n fs → Over fs t → (find e.pair fs ≡ absent → e.normal ≡ not (held e.pair t)) →
    Over (toggle e fs) t
unfolding From Over toggle
toggle_over n e [] t a o k = (k (find_nothing e.pair), tt)
toggle_over n e (f ∷ fs) t a o k = stands (compared e.pair f.pair) (toggle_over (suc (rank_of f)) e fs t a.1 o.1)
  where
    stands : Compared e.pair f.pair → ((find e.pair fs ≡ absent → e.normal ≡ not (held e.pair t)) → Over (toggle e fs) t) → Over (toggle e (f ∷ fs)) t
    stands (earlier b) rest =
        rw (toggle_before e f fs b) (k (find_above e.pair (f ∷ fs) (before_below e.pair f.pair b, a.1)), o)
    stands (equal s) rest = rw (toggle_cancels e f fs s) o.1
    stands (later l) rest = rw (toggle_after e f fs l) (o.0, rest λ h. k (find_later e.pair f fs l ∙ h))

-- So do two neighbouring levels joined.
pub join_over : (m n : ℕ) (es fs : Level) (t : Tree) → From m es → From n fs → Over es (fs ∷ t) → Over fs t → Over (join es fs) t
unfolding From Over join
join_over m n [] fs t a b o u = u
join_over m n (e ∷ es) fs t a b o u =
    toggle_over 0 e (join es fs) t (join_from 0 es fs (from_lower_lem 0 (suc (rank_of e)) es (omega arith) a.1) (from_lower_lem 0 n fs (omega arith) b))
    (join_over (suc (rank_of e)) n es fs t a.1 b o.1 u)
    (λ h. o.0 ∙ ap not (held_absent e.pair fs t (sym (find_join_lower e.pair n es fs a.1 b) ∙ h)))

-- And the tree holds what it held: of two entries that cancel the upper is as the pair is held below both.
pub joined_held : (p : Pair) (m n : ℕ) (es fs : Level) (t : Tree) → From m es → From n fs → Over es (fs ∷ t) → Over fs t →
    held p (join es fs ∷ t) ≡ held p (es ∷ fs ∷ t)
unfolding cancel
joined_held p m n es fs t a b o u = told (find p es) (find p fs) refl refl
  where
    joined : (x y : Met) → find p es ≡ x → find p fs ≡ y → find p (join es fs) ≡ cancel x y
    joined x y h k = find_join p m n es fs a b ∙ rw (h, k) refl

    told : (x y : Met) → find p es ≡ x → find p fs ≡ y → held p (join es fs ∷ t) ≡ held p (es ∷ fs ∷ t)
    told absent y h k = held_agree p (join es fs) fs t t (joined absent y h k ∙ sym k) refl ∙ sym (held_absent p es (fs ∷ t) h)
    told (met x) absent h k = held_met p (join es fs) t x (joined (met x) absent h k) ∙ sym (held_met p es (fs ∷ t) x h)
    told (met x) (met y) h k =
        let upper : x ≡ not y = met_over p es (fs ∷ t) x o h ∙ ap not (held_met p fs t y k) in
        held_absent p (join es fs) t (joined (met x) (met y) h k) ∙ turned y (held p t) (met_over p fs t y u k) ∙ sym upper ∙ sym (held_met p es (fs ∷ t) x h)
