-- Live is the number of pairs held: kept by entries that cancel, and counted by all levels joined into one. Assumes nothing.
use Rattle.std.specs.Prelude.{ℕ, suc, ◌+◌, ◌≤◌, ◌≡◌, refl, Bool, true, false, not, [], ◌∷◌, ◌++◌, length}
use Rattle.std.proofs.Common.{arith, sym, ap, ◌∙◌, eqb-true, eq-eqb}
use Rattle.laws.specs.Lists.{concat}
use Rattle.slot.specs.declared.Pair.{Pair}
use Rattle.rules.specs.Tree.{Entry, Level, Tree, rank_of}
use Rattle.rules.specs.Finding.{met, find, held}
use Rattle.rules.specs.Merging.{toggle, join}
use Rattle.rules.specs.Sound.{alternating, count_kind, live_right}
use Rattle.entries.specs.Ascending.{From, AllFrom, find_here, held_met, held_agree}
use Rattle.entries.specs.Counts.{kind_count, count_none, count_normal, count_filter, count_joined, count_first, count_levels, count_no_levels}
use Rattle.good.specs.Comparing.{Compared, earlier, equal, later, compared}
use Rattle.good.specs.Toggle.{toggle_before, toggle_cancels, toggle_after, find_later}
use Rattle.good.specs.Join.{join_from, find_join_lower}
use Rattle.good.specs.Alternate.{Over, alternating_over, alternating_below, turned, join_over, joined_held}

-- Two levels' normal entries less their filters are one number.
unfoldable pub Even : Level → Level → Type 0
Even es fs = kind_count true es + kind_count false fs ≡ kind_count false es + kind_count true fs

-- An entry and its filter count nothing.
count_unlike : (e f : Entry) → f.normal ≡ not e.normal → (b : Bool) → kind_count b (e ∷ []) + kind_count b (f ∷ []) ≡ 1
count_unlike e f u b = told e.normal refl b
  where
    told : (n : Bool) → e.normal ≡ n → (b : Bool) → kind_count b (e ∷ []) + kind_count b (f ∷ []) ≡ 1
    told true h true = omega (arith, (count_normal e [] h).0, (count_filter f [] (u ∙ ap not h)).0, count_none true)
    told true h false = omega (arith, (count_normal e [] h).1, (count_filter f [] (u ∙ ap not h)).1, count_none false)
    told false h true = omega (arith, (count_filter e [] h).0, (count_normal f [] (u ∙ ap not h)).0, count_none true)
    told false h false = omega (arith, (count_filter e [] h).1, (count_normal f [] (u ∙ ap not h)).1, count_none false)

-- An entry toggled counts as one more, where an entry that it cancels is of the other kind.
abbrev pub CancelsUnlike : Entry → Level → Type 0
CancelsUnlike e fs = (c : Bool) → find e.pair fs ≡ met c → c ≡ not e.normal

pub toggle_even : (e : Entry) (fs : Level) → CancelsUnlike e fs → Even (toggle e fs) (e ∷ fs)
unfolding Even toggle
toggle_even e [] k = omega arith
toggle_even e (f ∷ fs) k = stands (compared e.pair f.pair) (toggle_even e fs)
  where
    first : (b : Bool) → kind_count b (e ∷ f ∷ fs) ≡ kind_count b (e ∷ []) + (kind_count b (f ∷ []) + kind_count b fs)
    first b = count_first b e (f ∷ fs) ∙ ap (λ (n : ℕ). kind_count b (e ∷ []) + n) (count_first b f fs)

    stands : Compared e.pair f.pair → (CancelsUnlike e fs → Even (toggle e fs) (e ∷ fs)) → Even (toggle e (f ∷ fs)) (e ∷ f ∷ fs)
    stands (earlier b) rest = rw (toggle_before e f fs b) (omega arith)
    stands (equal s) rest =
        let u = count_unlike e f (k f.normal (find_here e.pair f fs s)) in
        rw (toggle_cancels e f fs s) (omega (arith, first true, first false, u true, u false))
    stands (later l) rest =
        let ih : Even (toggle e fs) (e ∷ fs) = rest λ c h. k c (find_later e.pair f fs l ∙ h) in
        rw (toggle_after e f fs l)
        (omega (arith, ih, first true, first false, count_first true f (toggle e fs), count_first false f (toggle e fs), count_first true e fs, count_first false e fs))

-- Of live and a tree: live is the normal entries less the filters.
unfoldable pub Counted : ℕ → Tree → Type 0
Counted live t = live + count_kind false t ≡ count_kind true t

pub right_counted : (live : ℕ) (t : Tree) → live_right live t ≡ true → Counted live t
unfolding Counted live_right
right_counted live t e = eqb-true (live + count_kind false t) (count_kind true t) e

pub counted_right : (live : ℕ) (t : Tree) → Counted live t → live_right live t ≡ true
unfolding Counted live_right
counted_right live t c = eq-eqb (live + count_kind false t) (count_kind true t) c

-- A level with nothing below it has normal entries alone.
pub lone_normal : (es : Level) → Over es [] → (kind_count true es ≡ length es) × (kind_count false es ≡ 0)
unfolding Over held
lone_normal [] o = (count_none true, count_none false)
lone_normal (e ∷ es) o =
    let rest = lone_normal es o.1 in
    let here = count_normal e es o.0 in
    (here.0 ∙ ap suc rest.0, here.1 ∙ rest.1)

pub lone_live : (live : ℕ) (es : Level) → Over es [] → Counted live (es ∷ []) → live ≡ length es
unfolding Counted
lone_live live es o c =
    let n = lone_normal es o in
    omega (arith, c, n.0, n.1, count_levels true es [], count_levels false es [], count_no_levels true, count_no_levels false)

-- All levels joined into one: the pairs that the tree holds, each with its normal entry.
unfoldable pub members : Tree → Level
members [] = []
members (es ∷ t) = join es (members t)

pub record Gathered (t : Tree) (ms : Level) : Type 0 where
  pub rises : From 0 ms
  pub over : Over ms []
  pub holds : (p : Pair) → held p (ms ∷ []) ≡ held p t
  pub counts : Even ms (concat t)

pub over_agree : (es : Level) (t u : Tree) → ((p : Pair) → held p t ≡ held p u) → Over es t → Over es u
unfolding Over
over_agree [] t u h o = tt
over_agree (e ∷ es) t u h o = (o.0 ∙ ap not (h e.pair), over_agree es t u h o.1)

pub even_members : (es ms js : Level) (t : Tree) → Even ms (concat t) → Even js (es ++ ms) → Even js (concat (es ∷ t))
unfolding Even concat
even_members es ms js t h k =
    omega (arith, h, k, count_joined true es ms, count_joined false es ms, count_joined true es (concat t), count_joined false es (concat t))
