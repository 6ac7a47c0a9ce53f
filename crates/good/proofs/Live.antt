-- Live is the number of pairs held: kept by entries that cancel, and counted by all levels joined into one. Assumes nothing.
use Rattle.std.specs.Prelude.{ℕ, suc, ◌+◌, ◌≤◌, ◌≡◌, refl, Bool, true, false, not, [], ◌∷◌, ◌++◌, length}
use Rattle.std.proofs.Common.{arith, sym, ap, ◌∙◌, eqb-true, eq-eqb}
use Rattle.laws.specs.Lists.{concat}
use Rattle.slot.specs.declared.Pair.{Pair}
use Rattle.rules.specs.Tree.{Entry, Level, Tree, rank_of}
use Rattle.rules.specs.Finding.{met, find, held}
use Rattle.rules.specs.Merging.{toggle, join}
use Rattle.rules.specs.Sound.{alternating, count_kind, live_right}
use Rattle.entries.specs.Ascending.{From, AllFrom, find_here, held_met, held_agree}
use Rattle.entries.specs.Counts.{kind_count, count_none, count_normal, count_filter, count_joined, count_first, count_levels, count_no_levels}
use Rattle.good.specs.Comparing.{Compared, earlier, equal, later, compared}
use Rattle.good.specs.Toggle.{toggle_before, toggle_cancels, toggle_after, find_later}
use Rattle.good.specs.Join.{join_from, find_join_lower}
use Rattle.good.specs.Alternate.{Over, alternating_over, alternating_below, turned, join_over, joined_held}
use Rattle.good.specs.Live.{CancelsUnlike, Counted, Even, Gathered, even_members, lone_normal, members, over_agree, toggle_even}

-- Two neighbouring levels joined count as both.
pub join_even : (m n : ℕ) (es fs : Level) (t : Tree) → From m es → From n fs → Over es (fs ∷ t) → Even (join es fs) (es ++ fs)
unfolding From Over Even join
join_even m n [] fs t a b o = omega arith
join_even m n (e ∷ es) fs t a b o =
    let rest : Even (join es fs) (es ++ fs) = join_even (suc (rank_of e)) n es fs t a.1 b o.1 in
    let on : Even (toggle e (join es fs)) (e ∷ join es fs) = toggle_even e (join es fs) unlike in
    omega (arith, rest, on, count_first true e (join es fs), count_first false e (join es fs), count_first true e (es ++ fs), count_first false e (es ++ fs))
  where
    unlike : CancelsUnlike e (join es fs)
    unlike c h = turned e.normal c (o.0 ∙ ap not (held_met e.pair fs t c (sym (find_join_lower e.pair n es fs a.1 b) ∙ h)))

pub joined_counted : (live m n : ℕ) (es fs : Level) (t : Tree) → From m es → From n fs → Over es (fs ∷ t) → Counted live (es ∷ fs ∷ t) → Counted live (join es fs ∷ t)
unfolding Even Counted
joined_counted live m n es fs t a b o c =
    omega (
      arith,
      c,
      join_even m n es fs t a b o,
      count_joined true es fs,
      count_joined false es fs,
      levels true,
      levels false,
      count_levels true (join es fs) t,
      count_levels false (join es fs) t,
    )
  where
    levels : (b : Bool) → count_kind b (es ∷ fs ∷ t) ≡ kind_count b es + (kind_count b fs + count_kind b t)
    levels b = count_levels b es (fs ∷ t) ∙ ap (λ (n : ℕ). kind_count b es + n) (count_levels b fs t)

pub gathered : (t : Tree) → AllFrom 0 t → alternating t ≡ true → Gathered t (members t)
unfolding AllFrom From Over Even concat held find members
gathered [] a o = record { rises = tt; over = tt; holds = λ p. refl; counts = omega arith }
gathered (es ∷ t) a o = on (gathered t a.1 (alternating_below es t o))
  where
    on : Gathered t (members t) → Gathered (es ∷ t) (join es (members t))
    on below =
        let ms = members t in
        let upper : Over es (ms ∷ []) = over_agree es t (ms ∷ []) (λ p. sym (below.holds p)) (alternating_over es t o) in
        record {
          rises = join_from 0 es ms a.0 below.rises;
          over = join_over 0 0 es ms [] a.0 below.rises upper below.over;
          holds = λ p. joined_held p 0 0 es ms [] a.0 below.rises upper below.over ∙ held_agree p es es (ms ∷ []) t refl (below.holds p);
          counts = even_members es ms (join es ms) t below.counts (join_even 0 0 es ms [] a.0 below.rises upper);
        }

-- So live is their number, and is not 0 where a pair is held.
pub live_members : (live : ℕ) (t : Tree) → AllFrom 0 t → alternating t ≡ true → Counted live t → live ≡ length (members t)
unfolding Even Counted count_kind kind_count
live_members live t a o c =
    let g = gathered t a o in
    let n = lone_normal (members t) g.over in
    omega (arith, c, n.0, n.1, g.counts)

pub held_some : (live : ℕ) (t : Tree) (p : Pair) → AllFrom 0 t → alternating t ≡ true → Counted live t → held p t ≡ true → 1 ≤ live
unfolding held find
held_some live t p a o c h = some (members t) (live_members live t a o c) ((gathered t a o).holds p ∙ h)
  where
    some : (ms : Level) → live ≡ length ms → held p (ms ∷ []) ≡ true → 1 ≤ live
    some [] n k =
        let z : ◌≡◌ {A = Bool} false true = k in
        let y : ◌≡◌ {A = ℕ} 0 1 = cc in
        absurd (omega arith)
    some (m ∷ ms) n k = omega (arith, n)
