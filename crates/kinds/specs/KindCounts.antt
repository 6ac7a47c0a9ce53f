-- The normal entries and the filters of a tree, counted level by level. Assumes nothing.
use Prim.Native.Nat.{ℕ, suc, ◌+◌, ◌-◌, ◌≤◌, ◌<◌}
use Rattle.std.proofs.Common.{zero-add, add-zero, ap, sym, ◌∙◌}
use Rattle.std.proofs.Math.Numerals.{add-one}
use native.Mathlib.Omega.{arith}
use Rattle.std.specs.Prelude.{◌≡◌, refl, Bool, cond, List, [], ◌∷◌, length}
use Rattle.std.proofs.Math.Bool.{true, false}
use Rattle.laws.specs.Lists.{span, passing}
use Rattle.slot.specs.declared.Slot.{Slot}
use Rattle.slot.specs.declared.Kind.{Kind}
use Rattle.slot.specs.declared.Kind.TheVariants.{Normal, Filter, External, Internal}
use Rattle.rules.specs.Tree.{Level, Tree}
use Rattle.rules.specs.Level.{fence_kind}
use Rattle.rules.specs.Finding.{normal_kind}
use Rattle.rules.specs.Sound.{entries_of, count_kind}
use Rattle.entries.specs.declared.Run.{Run}
use Rattle.entries.specs.Run.{Inside, count_in, rest_from, rest, entries_in, rest_none, rest_all, few_in}
use Rattle.entries.specs.Skip.{slot_in, page_from}
use Rattle.entries.specs.Counts.{kind_count, count_normal, count_filter, count_most, count_joined, count_levels, count_no_levels}
use Rattle.kinds.specs.declared.KindCounts.{KindCounts}

abbrev pub level_counts : Level → KindCounts
level_counts es = record { normal = kind_count true es; filters = kind_count false es }

abbrev pub tree_counts : Tree → KindCounts
tree_counts t = record { normal = count_kind true t; filters = count_kind false t }

-- A level's counts are small.
pub record CountsSmall (n : KindCounts) : Type 0 where
  pub few_normal : n.normal ≤ 8000000
  pub few_filters : n.filters ≤ 8000000

-- The counts of four levels, added up.
pub count_four : (b : Bool) (a c d e : Level) → count_kind b (a ∷ c ∷ d ∷ e ∷ []) ≡ kind_count b a + (kind_count b c + (kind_count b d + kind_count b e))
count_four b x c d e =
    count_levels b x (c ∷ d ∷ e ∷ []) ∙ ap (λ (n : ℕ). kind_count b x + n) (count_levels b c (d ∷ e ∷ []) ∙
    ap (λ (n : ℕ). kind_count b c + n) (count_levels b d (e ∷ []) ∙ ap (λ (n : ℕ). kind_count b d + n) (count_levels b e [] ∙ rw (count_no_levels b) (add-zero (kind_count b e)))))

-- How far a count has come: what is ahead completes the level's.
pub record Counted (n m : ℕ) (es whole : Level) : Type 0 where
  pub normal : n + kind_count true es ≡ kind_count true whole
  pub filters : m + kind_count false es ≡ kind_count false whole

pub counted_none : (es : Level) → Counted 0 0 es es
counted_none es = record { normal = omega arith; filters = omega arith }

counted_done : (n m : ℕ) (whole : Level) → Counted n m [] whole → record { normal = n; filters = m } ≡ level_counts whole
unfolding kind_count passing
counted_done n m whole so =
    let a : n ≡ kind_count true whole = omega (arith, so.normal) in
    let b : m ≡ kind_count false whole = omega (arith, so.filters) in
    rw (a, b)

counted_small : (n m : ℕ) (es whole : Level) → length whole ≤ 8000000 → Counted n m es whole → CountsSmall (record { normal = n; filters = m })
counted_small n m es whole h so = record { few_normal = omega (arith, so.normal, count_most true whole); few_filters = omega (arith, so.filters, count_most false whole) }

-- A slot counts for its kind, and a fence for none.
abbrev pub filter_kind : Kind → Bool
filter_kind Normal = false
filter_kind Filter = true
filter_kind External = false
filter_kind Internal = false

slot_counts : (s : Slot) (ss : List Slot) →
    (kind_count true (entries_of (s ∷ ss)) ≡ cond (normal_kind s.kind) 1 0 + kind_count true (entries_of ss)) ×
    (kind_count false (entries_of (s ∷ ss)) ≡ cond (filter_kind s.kind) 1 0 + kind_count false (entries_of ss))
unfolding entries_of
slot_counts s ss = by_kind s.kind
  where
    shown : Kind → Level
    shown k = elim (fence_kind k) [ true ↦ entries_of ss | false ↦ record { pair = s.pair; normal = normal_kind k } ∷ entries_of ss ]

    by_kind : (k : Kind) → (kind_count true (shown k) ≡ cond (normal_kind k) 1 0 + kind_count true (entries_of ss)) ×
        (kind_count false (shown k) ≡ cond (filter_kind k) 1 0 + kind_count false (entries_of ss))
    by_kind Normal = let told = count_normal (record { pair = s.pair; normal = true }) (entries_of ss) refl in (omega (arith, told.0), omega (arith, told.1))
    by_kind Filter = let told = count_filter (record { pair = s.pair; normal = false }) (entries_of ss) refl in (omega (arith, told.0), omega (arith, told.1))
    by_kind External = (sym (zero-add _), sym (zero-add _))
    by_kind Internal = (sym (zero-add _), sym (zero-add _))

-- A slot of a page is counted, and the page at its end.
module _ (w : List ℕ) (run : Run) (p n m : ℕ) (whole : Level) (slots j : ℕ) (counted : slots ≡ count_in w run p)
    (so : Counted n m (page_from w run p j) whole) where
  pub counted_slot : (s : Slot) (normal filter : Bool) (one other : ℕ) → j < slots → s ≡ slot_in w run p j →
      normal ≡ normal_kind s.kind → filter ≡ filter_kind s.kind → one ≡ cond normal 1 0 → other ≡ cond filter 1 0 →
      Counted (n + one) (m + other) (page_from w run p (j + 1)) whole
  unfolding page_from span
  counted_slot s normal filter one other h q k f a b =
      let left : count_in w run p - j ≡ suc (count_in w run p - suc j) = omega (arith, counted) in
      let told = slot_counts s (span (slot_in w run p) (suc j) (count_in w run p - suc j)) in
      let normals : kind_count true (page_from w run p j) ≡ one + kind_count true (page_from w run p (j + 1)) = rw (left, a, k, ← q, add-one j) told.0 in
      let filters : kind_count false (page_from w run p j) ≡ other + kind_count false (page_from w run p (j + 1)) = rw (left, b, f, ← q, add-one j) told.1 in
      record { normal = omega (arith, so.normal, normals); filters = omega (arith, so.filters, filters) }

  pub page_counted : slots ≤ j → record { normal = n; filters = m } ≡ level_counts whole
  unfolding page_from span entries_of
  page_counted h =
      let left : count_in w run p - j ≡ 0 = omega (arith, counted) in
      counted_done n m whole (rw left at so)

-- So are the pages of a run.
module _ (w : List ℕ) (run : Run) where
  pub run_begun : Counted 0 0 (rest_from w run 0 0 (run.pages - 0)) (entries_in w run)
  unfolding rest
  run_begun = rw (rest_all w run) (counted_none (entries_in w run))

  module _ (p n m : ℕ) (so : Counted n m (rest_from w run p 0 (run.pages - p)) (entries_in w run)) where
    pub counted_page : (t : KindCounts) → p < run.pages → t ≡ level_counts (page_from w run p 0) →
        Counted (n + t.normal) (m + t.filters) (rest_from w run (p + 1) 0 (run.pages - (p + 1))) (entries_in w run)
    unfolding rest_from page_from slot_in
    counted_page t h e =
        let left : run.pages - p ≡ suc (run.pages - suc p) = omega arith in
        let joined : (b : Bool) → kind_count b (rest_from w run p 0 (run.pages - p)) ≡
        kind_count b (page_from w run p 0) + kind_count b (rest_from w run (p + 1) 0 (run.pages - (p + 1))) =
        λ b. rw (left, add-one p) (count_joined b (page_from w run p 0) (rest_from w run (suc p) 0 (run.pages - suc p))) in
        rw e (record { normal = omega (arith, so.normal, joined true); filters = omega (arith, so.filters, joined false) })

    pub run_counted : run.pages ≤ p → record { normal = n; filters = m } ≡ level_counts (entries_in w run)
    run_counted h = counted_done n m (entries_in w run) (rw (rest_none w run p 0 h) at so)

    pub run_small : (words : ℕ) → Inside run words → CountsSmall (record { normal = n; filters = m })
    run_small words inside = counted_small n m _ (entries_in w run) (few_in w run words inside) so
