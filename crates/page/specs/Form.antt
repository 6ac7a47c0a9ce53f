-- What a pass over slots tells of them: slot order and right tags, the number of fences and so of index entries, and the slots at most the
-- pair asked, which stand first. Assumes nothing.
use Rattle.std.specs.Prelude.{ℕ, zero, suc, ◌+◌, ◌≤◌, ◌<◌, ◌≡◌, Bool, ◌&&◌, ◌||◌, take, eqb}
use Rattle.std.proofs.Common.{zero-add, add-zero, add-one, ap, ◌∙◌}
use native.Mathlib.Omega.{arith}
use Rattle.std.proofs.Math.Path.{refl, sym, fun_ext}
use Rattle.std.proofs.Math.Bool.{true, false, not, cond}
use mathlib.Core.List.{List, [], ◌∷◌}
use Rattle.std.proofs.Math.ListN.{length}
use Rattle.std.proofs.Math.Dec.{ltb}
use borrow.Author.Tests.{lt-ltb, le-ltb, ltb-true, ltb-false, ne_eqb, eq-eqb, eqb-true, eqb-false}
use Rattle.laws.specs.Tests.{and_left, and_right, and_regroup, and_true, and_false}
use Rattle.laws.specs.Lists.{span, passing, all, equal, all_cons, passing_yes, passing_no, equal_cons}
use Rattle.laws.specs.First.{first_from, first_not, first_later, first_at_once}
use Rattle.slot.specs.declared.Pair.{Pair}
use Rattle.slot.specs.declared.Slot.{Slot}
use Rattle.slot.specs.Pair.{rank, before, same}
use Rattle.rules.specs.Level.{fence_kind}
use Rattle.rules.specs.Sound.{follows, in_order, legal, entries_of, fence_pages}
use Rattle.rules.specs.Faults.{breaking}
use Rattle.page.specs.declared.Scan.{Scan}
use Rattle.page.specs.Scan.{may_follow, started, stepped, scanned}
use Rattle.page.specs.Tag.{legal_below, head_tag, entry_tag, fence_tag}

-- Slot order from a last rank on.
unfoldable pub chain : ℕ → Bool → List Slot → Bool
chain last fence [] = true
chain last fence (s ∷ ss) = may_follow last fence (rank s.pair) && chain (rank s.pair) (fence_kind s.kind) ss

chain_order : (s : Slot) (ss : List Slot) → in_order (s ∷ ss) ≡ chain (rank s.pair) (fence_kind s.kind) ss
unfolding in_order chain follows may_follow before same
chain_order s [] = refl
chain_order s (b ∷ ss) = chosen (follows s b) refl (chain_order b ss)
  where
    chosen : (x : Bool) → follows s b ≡ x → in_order (b ∷ ss) ≡ chain (rank b.pair) (fence_kind b.kind) ss →
        elim x as (λ y. Bool) [ true ↦ in_order (b ∷ ss) | false ↦ false ] ≡ (follows s b && chain (rank b.pair) (fence_kind b.kind) ss)
    chosen true e ih = rw e ih
    chosen false e ih = rw e

-- Any slot may follow the least fence.
any_follows : (n : ℕ) → may_follow 0 true n ≡ true
unfolding may_follow
any_follows zero = refl
any_follows (suc n) = rw (lt-ltb 0 (suc n) (omega arith))

order_from_least : (ss : List Slot) → in_order ss ≡ chain 0 true ss
unfolding in_order chain
order_from_least [] = refl
order_from_least (s ∷ ss) = rw (any_follows (rank s.pair)) (chain_order s ss)

-- What follows a slot in order is in order.
pub order_rest : (s : Slot) (ss : List Slot) → in_order (s ∷ ss) ≡ true → in_order ss ≡ true
unfolding in_order chain
order_rest s [] e = refl
order_rest s (b ∷ ss) e =
    chain_order b ss ∙
    and_right (may_follow (rank s.pair) (fence_kind s.kind) (rank b.pair)) (chain (rank b.pair) (fence_kind b.kind) ss)
    (sym (chain_order s (b ∷ ss)) ∙ e)

-- What follows an index entry is above it.
entry_follows : (last next : ℕ) → may_follow last false next ≡ true → ltb last next ≡ true
unfolding may_follow
entry_follows last next m = above (ltb last next) m
  where
    above : (b : Bool) → (b || (eqb last next && false)) ≡ true → b ≡ true
    above true h = refl
    above false h = sym (and_false (eqb last next)) ∙ h

-- Every tag right, from numbers of fences and of index entries on.
unfoldable pub tagged : (ℕ → ℕ → Slot → Bool) → ℕ → ℕ → List Slot → Bool
tagged right i m [] = true
tagged right i m (s ∷ ss) = let fence = fence_kind s.kind in right i m s && tagged right (i + cond fence 1 0) (m + cond (not fence) 1 0) ss

-- A slot at most the pair asked.
abbrev up_to : Pair → Slot → Bool
up_to asked s = not (before asked s.pair)

-- The pages that a fence and an index entry add to those named.
module _ (s : Slot) (ss : List Slot) where
  fence_listed : fence_kind s.kind ≡ true → fence_pages (s ∷ ss) ≡ s.page.0 ∷ fence_pages ss
  unfolding fence_pages
  fence_listed e = rw (passing_yes (λ s. fence_kind s.kind) s ss e)

  entry_listed : fence_kind s.kind ≡ false → fence_pages (s ∷ ss) ≡ fence_pages ss
  unfolding fence_pages
  entry_listed e = rw (passing_no (λ s. fence_kind s.kind) s ss e)

module _ (asked : Pair) (right : ℕ → ℕ → Slot → Bool) where
  -- Slot order and right tags.
  formed_from : (c : Scan) (ss : List Slot) →
      (scanned asked right c ss).formed ≡ (c.formed && (chain c.last c.last_fence ss && tagged right c.fences c.entries ss))
  unfolding scanned stepped chain tagged
  formed_from c [] = sym (and_true c.formed)
  formed_from c (s ∷ ss) =
      formed_from (stepped asked c s (right c.fences c.entries s)) ss ∙
      and_regroup c.formed (may_follow c.last c.last_fence (rank s.pair)) (right c.fences c.entries s) (chain (rank s.pair) (fence_kind s.kind) ss)
      (tagged right (c.fences + cond (fence_kind s.kind) 1 0) (c.entries + cond (not (fence_kind s.kind)) 1 0) ss)

  pub scan_formed : (ss : List Slot) → (scanned asked right started ss).formed ≡ (in_order ss && tagged right 0 0 ss)
  unfolding started
  scan_formed ss = formed_from started ss ∙ rw (order_from_least ss)

  -- Fences.
  fences_from_lem : (c : Scan) (ss : List Slot) → (scanned asked right c ss).fences ≡ c.fences + length (fence_pages ss)
  unfolding scanned stepped fence_pages passing
  fences_from_lem c [] = sym (add-zero c.fences)
  fences_from_lem c (s ∷ ss) = fences_from_lem (stepped asked c s (right c.fences c.entries s)) ss ∙ counted (fence_kind s.kind) refl
    where
      counted : (b : Bool) → fence_kind s.kind ≡ b →
          c.fences + cond (fence_kind s.kind) 1 0 + length (fence_pages ss) ≡ c.fences + length (fence_pages (s ∷ ss))
      counted true e = rw (e, fence_listed s ss e) (omega arith)
      counted false e = rw (e, entry_listed s ss e) (omega arith)

  pub scan_fences : (ss : List Slot) → (scanned asked right started ss).fences ≡ length (fence_pages ss)
  unfolding started
  scan_fences ss = fences_from_lem started ss ∙ omega arith

  -- Index entries.
  entries_from : (c : Scan) (ss : List Slot) → (scanned asked right c ss).entries ≡ c.entries + length (entries_of ss)
  unfolding scanned stepped entries_of
  entries_from c [] = sym (add-zero c.entries)
  entries_from c (s ∷ ss) = entries_from (stepped asked c s (right c.fences c.entries s)) ss ∙ counted (fence_kind s.kind) refl
    where
      counted : (b : Bool) → fence_kind s.kind ≡ b →
          c.entries + cond (not (fence_kind s.kind)) 1 0 + length (entries_of ss) ≡ c.entries + length (entries_of (s ∷ ss))
      counted true e = rw (e, entries_of) (omega arith)
      counted false e = rw (e, entries_of) (omega arith)

  pub scan_entries : (ss : List Slot) → (scanned asked right started ss).entries ≡ length (entries_of ss)
  unfolding started
  scan_entries ss = entries_from started ss ∙ omega arith

  -- The first slot that breaks a rule: with it the slots up to it are no longer right.
  breaks_at_once : (c : Scan) (ss : List Slot) → c.formed ≡ false → first_not (λ j. (scanned asked right c (take (suc j) ss)).formed) (length ss) ≡ 0
  unfolding scanned stepped first_not first_from
  breaks_at_once c [] e = refl
  breaks_at_once c (s ∷ ss) e = first_at_once (λ j. (scanned asked right c (take (suc j) (s ∷ ss))).formed) (suc (length ss)) (rw e)

  one_more : (c : Scan) (s : Slot) (b : Bool) → (stepped asked c s b).breaking ≡ c.breaking + cond (stepped asked c s b).formed 1 0
  unfolding stepped
  one_more c s b = refl

  breaking_from : (c : Scan) (ss : List Slot) →
      (scanned asked right c ss).breaking ≡ c.breaking + first_not (λ j. (scanned asked right c (take (suc j) ss)).formed) (length ss)
  unfolding scanned first_not first_from
  breaking_from c [] = sym (add-zero c.breaking)
  breaking_from c (s ∷ ss) = breaking_from next ss ∙ by next.formed refl
    where
      next : Scan
      next = stepped asked c s (right c.fences c.entries s)

      t : ℕ → Bool
      t = λ j. (scanned asked right c (take (suc j) (s ∷ ss))).formed

      bit : (b : Bool) → next.formed ≡ b → next.breaking ≡ c.breaking + cond b 1 0
      bit b e = one_more c s (right c.fences c.entries s) ∙ ap (λ (x : Bool). c.breaking + cond x 1 0) e

      by : (b : Bool) → next.formed ≡ b →
          next.breaking + first_not (λ j. (scanned asked right next (take (suc j) ss)).formed) (length ss) ≡ c.breaking + first_not t (suc (length ss))
      by true e = omega (arith, bit true e, first_later t (length ss) e)
      by false e = omega (arith, bit false e, first_at_once t (suc (length ss)) e, breaks_at_once next ss e)

  pub scan_breaking : (ss : List Slot) →
      (scanned asked right started ss).breaking ≡ first_not (λ j. (scanned asked right started (take (suc j) ss)).formed) (length ss)
  unfolding started
  scan_breaking ss = breaking_from started ss ∙ omega arith

  -- The slots at most the pair asked.
  reach_from : (c : Scan) (ss : List Slot) → (scanned asked right c ss).reach ≡ c.reach + length (passing (up_to asked) ss)
  unfolding scanned stepped passing
  reach_from c [] = sym (add-zero c.reach)
  reach_from c (s ∷ ss) = reach_from (stepped asked c s (right c.fences c.entries s)) ss ∙ counted (before asked s.pair) refl
    where
      counted : (b : Bool) → before asked s.pair ≡ b →
          c.reach + cond (not (before asked s.pair)) 1 0 + length (passing (up_to asked) ss) ≡ c.reach + length (passing (up_to asked) (s ∷ ss))
      counted true e = rw (e, passing) (omega arith)
      counted false e = rw (e, passing) (omega arith)

  pub scan_reach : (ss : List Slot) → (scanned asked right started ss).reach ≡ length (passing (λ s. not (before asked s.pair)) ss)
  unfolding started
  scan_reach ss = reach_from started ss ∙ omega arith

-- Every slot is a fence or an index entry.
pub slots_counted : (ss : List Slot) → length (fence_pages ss) + length (entries_of ss) ≡ length ss
unfolding fence_pages entries_of passing
slots_counted [] = refl
slots_counted (s ∷ ss) = counted (fence_kind s.kind) refl (slots_counted ss)
  where
    counted : (b : Bool) → fence_kind s.kind ≡ b → length (fence_pages ss) + length (entries_of ss) ≡ length ss →
        length (fence_pages (s ∷ ss)) + length (entries_of (s ∷ ss)) ≡ length (s ∷ ss)
    counted true e ih = rw (e, entries_of, fence_listed s ss e) (omega arith)
    counted false e ih = rw (e, entries_of, entry_listed s ss e) (omega arith)

-- In a page every tag is legal by itself.
legal_tagged : (below i m : ℕ) (ss : List Slot) → tagged (legal_below below) i m ss ≡ all (legal true below) ss
unfolding tagged legal_below all
legal_tagged below i m [] = refl
legal_tagged below i m (s ∷ ss) =
    rw (all_cons (legal true below) s ss)
    (ap (λ (b : Bool). legal true below s && b) (legal_tagged below (i + cond (fence_kind s.kind) 1 0) (m + cond (not (fence_kind s.kind)) 1 0) ss))

-- In the head every tag is legal, the fences from number i on name pages in turn, and the entries, with m before them, stay fewer than H.
tags_from : (n head i m : ℕ) (ss : List Slot) → m < head →
    tagged (head_tag n head) i m ss ≡
    (all (legal false n) ss && equal (fence_pages ss) (span (λ p. p) i (length (fence_pages ss))) && ltb (m + length (entries_of ss)) head)
unfolding tagged fence_pages passing all equal span entries_of
tags_from n head i m [] h = sym (lt-ltb (m + 0) head (omega arith))
tags_from n head i m (s ∷ ss) h = by_kind (fence_kind s.kind) refl (ltb (m + 1) head) refl (λ j q. tags_from n head j q ss)
  where
    Goal : Type 0
    Goal =
        tagged (head_tag n head) i m (s ∷ ss) ≡
        (all (legal false n) (s ∷ ss) && equal (fence_pages (s ∷ ss)) (span (λ p. p) i (length (fence_pages (s ∷ ss)))) && ltb (m + length (entries_of (s ∷ ss))) head)

    Rest : Type 0
    Rest =
        (j q : ℕ) → q < head →
        tagged (head_tag n head) j q ss ≡
        (all (legal false n) ss && equal (fence_pages ss) (span (λ p. p) j (length (fence_pages ss))) && ltb (q + length (entries_of ss)) head)

    regroup : (a b x y z : Bool) → (a && b && (x && y && z)) ≡ (a && x && (b && y) && z)
    regroup false b x y z = refl
    regroup true false false y z = refl
    regroup true false true y z = refl
    regroup true true x y z = refl

    regroup_few : (a x y z : Bool) → (a && true && (x && y && z)) ≡ (a && x && y && z)
    regroup_few false x y z = refl
    regroup_few true x y z = refl

    by_kind : (b : Bool) → fence_kind s.kind ≡ b → (few : Bool) → ltb (m + 1) head ≡ few → Rest → Goal
    by_kind true e few q rest =
        rw (
          e,
          tagged,
          fence_tag n head i m s e,
          fence_listed s ss e,
          entries_of,
          all_cons (legal false n) s ss,
          equal_cons,
          add-zero m,
          add-one i,
          rest (suc i) m h,
        )
        (regroup (legal false n s) (eqb s.page.0 i) (all (legal false n) ss) (equal (fence_pages ss) (span (λ p. p) (suc i) (length (fence_pages ss)))) (ltb (m + length (entries_of ss)) head))
    by_kind false e true q rest =
        let on : m + 1 + length (entries_of ss) ≡ m + suc (length (entries_of ss)) = omega arith in
        rw (e, tagged, entry_tag n head i m s e, entry_listed s ss e, entries_of, all_cons (legal false n) s ss, add-zero i, rest i (m + 1) (ltb-true (m + 1) head q), on, q)
        (regroup_few (legal false n s) (all (legal false n) ss) (equal (fence_pages ss) (span (λ p. p) i (length (fence_pages ss)))) (ltb (m + suc (length (entries_of ss))) head))
    by_kind false e false q rest =
        let many : ltb (m + suc (length (entries_of ss))) head ≡ false = le-ltb (m + suc (length (entries_of ss))) head (omega (arith, ltb-false (m + 1) head q)) in
        rw (e, tagged, entry_tag n head i m s e, entry_listed s ss e, entries_of, q, many, and_false)
        (sym (and_false (all (legal false n) (s ∷ ss) && equal (fence_pages ss) (span (λ p. p) i (length (fence_pages ss))))))

-- What a pass tests of the slots of a page and of the head.
pub page_tested_lem : (asked : Pair) (below : ℕ) (ss : List Slot) →
    (scanned asked (legal_below below) started ss).formed ≡ (in_order ss && all (legal true below) ss)
page_tested_lem asked below ss = scan_formed asked (legal_below below) ss ∙ rw (legal_tagged below 0 0 ss)

pub head_tested_lem : (asked : Pair) (n head : ℕ) (ss : List Slot) → 1 ≤ head →
    (scanned asked (head_tag n head) started ss).formed ≡
    (ltb (length (entries_of ss)) head && in_order ss && all (legal false n) ss && equal (fence_pages ss) (span (λ p. p) 0 (length (fence_pages ss))))
head_tested_lem asked n head ss h =
    scan_formed asked (head_tag n head) ss ∙
    rw (tags_from n head 0 0 ss h, zero-add (length (entries_of ss)))
    (few_first (in_order ss) (all (legal false n) ss) (equal (fence_pages ss) (span (λ p. p) 0 (length (fence_pages ss)))) (ltb (length (entries_of ss)) head))
  where
    few_first : (a b c d : Bool) → (a && (b && c && d)) ≡ (d && a && b && c)
    few_first false b c true = refl
    few_first false b c false = refl
    few_first true b c true = and_true (b && c)
    few_first true b c false = and_false (b && c)

-- The first slot that breaks what is tested.
pub page_breaking : (asked : Pair) (below : ℕ) (ss : List Slot) →
    (scanned asked (legal_below below) started ss).breaking ≡ breaking (λ l. in_order l && all (legal true below) l) ss
unfolding breaking
page_breaking asked below ss =
    scan_breaking asked (legal_below below) ss ∙ ap (λ (t : ℕ → Bool). first_not t (length ss)) (fun_ext (λ j. page_tested_lem asked below (take (suc j) ss)))

pub head_breaking : (asked : Pair) (n head : ℕ) (ss : List Slot) → 1 ≤ head →
    (scanned asked (head_tag n head) started ss).breaking ≡
    breaking (λ l. ltb (length (entries_of l)) head && in_order l && all (legal false n) l && equal (fence_pages l) (span (λ p. p) 0 (length (fence_pages l)))) ss
unfolding breaking
head_breaking asked n head ss h =
    scan_breaking asked (head_tag n head) ss ∙ ap (λ (t : ℕ → Bool). first_not t (length ss)) (fun_ext (λ j. head_tested_lem asked n head (take (suc j) ss) h))

-- Numbers are 0, 1, … up to n exactly if they are as far as they go, and there are n of them.
pub equal_in_turn : (l : List ℕ) (i n : ℕ) → equal l (span (λ p. p) i n) ≡ (equal l (span (λ p. p) i (length l)) && eqb (length l) n)
unfolding equal span
equal_in_turn [] i zero = refl
equal_in_turn [] i (suc n) = sym (ne_eqb 0 (suc n) (λ z. absurd (omega (arith, z))))
equal_in_turn (m ∷ l) i zero =
    rw (ne_eqb (suc (length l)) 0 (λ z. absurd (omega (arith, z)))) (sym (and_false (equal (m ∷ l) (span (λ p. p) i (suc (length l))))))
equal_in_turn (m ∷ l) i (suc n) = by (eqb m i) (equal_in_turn l (suc i) n) (eqb (length l) n) refl
  where
    next : (b : Bool) → eqb (length l) n ≡ b → eqb (suc (length l)) (suc n) ≡ b
    next true e = eq-eqb (suc (length l)) (suc n) (ap suc (eqb-true (length l) n e))
    next false e = ne_eqb (suc (length l)) (suc n) (λ z. eqb-false (length l) n e (omega (arith, z)))

    by : (b : Bool) → equal l (span (λ p. p) (suc i) n) ≡ (equal l (span (λ p. p) (suc i) (length l)) && eqb (length l) n) → (c : Bool) → eqb (length l) n ≡ c →
        elim b as (λ _. Bool) [ true ↦ equal l (span (λ p. p) (suc i) n) | false ↦ false ] ≡
        (elim b as (λ _. Bool) [ true ↦ equal l (span (λ p. p) (suc i) (length l)) | false ↦ false ] && eqb (suc (length l)) (suc n))
    by true ih c e = ih ∙ rw (next c e, e)
    by false ih c e = refl

module _ (asked : Pair) where
  -- In slot order, what follows a slot above the pair asked is above it too, so the slots at most the pair stand first.
  follow_above : (last : ℕ) (fence : Bool) (p : Pair) → may_follow last fence (rank p) ≡ true → ltb (rank asked) last ≡ true → before asked p ≡ true
  unfolding may_follow before
  follow_above last fence p m h = compared (ltb last (rank p)) refl
    where
      compared : (b : Bool) → ltb last (rank p) ≡ b → ltb (rank asked) (rank p) ≡ true
      compared true e = lt-ltb (rank asked) (rank p) (omega (arith, ltb-true last (rank p) e, ltb-true (rank asked) last h))
      compared false e =
          lt-ltb (rank asked) (rank p) (omega (arith, eqb-true last (rank p) (and_left (eqb last (rank p)) fence (rw e at m)), ltb-true (rank asked) last h))

  above_stays : (last : ℕ) (fence : Bool) (ss : List Slot) → chain last fence ss ≡ true → ltb (rank asked) last ≡ true → passing (up_to asked) ss ≡ []
  unfolding chain passing before
  above_stays last fence [] e h = refl
  above_stays last fence (s ∷ ss) e h =
      let f = follow_above last fence s.pair (and_left (may_follow last fence (rank s.pair)) (chain (rank s.pair) (fence_kind s.kind) ss) e) h in
      passing_no (up_to asked) s ss (ap not f) ∙
      above_stays (rank s.pair) (fence_kind s.kind) ss
      (and_right (may_follow last fence (rank s.pair)) (chain (rank s.pair) (fence_kind s.kind) ss) e) f

  first_ones : (last : ℕ) (fence : Bool) (ss : List Slot) → chain last fence ss ≡ true → passing (up_to asked) ss ≡ take (length (passing (up_to asked) ss)) ss
  unfolding chain passing before
  first_ones last fence [] e = refl
  first_ones last fence (s ∷ ss) e = compared (before asked s.pair) refl (first_ones (rank s.pair) (fence_kind s.kind) ss later)
    where
      later : chain (rank s.pair) (fence_kind s.kind) ss ≡ true
      later = and_right (may_follow last fence (rank s.pair)) (chain (rank s.pair) (fence_kind s.kind) ss) e

      compared : (b : Bool) → before asked s.pair ≡ b → passing (up_to asked) ss ≡ take (length (passing (up_to asked) ss)) ss →
          passing (up_to asked) (s ∷ ss) ≡ take (length (passing (up_to asked) (s ∷ ss))) (s ∷ ss)
      compared true f ih = rw (passing_no (up_to asked) s ss (ap not f), above_stays (rank s.pair) (fence_kind s.kind) ss later f)
      compared false f ih = rw (passing_yes (up_to asked) s ss (ap not f)) (ap (λ (l : List Slot). s ∷ l) ih)

  pub at_most_first : (ss : List Slot) → in_order ss ≡ true →
      passing (λ s. not (before asked s.pair)) ss ≡ take (length (passing (λ s. not (before asked s.pair)) ss)) ss
  at_most_first ss e = first_ones 0 true ss (sym (order_from_least ss) ∙ e)

  -- Where the first slot is above the pair asked, all are.
  pub none_at_most : (s : Slot) (ss : List Slot) → in_order (s ∷ ss) ≡ true → before asked s.pair ≡ true →
      passing (λ s. not (before asked s.pair)) (s ∷ ss) ≡ []
  unfolding before
  none_at_most s ss e h =
      passing_no (up_to asked) s ss (ap not h) ∙ above_stays (rank s.pair) (fence_kind s.kind) ss (sym (chain_order s ss) ∙ e) h

  -- After an index entry of the pair asked, all are.
  pub none_after_entry : (s : Slot) (ss : List Slot) → in_order (s ∷ ss) ≡ true → same asked s.pair ≡ true → fence_kind s.kind ≡ false →
      passing (λ s. not (before asked s.pair)) ss ≡ []
  unfolding chain passing before same
  none_after_entry s [] e h k = refl
  none_after_entry s (b ∷ ss) e h k =
      let c : chain (rank s.pair) (fence_kind s.kind) (b ∷ ss) ≡ true = sym (chain_order s (b ∷ ss)) ∙ e in
      let m : may_follow (rank asked) false (rank b.pair) ≡ true =
      rw (eqb-true (rank asked) (rank s.pair) h, ← k)
      (and_left (may_follow (rank s.pair) (fence_kind s.kind) (rank b.pair)) (chain (rank b.pair) (fence_kind b.kind) ss) c) in
      none_at_most b ss (order_rest s (b ∷ ss) e) (entry_follows (rank asked) (rank b.pair) m)
