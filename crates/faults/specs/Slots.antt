-- A run of slots with one slot more: its order, its tags, its entries and its fences. Assumes nothing.
use Rattle.std.specs.Prelude.{ℕ, zero, suc, ◌+◌, ◌≤◌, ◌<◌, ◌≡◌, refl, Bool, true, false, ◌&&◌, ◌≢◌, List, [], ◌∷◌, ◌++◌, length, get_or, take, ltb}
use Rattle.std.proofs.Common.{zero-add, arith, sym, ap, ◌∙◌, append-nil, length-append, take-suc, ltb-false}
use Rattle.std.proofs.lemmas.Bool.{false≢true}
use Rattle.laws.specs.Lists.{span, all, equal, passing, passing_no, length_span}
use Rattle.laws.specs.Flat.{span_append, equal_true, equal_refl}
use Rattle.slot.specs.declared.Slot.{Slot}
use Rattle.rules.specs.Sound.{entries_of, follows, in_order, fence_pages, first_is_least}
use Rattle.rules.specs.Woven.{fence, pages_fence}
use Rattle.entries.specs.Run.{entries_joined}
use Rattle.faults.specs.Chains.{chain, linked, chain_up}

all_one : (t : Slot → Bool) (ss : List Slot) (a : Slot) → all t (ss ++ a ∷ []) ≡ (all t ss && t a)
unfolding all
all_one t [] a = chosen (t a)
  where
    chosen : (c : Bool) → elim c as (λ _. Bool) [ true ↦ true | false ↦ false ] ≡ c
    chosen true = refl
    chosen false = refl
all_one t (x ∷ ss) a = chosen (t x) (all_one t ss a)
  where
    chosen : (c : Bool) → all t (ss ++ a ∷ []) ≡ (all t ss && t a) →
        elim c as (λ _. Bool) [ true ↦ all t (ss ++ a ∷ []) | false ↦ false ] ≡ (elim c as (λ _. Bool) [ true ↦ all t ss | false ↦ false ] && t a)
    chosen true ih = ih
    chosen false ih = refl

-- In order if slot s follows the slot before it, and all legal if it is.
order_chain : (ss : List Slot) → in_order ss ≡ chain follows ss
unfolding in_order chain
order_chain [] = refl
order_chain (a ∷ []) = refl
order_chain (a ∷ b ∷ ss) = ap (λ (c : Bool). elim (follows a b) as (λ _. Bool) [ true ↦ c | false ↦ false ]) (order_chain (b ∷ ss))

pub order_up : (ss : List Slot) (s : ℕ) (d : Slot) → s < length ss → in_order (take (suc s) ss) ≡ (in_order (take s ss) && linked follows ss s d)
order_up ss s d h = rw (order_chain (take (suc s) ss), order_chain (take s ss)) (chain_up follows ss s d h)

pub legal_up : (t : Slot → Bool) (ss : List Slot) (s : ℕ) (d : Slot) → s < length ss → all t (take (suc s) ss) ≡ (all t (take s ss) && t (get_or ss s d))
legal_up t ss s d h = rw (take-suc ss s d h) (all_one t (take s ss) (get_or ss s d))

-- Entries fewer than n, and one slot more: they are no longer so only if the slot holds an entry, and it is the nth.
pub entry_up : (n : ℕ) (ss : List Slot) (a : Slot) → length (entries_of ss) < n → ltb (length (entries_of (ss ++ a ∷ []))) n ≡ false →
    (fence a ≡ false) × (suc (length (entries_of ss)) ≡ n)
unfolding entries_of
entry_up n ss a few many = by (fence a) refl
  where
    longer : n ≤ length (entries_of ss) + length (entries_of (a ∷ []))
    longer = rw (← length-append (entries_of ss) (entries_of (a ∷ [])), ← entries_joined ss (a ∷ [])) (ltb-false _ _ many)

    by : (b : Bool) → fence a ≡ b → (fence a ≡ false) × (suc (length (entries_of ss)) ≡ n)
    by true e =
        let none : length (entries_of (a ∷ [])) ≡ 0 = rw (e, entries_of) refl in
        absurd (omega (arith, longer))
    by false e =
        let one : length (entries_of (a ∷ [])) ≡ 1 = rw (e, entries_of) refl in
        (e, omega (arith, longer))

-- Fences in turn, and one slot more: they are no longer so only if it is a fence that names another page than the next one.
pub pages_other : (s : Slot) (ss : List Slot) → fence s ≡ false → fence_pages (s ∷ ss) ≡ fence_pages ss
unfolding fence_pages
pages_other s ss e = rw (passing_no fence s ss e)

pages_joined : (ss us : List Slot) → fence_pages (ss ++ us) ≡ fence_pages ss ++ fence_pages us
unfolding fence_pages passing
pages_joined [] us = refl
pages_joined (s ∷ ss) us = by (fence s) refl (pages_joined ss us)
  where
    by : (b : Bool) → fence s ≡ b → fence_pages (ss ++ us) ≡ fence_pages ss ++ fence_pages us → fence_pages (s ∷ ss ++ us) ≡ fence_pages (s ∷ ss) ++ fence_pages us
    by true e ih = rw (pages_fence s (ss ++ us) e, pages_fence s ss e) (ap (λ (l : List ℕ). s.page.0 ∷ l) ih)
    by false e ih = rw (pages_other s (ss ++ us) e, pages_other s ss e) ih

abbrev pub in_turn : List ℕ → Bool
in_turn ps = equal ps (span (λ p. p) 0 (length ps))

pub turn_up : (ss : List Slot) (a : Slot) → in_turn (fence_pages ss) ≡ true → in_turn (fence_pages (ss ++ a ∷ [])) ≡ false →
    (fence a ≡ true) × (a.page.0 ≢ length (fence_pages ss))
unfolding fence_pages passing span
turn_up ss a turn broken = by (fence a) refl
  where
    k : ℕ
    k = length (fence_pages ss)

    before : fence_pages ss ≡ span (λ p. p) 0 k
    before = equal_true _ _ turn

    by : (b : Bool) → fence a ≡ b → (fence a ≡ true) × (a.page.0 ≢ length (fence_pages ss))
    by true e = (
      e,
      λ q.
          let more : fence_pages (ss ++ a ∷ []) ≡ span (λ p. p) 0 (k + 1) =
          pages_joined ss (a ∷ []) ∙ rw (pages_fence a [] e, q) (ap (λ (l : List ℕ). l ++ k ∷ []) before ∙ sym (span_append (λ p. p) 0 k 1 ∙ rw (zero-add k) refl)) in
          absurd (false≢true (sym broken ∙ rw (more, length_span (λ p. p) 0 (k + 1)) (equal_refl (span (λ p. p) 0 (k + 1))))),
    )
    by false e =
        let same : fence_pages (ss ++ a ∷ []) ≡ fence_pages ss = pages_joined ss (a ∷ []) ∙ rw (pages_other a [] e) (append-nil (fence_pages ss)) in
        absurd (false≢true (sym broken ∙ rw same turn))

-- The first slot stays the first.
pub least_first : (ss : List Slot) (s : ℕ) → first_is_least (take (suc s) ss) ≡ first_is_least ss
unfolding first_is_least
least_first [] s = refl
least_first (x ∷ ss) s = refl

pub least_up : (ss : List Slot) (s : ℕ) → 1 ≤ s → first_is_least (take (suc s) ss) ≡ first_is_least (take s ss)
least_up ss zero h = absurd (omega arith)
least_up ss (suc s) h = least_first ss (suc s) ∙ sym (least_first ss s)
