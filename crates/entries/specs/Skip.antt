-- Index entries from a pair on: of a level, and of a page's slots. Assumes nothing.
use Prim.Native.Nat.{ℕ, suc, ◌+◌, ◌-◌, ◌≤◌, ◌<◌}
use Rattle.std.proofs.Math.Numerals.{add-one}
use native.Mathlib.Omega.{arith}
use Rattle.std.specs.Prelude.{◌≡◌, refl, Bool, true, false, not, ◌&&◌, List, [], ◌∷◌, ◌++◌}
use Rattle.std.proofs.Math.Path.{ap}
use Rattle.std.proofs.Common.{sym, le_refl, ◌∙◌}
use Rattle.std.proofs.lemmas.Bool.{not-true}
use Rattle.laws.specs.Lists.{span}
use Rattle.laws.specs.Tests.{and_left}
use Rattle.slot.specs.declared.Pair.{Pair}
use Rattle.slot.specs.declared.Slot.{Slot}
use Rattle.slot.specs.Pair.{before, least, least_first}
use Rattle.slot.specs.Slot.{slot_at}
use Rattle.slot.specs.Order.{before_below}
use Rattle.rules.specs.Tree.{Entry, Level, Tree}
use Rattle.rules.specs.Level.{fence_kind}
use Rattle.rules.specs.Finding.{normal_kind}
use Rattle.rules.specs.Sound.{entries_of}
use Rattle.entries.specs.declared.Run.{Run}
use Rattle.entries.specs.Run.{count_in, place_in, rest_from, index_first, rest_none}

-- A level from a pair on; so each level of a tree.
unfoldable pub skip : Pair → Level → Level
skip p [] = []
skip p (e ∷ es) = elim (before e.pair p) [ true ↦ skip p es | false ↦ e ∷ es ]

unfoldable pub skip_all : Pair → Tree → Tree
skip_all p [] = []
skip_all p (es ∷ t) = skip p es ∷ skip_all p t

pub skip_on : (p : Pair) (e : Entry) (es : Level) → before e.pair p ≡ true → skip p (e ∷ es) ≡ skip p es
unfolding skip
skip_on p e es b = ap (λ (x : Bool). elim x [ true ↦ skip p es | false ↦ e ∷ es ]) b

pub skip_stops : (p : Pair) (e : Entry) (es : Level) → before e.pair p ≡ false → skip p (e ∷ es) ≡ e ∷ es
unfolding skip
skip_stops p e es b = ap (λ (x : Bool). elim x [ true ↦ skip p es | false ↦ e ∷ es ]) b

-- No entry is before the least pair.
pub skip_least : (es : Level) → skip least es ≡ es
unfolding skip
skip_least [] = refl
skip_least (e ∷ es) = by_order (before e.pair least) refl
  where
    by_order : (b : Bool) → before e.pair least ≡ b → elim b [ true ↦ skip least es | false ↦ e ∷ es ] ≡ e ∷ es
    by_order true q = absurd (omega (arith, before_below e.pair least q, least_first))
    by_order false q = refl

-- Where no entry is left of a first part, the second is skipped; where one is, the second stays.
pub skip_past : (p : Pair) (es fs : Level) → skip p es ≡ [] → skip p (es ++ fs) ≡ skip p fs
unfolding skip
skip_past p [] fs h = refl
skip_past p (e ∷ es) fs h = by_order (before e.pair p) refl (skip_past p es fs) h
  where
    by_order : (b : Bool) → before e.pair p ≡ b → (skip p es ≡ [] → skip p (es ++ fs) ≡ skip p fs) →
        ◌≡◌ {A = Level} (elim b [ true ↦ skip p es | false ↦ e ∷ es ]) [] → elim b [ true ↦ skip p (es ++ fs) | false ↦ e ∷ es ++ fs ] ≡ skip p fs
    by_order true q ih r = ih r
    by_order false q ih r = cc

pub skip_within : (p : Pair) (es fs gs : Level) (e : Entry) → skip p es ≡ e ∷ gs → skip p (es ++ fs) ≡ skip p es ++ fs
unfolding skip
skip_within p [] fs gs e h = cc
skip_within p (d ∷ es) fs gs e h = by_order (before d.pair p) refl (skip_within p es fs gs e) h
  where
    by_order : (b : Bool) → before d.pair p ≡ b → (skip p es ≡ e ∷ gs → skip p (es ++ fs) ≡ skip p es ++ fs) →
        elim b [ true ↦ skip p es | false ↦ d ∷ es ] ≡ e ∷ gs →
        elim b [ true ↦ skip p (es ++ fs) | false ↦ d ∷ es ++ fs ] ≡ elim b [ true ↦ skip p es | false ↦ d ∷ es ] ++ fs
    by_order true q ih r = ih r
    by_order false q ih r = refl

-- Slots ---------------------------------------------------------------------------------------------------------------------------------------

-- Whether a slot is an index entry that is not before a pair.
unfoldable pub stops_at : Pair → Slot → Bool
stops_at p s = not (fence_kind s.kind) && not (before s.pair p)

pub stops_index : (p : Pair) (s : Slot) → stops_at p s ≡ true → fence_kind s.kind ≡ false
unfolding stops_at
stops_index p s h = not-true (fence_kind s.kind) (and_left (not (fence_kind s.kind)) (not (before s.pair p)) h)

slot_stops : (p : Pair) (s : Slot) (ss : List Slot) → stops_at p s ≡ true → skip p (entries_of (s ∷ ss)) ≡ entries_of (s ∷ ss)
unfolding stops_at entries_of
slot_stops p s ss h = by_kind (fence_kind s.kind) (before s.pair p) refl h
  where
    by_kind : (b c : Bool) → before s.pair p ≡ c → (not b && not c) ≡ true →
        skip p (elim b [ true ↦ entries_of ss | false ↦ record { pair = s.pair; normal = normal_kind s.kind } ∷ entries_of ss ]) ≡
        elim b [ true ↦ entries_of ss | false ↦ record { pair = s.pair; normal = normal_kind s.kind } ∷ entries_of ss ]
    by_kind true c k q = cc
    by_kind false true k q = cc
    by_kind false false k q = skip_stops p _ (entries_of ss) k

slot_passed : (p : Pair) (s : Slot) (ss : List Slot) → stops_at p s ≡ false → skip p (entries_of (s ∷ ss)) ≡ skip p (entries_of ss)
unfolding stops_at entries_of
slot_passed p s ss h = by_kind (fence_kind s.kind) (before s.pair p) refl h
  where
    by_kind : (b c : Bool) → before s.pair p ≡ c → (not b && not c) ≡ false →
        skip p (elim b [ true ↦ entries_of ss | false ↦ record { pair = s.pair; normal = normal_kind s.kind } ∷ entries_of ss ]) ≡ skip p (entries_of ss)
    by_kind true c k q = refl
    by_kind false true k q = skip_on p _ (entries_of ss) k
    by_kind false false k q = cc

-- The slot of a page, and its index entries from a slot on.
unfoldable pub slot_in : List ℕ → Run → ℕ → ℕ → Slot
slot_in w run p j = slot_at w (place_in run p j)

unfoldable pub page_from : List ℕ → Run → ℕ → ℕ → Level
page_from w run p j = entries_of (span (slot_in w run p) j (count_in w run p - j))

-- Slot `to` is the first one from slot `from` on that is an index entry not before a pair.
pub record Met (w : List ℕ) (run : Run) (p : ℕ) (pair : Pair) (from to : ℕ) : Type 0 where
  pub in_page : to < count_in w run p
  pub moved : page_from w run p to ≡ skip pair (page_from w run p from)
  pub stops : stops_at pair (slot_in w run p to) ≡ true

pub slot_read : (w : List ℕ) (run : Run) (p j place : ℕ) (s : Slot) → place ≡ place_in run p j → s ≡ slot_at w place → s ≡ slot_in w run p j
unfolding slot_in
slot_read w run p j place s at read = read ∙ ap (slot_at w) at

module _ (w : List ℕ) (run : Run) (p : ℕ) (pair : Pair) where
  page_on : (j : ℕ) → j < count_in w run p → page_from w run p j ≡ entries_of (slot_in w run p j ∷ span (slot_in w run p) (suc j) (count_in w run p - suc j))
  unfolding page_from span
  page_on j h =
      let slots : count_in w run p - j ≡ suc (count_in w run p - suc j) = omega arith in
      rw slots

  page_done : (j : ℕ) → count_in w run p ≤ j → page_from w run p j ≡ []
  unfolding page_from span entries_of
  page_done j h =
      let none : count_in w run p - j ≡ 0 = omega arith in
      rw none

  -- A slot that is passed, one that stops, and the end.
  module _ (n j : ℕ) (counted : n ≡ count_in w run p) where
    pub page_passed : j < n → stops_at pair (slot_in w run p j) ≡ false → skip pair (page_from w run p (j + 1)) ≡ skip pair (page_from w run p j)
    unfolding page_from
    page_passed h s =
        rw (page_on j (omega (arith, counted)), add-one j) (sym (slot_passed pair (slot_in w run p j) (span (slot_in w run p) (suc j) (count_in w run p - suc j)) s))

    pub page_stops : j < n → stops_at pair (slot_in w run p j) ≡ true → page_from w run p j ≡ skip pair (page_from w run p j)
    page_stops h s =
        rw (page_on j (omega (arith, counted))) (sym (slot_stops pair (slot_in w run p j) (span (slot_in w run p) (suc j) (count_in w run p - suc j)) s))

    pub page_over : (from : ℕ) → n ≤ j → skip pair (page_from w run p j) ≡ skip pair (page_from w run p from) → page_from w run p j ≡ skip pair (page_from w run p from)
    unfolding skip
    page_over from h same = let done = page_done j (omega (arith, counted)) in done ∙ ap (skip pair) (sym done) ∙ same

    pub page_none : (from : ℕ) → n ≤ j → skip pair (page_from w run p j) ≡ skip pair (page_from w run p from) → skip pair (page_from w run p from) ≡ []
    page_none from h same = sym (page_over from h same) ∙ page_done j (omega (arith, counted))

  rest_page : (j : ℕ) → p < run.pages → rest_from w run p j (run.pages - p) ≡ page_from w run p j ++ rest_from w run (p + 1) 0 (run.pages - (p + 1))
  unfolding rest_from page_from slot_in
  rest_page j h =
      let left : run.pages - p ≡ suc (run.pages - suc p) = omega arith in
      rw (left, add-one p)

  -- So in the run: the page is left where nothing in it is met, and else the run is there.
  module _ (n from to : ℕ) (counted : n ≡ count_in w run p) (h : p < run.pages) (moved : page_from w run p to ≡ skip pair (page_from w run p from)) where
    pub rest_left : n ≤ to → skip pair (rest_from w run (p + 1) 0 (run.pages - (p + 1))) ≡ skip pair (rest_from w run p from (run.pages - p))
    rest_left e = rw (rest_page from h) (sym (skip_past pair (page_from w run p from) _ (sym moved ∙ page_done to (omega (arith, counted)))))

    pub rest_met : to < n → stops_at pair (slot_in w run p to) ≡ true →
        rest_from w run p to (run.pages - p) ≡ skip pair (rest_from w run p from (run.pages - p))
    rest_met b s =
        let here = page_on to (omega (arith, counted)) ∙ index_first (slot_in w run p to) (span (slot_in w run p) (suc to) (count_in w run p - suc to)) (stops_index pair (slot_in w run p to) s) in
        rw (rest_page from h, rest_page to h, moved) (sym (skip_within pair (page_from w run p from) _ _ _ (sym moved ∙ here)))

  pub rest_passed : (from : ℕ) → p < run.pages → skip pair (page_from w run p from) ≡ [] →
      skip pair (rest_from w run (p + 1) 0 (run.pages - (p + 1))) ≡ skip pair (rest_from w run p from (run.pages - p))
  rest_passed from h none =
      let n = count_in w run p in
      rest_left n from n refl h (page_done n (le_refl n) ∙ sym none) (le_refl n)

-- Past the last page nothing is skipped.
pub rest_over : (w : List ℕ) (run : Run) (p j : ℕ) (pair : Pair) → run.pages ≤ p →
    rest_from w run p j (run.pages - p) ≡ skip pair (rest_from w run p j (run.pages - p))
unfolding skip
rest_over w run p j pair h = rest_none w run p j h ∙ ap (skip pair) (sym (rest_none w run p j h))
