-- Laws of entries woven with fences: what holds of both holds of the row, and its entries and its fences are those given. Assumes nothing.
use Prim.Native.Nat.{ℕ, zero, suc}
use Rattle.std.specs.Prelude.{◌≡◌, Bool, List, [], ◌∷◌}
use Rattle.std.proofs.Math.Path.{refl, ap}
use Rattle.std.proofs.Common.{◌∙◌}
use Rattle.std.proofs.Math.Bool.{true, false}
use Rattle.laws.specs.Lists.{span, all, passing_yes, passing_no}
use Rattle.laws.specs.Flat.{all_first, all_rest, all_span}
use Rattle.slot.specs.declared.Pair.{Pair}
use Rattle.slot.specs.declared.Slot.{Slot}
use Rattle.slot.specs.declared.Kind.TheVariants.{Normal, Filter}
use Rattle.slot.specs.Pair.{before}
use Rattle.rules.specs.Tree.{Entry, Level}
use Rattle.rules.specs.Level.{index, external, fence_kind, fence_of, place, weave}
use Rattle.rules.specs.Finding.{normal_kind}
use Rattle.rules.specs.Sound.{entries_of, fence_pages, legal}

abbrev pub fence : Slot → Bool
fence s = fence_kind s.kind

-- An entry's slot: no fence, normal as the entry is, legal everywhere.
module _ (e : Entry) where
  pub index_entry : fence (index e) ≡ false
  unfolding index
  index_entry = by_kind e.normal
    where
      by_kind : (b : Bool) → fence_kind (elim b [ true ↦ Normal | false ↦ Filter ]) ≡ false
      by_kind true = refl
      by_kind false = refl

  pub index_normal : normal_kind (index e).kind ≡ e.normal
  unfolding index
  index_normal = by_kind e.normal
    where
      by_kind : (b : Bool) → normal_kind (elim b [ true ↦ Normal | false ↦ Filter ]) ≡ b
      by_kind true = refl
      by_kind false = refl

  index_again : record { pair = (index e).pair; normal = normal_kind (index e).kind } ≡ e
  unfolding index
  index_again = ap (λ (b : Bool). record { pair = e.pair; normal = b }) index_normal

  pub index_legal : (inner : Bool) (below : ℕ) → legal inner below (index e) ≡ true
  unfolding index legal
  index_legal inner below = by_kind e.normal
    where
      by_kind : (b : Bool) → legal inner below (record { pair = e.pair; kind = elim b [ true ↦ Normal | false ↦ Filter ]; page = record { 0 = 0 } }) ≡ true
      by_kind true = refl
      by_kind false = refl

-- The fences over the pages below are fences.
module _ (first : ℕ → Pair) where
  pub fence_kind_lem : (k : ℕ) → fence (fence_of first k) ≡ true
  unfolding fence_of external
  fence_kind_lem zero = refl
  fence_kind_lem (suc k) = refl

  pub fences_all : (i n : ℕ) → all fence (span (fence_of first) i n) ≡ true
  fences_all i n = all_span fence (fence_of first) i n (λ k h. fence_kind_lem k)

-- An entry that stands before the fences still to come.
unfoldable pub StandsFirst : Entry → List Slot → Type 0
StandsFirst e [] = Unit {0}
StandsFirst e (f ∷ fs) = before e.pair f.pair ≡ true

-- What holds of the fences alone, and goes on holding where an entry or a fence is put first, holds of what is woven.
pub by_weaving : (Q : Level → List Slot → List Slot → Type 0) → ((fs : List Slot) → Q [] fs fs) →
    ((e : Entry) (es : Level) (fs row : List Slot) → StandsFirst e fs → Q es fs row → Q (e ∷ es) fs (index e ∷ row)) →
    ((e : Entry) (es : Level) (f : Slot) (fs row : List Slot) → before e.pair f.pair ≡ false → Q (e ∷ es) fs row → Q (e ∷ es) (f ∷ fs) (f ∷ row)) →
    (es : Level) (fs : List Slot) → Q es fs (weave es fs)
unfolding weave place StandsFirst
by_weaving Q none entry_IsFirst fence_first_lem [] fs = none fs
by_weaving Q none entry_IsFirst fence_first_lem (e ∷ es) fs = placed (by_weaving Q none entry_IsFirst fence_first_lem es) fs
  where
    placed : ((fs : List Slot) → Q es fs (weave es fs)) → (fs : List Slot) → Q (e ∷ es) fs (place e (weave es) fs)
    placed rest [] = entry_IsFirst e es [] (weave es []) tt (rest [])
    placed rest (f ∷ fs) = chosen (before e.pair f.pair) refl (placed rest fs)
      where
        chosen : (b : Bool) → before e.pair f.pair ≡ b → Q (e ∷ es) fs (place e (weave es) fs) →
            Q (e ∷ es) (f ∷ fs) (elim b [ true ↦ index e ∷ weave es (f ∷ fs) | false ↦ f ∷ place e (weave es) fs ])
        chosen true c ih = entry_IsFirst e es (f ∷ fs) (weave es (f ∷ fs)) c (rest (f ∷ fs))
        chosen false c ih = fence_first_lem e es f fs (place e (weave es) fs) c ih

-- The entries are those given.
pub entries_fence : (s : Slot) (ss : List Slot) → fence s ≡ true → entries_of (s ∷ ss) ≡ entries_of ss
unfolding entries_of
entries_fence s ss e = rw (e, entries_of)

pub entries_index : (e : Entry) (ss : List Slot) → entries_of (index e ∷ ss) ≡ e ∷ entries_of ss
unfolding entries_of
entries_index e ss = rw (index_entry e, entries_of) (ap (λ (f : Entry). f ∷ entries_of ss) (index_again e))

pub entries_none : (fs : List Slot) → all fence fs ≡ true → entries_of fs ≡ []
unfolding entries_of
entries_none [] a = refl
entries_none (f ∷ fs) a = entries_fence f fs (all_first fence f fs a) ∙ entries_none fs (all_rest fence f fs a)

-- So are the fences.
pub pages_fence : (s : Slot) (ss : List Slot) → fence s ≡ true → fence_pages (s ∷ ss) ≡ s.page.0 ∷ fence_pages ss
unfolding fence_pages
pages_fence s ss e = rw (passing_yes fence s ss e)

pub pages_index : (e : Entry) (ss : List Slot) → fence_pages (index e ∷ ss) ≡ fence_pages ss
unfolding fence_pages
pages_index e ss = rw (passing_no fence (index e) ss (index_entry e))
