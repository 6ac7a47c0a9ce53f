-- Laws of entries woven with fences: what holds of both holds of the row, and its entries and its fences are those given. Assumes nothing.
use Prim.Native.Nat.{ℕ}
use Rattle.std.specs.Prelude.{◌≡◌, Bool, List, ◌∷◌}
use Rattle.std.proofs.Math.Path.{refl, ap}
use Rattle.std.proofs.Common.{sym, ◌∙◌}
use Rattle.std.proofs.Math.Bool.{true}
use Rattle.laws.specs.Lists.{all}
use Rattle.laws.specs.Flat.{all_first, all_rest, all_join}
use Rattle.slot.specs.declared.Slot.{Slot}
use Rattle.rules.specs.Tree.{Entry, Level}
use Rattle.rules.specs.Level.{index, weave}
use Rattle.rules.specs.Sound.{entries_of, fence_pages}
use Rattle.rules.specs.Woven.{by_weaving, entries_fence, entries_index, entries_none, fence, pages_fence, pages_index}

-- A test that the entries' slots and the fences pass.
pub all_woven : (t : Slot → Bool) → ((e : Entry) → t (index e) ≡ true) → (es : Level) (fs : List Slot) → all t fs ≡ true → all t (weave es fs) ≡ true
all_woven t h =
    by_weaving (λ es fs row. all t fs ≡ true → all t row ≡ true) (λ fs a. a)
    (λ e es fs row c ih a. all_join t (index e) row (h e) (ih a))
    (λ e es f fs row c ih a. all_join t f row (all_first t f fs a) (ih (all_rest t f fs a)))

pub entries_woven : (es : Level) (fs : List Slot) → all fence fs ≡ true → entries_of (weave es fs) ≡ es
entries_woven =
    by_weaving (λ es fs row. all fence fs ≡ true → entries_of row ≡ es) entries_none
    (λ e es fs row c ih a. entries_index e row ∙ ap (λ (l : Level). e ∷ l) (ih a))
    (λ e es f fs row c ih a. entries_fence f row (all_first fence f fs a) ∙ ih (all_rest fence f fs a))

pub fence_pages_woven : (es : Level) (fs : List Slot) → all fence fs ≡ true → fence_pages (weave es fs) ≡ fence_pages fs
fence_pages_woven =
    by_weaving (λ es fs row. all fence fs ≡ true → fence_pages row ≡ fence_pages fs) (λ fs a. refl)
    (λ e es fs row c ih a. pages_index e row ∙ ih a)
    (λ e es f fs row c ih a.
    let k = all_first fence f fs a in
    pages_fence f row k ∙ ap (λ (l : List ℕ). f.page.0 ∷ l) (ih (all_rest fence f fs a)) ∙ sym (pages_fence f fs k))
