-- Laws of a row cut into pages: what holds of it by the slots put first, and that its entries stay. Assumes nothing.
use Rattle.std.specs.Prelude.{ℕ, ◌+◌, ◌%◌, ◌≡◌, refl, ◌≢◌, Bool, true, false, List, [], ◌∷◌, eqb}
use Rattle.std.proofs.Common.{ap, eqb-true}
use Rattle.std.proofs.lemmas.Bool.{eqb-false}
use Rattle.slot.specs.declared.Slot.{Slot}
use Rattle.rules.specs.Tree.{Level}
use Rattle.rules.specs.Level.{internal, fence_kind, paged}
use Rattle.rules.specs.Finding.{normal_kind}
use Rattle.rules.specs.Sound.{entries_of}
use Rattle.rules.specs.Woven.{fence}

-- What holds of no slots, and goes on holding where a fence, an index entry within a page, or one that opens a page is put first, holds
-- of a row cut into pages.
pub by_paging : (Q : ℕ → ℕ → List Slot → List Slot → Type 0) → ((j last : ℕ) → Q j last [] []) →
    ((j last : ℕ) (s : Slot) (ss row : List Slot) → fence s ≡ true → Q ((j + 1) % 21) s.page.0 ss row → Q j last (s ∷ ss) (s ∷ row)) →
    ((last : ℕ) (s : Slot) (ss row : List Slot) → fence s ≡ false → Q 2 last ss row → Q 0 last (s ∷ ss) (internal s.pair last ∷ s ∷ row)) →
    ((j last : ℕ) (s : Slot) (ss row : List Slot) → fence s ≡ false → j ≢ 0 → Q ((j + 1) % 21) last ss row → Q j last (s ∷ ss) (s ∷ row)) →
    (j last : ℕ) (ss : List Slot) → Q j last ss (paged j last ss)
unfolding paged
by_paging Q none fence_first_lem opening within j last [] = none j last
by_paging Q none fence_first_lem opening within j last (s ∷ ss) =
    chosen (fence_kind s.kind) refl (by_paging Q none fence_first_lem opening within ((j + 1) % 21) s.page.0 ss)
    (by_paging Q none fence_first_lem opening within 2 last ss) (by_paging Q none fence_first_lem opening within ((j + 1) % 21) last ss)
  where
    opened : (b : Bool) → eqb j 0 ≡ b → fence_kind s.kind ≡ false → Q 2 last ss (paged 2 last ss) → Q ((j + 1) % 21) last ss (paged ((j + 1) % 21) last ss) →
        Q j last (s ∷ ss) (elim b [ true ↦ internal s.pair last ∷ s ∷ paged 2 last ss | false ↦ s ∷ paged ((j + 1) % 21) last ss ])
    opened true e k ih ih' =
        let z : j ≡ 0 = eqb-true j 0 e in
        rw z (opening last s ss (paged 2 last ss) k ih)
    opened false e k ih ih' = within j last s ss (paged ((j + 1) % 21) last ss) k (eqb-false j 0 e) ih'

    chosen : (b : Bool) → fence_kind s.kind ≡ b → Q ((j + 1) % 21) s.page.0 ss (paged ((j + 1) % 21) s.page.0 ss) → Q 2 last ss (paged 2 last ss) →
        Q ((j + 1) % 21) last ss (paged ((j + 1) % 21) last ss) →
        Q j last (s ∷ ss) (elim b [
          | true ↦ s ∷ paged ((j + 1) % 21) s.page.0 ss
          | false ↦ elim (eqb j 0) [ true ↦ internal s.pair last ∷ s ∷ paged 2 last ss | false ↦ s ∷ paged ((j + 1) % 21) last ss ]
        ])
    chosen true e a b c = fence_first_lem j last s ss (paged ((j + 1) % 21) s.page.0 ss) e a
    chosen false e a b c = opened (eqb j 0) refl e b c

-- Its internal fences have no entries.
pub entries_behind : (s : Slot) (us vs : List Slot) → entries_of us ≡ entries_of vs → entries_of (s ∷ us) ≡ entries_of (s ∷ vs)
unfolding entries_of
entries_behind s us vs e =
    ap (λ (es : Level). elim (fence s) as (λ _. Level) [ true ↦ es | false ↦ record { pair = s.pair; normal = normal_kind s.kind } ∷ es ]) e
