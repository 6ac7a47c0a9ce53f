-- Right tags by one comparison: how many pages a slot of a page may name, and which page a slot of the head names. Assumes nothing.
use Rattle.std.specs.Prelude.{ℕ, zero, suc, ◌+◌, ◌≡◌, refl, Bool, ◌&&◌}
use Rattle.std.proofs.Common.{arith, le-ltb, ne_eqb, eqb-true}
use Rattle.std.proofs.Math.Path.{sym}
use Rattle.std.proofs.Math.Bool.{true, false, not}
use Rattle.std.proofs.lemmas.Bool.{false≢true}
use Rattle.std.proofs.Math.Dec.{ltb, eqb}
use Rattle.laws.specs.Tests.{and_true, and_false}
use Rattle.slot.specs.declared.Kind.{Kind}
use Rattle.slot.specs.declared.Kind.TheVariants.{Normal, Filter, External, Internal}
use Rattle.slot.specs.declared.Slot.{Slot}
use Rattle.rules.specs.Level.{fence_kind}
use Rattle.rules.specs.Sound.{legal, legal_kind}

-- What a slot of a kind gets, of what a fence gets and what an index entry gets.
abbrev pub by_kind : {T : Type 0} → Kind → T → T → T
by_kind Normal fence entry = entry
by_kind Filter fence entry = entry
by_kind External fence entry = fence
by_kind Internal fence entry = fence

abbrev pub pages_named : ℕ → Kind → ℕ
pages_named below kind = by_kind kind below 1

abbrev pub page_due : ℕ → Kind → ℕ
page_due fences kind = by_kind kind fences 0

abbrev pub internal_kind : Kind → Bool
internal_kind Normal = false
internal_kind Filter = false
internal_kind External = false
internal_kind Internal = true

abbrev pub room_for : Bool → Bool → Kind → Bool
room_for fence entry kind = by_kind kind fence entry

-- Whether a slot of the head is an index entry with page number 0, or the external fence of the next page.
unfoldable pub in_turn : ℕ → Slot → Bool
in_turn fences s = eqb s.page.0 (page_due fences s.kind) && not (internal_kind s.kind)

-- What is tested of a slot that has `fences` fences and `entries` index entries before it: in a page, that its tag is legal; in the head, that
-- the fences name pages 0, 1, … in turn, no more than there are below, and that the entries stay fewer than `head`.
unfoldable pub legal_below : ℕ → ℕ → ℕ → Slot → Bool
legal_below below fences entries s = legal true below s

unfoldable pub head_tag : ℕ → ℕ → ℕ → ℕ → Slot → Bool
head_tag below head fences entries s = in_turn fences s && room_for (ltb fences below) (ltb (entries + 1) head) s.kind

none_but_zero : (page : ℕ) → ltb page 1 ≡ eqb page 0
none_but_zero zero = refl
none_but_zero (suc page) = rw (le-ltb (suc page) 1 (omega arith), ne_eqb (suc page) 0 (λ z. absurd (omega arith)))

pub legal_by_bound : (below : ℕ) (kind : Kind) (page : ℕ) → ltb page (pages_named below kind) ≡ legal_kind true below kind page
legal_by_bound below Normal page = none_but_zero page
legal_by_bound below Filter page = none_but_zero page
legal_by_bound below External page = refl
legal_by_bound below Internal page = refl

-- Over n pages a slot of the head is right exactly if its tag is legal, and a fence names the next page, an entry is not one too many.
module _ (n head fences entries : ℕ) (s : Slot) where
  pub entry_tag : fence_kind s.kind ≡ false → head_tag n head fences entries s ≡ (legal false n s && ltb (entries + 1) head)
  unfolding head_tag in_turn legal
  entry_tag e = by_kind s.kind e
    where
      by_kind : (k : Kind) → fence_kind k ≡ false →
          (eqb s.page.0 (page_due fences k) && not (internal_kind k) && room_for (ltb fences n) (ltb (entries + 1) head) k) ≡
          (legal_kind false n k s.page.0 && ltb (entries + 1) head)
      by_kind Normal e = rw (and_true (eqb s.page.0 0))
      by_kind Filter e = rw (and_true (eqb s.page.0 0))
      by_kind External e = absurd (false≢true (sym e))
      by_kind Internal e = absurd (false≢true (sym e))

  pub fence_tag : fence_kind s.kind ≡ true → head_tag n head fences entries s ≡ (legal false n s && eqb s.page.0 fences)
  unfolding head_tag in_turn legal
  fence_tag e = by_kind s.kind e
    where
      due : (b : Bool) → eqb s.page.0 fences ≡ b → (b && true && ltb fences n) ≡ (ltb s.page.0 n && b)
      due true f = rw (eqb-true s.page.0 fences f) (sym (and_true (ltb fences n)))
      due false f = sym (and_false (ltb s.page.0 n))

      by_kind : (k : Kind) → fence_kind k ≡ true →
          (eqb s.page.0 (page_due fences k) && not (internal_kind k) && room_for (ltb fences n) (ltb (entries + 1) head) k) ≡
          (legal_kind false n k s.page.0 && eqb s.page.0 fences)
      by_kind Normal e = absurd (false≢true e)
      by_kind Filter e = absurd (false≢true e)
      by_kind External e = due (eqb s.page.0 fences) refl
      by_kind Internal e = rw (and_false (eqb s.page.0 fences))
