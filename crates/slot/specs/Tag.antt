-- Tag = 4 × page number + kind, made and taken apart, with the round trip. Assumes nothing.
use Rattle.std.specs.Prelude.{ℕ, zero, suc, ◌+◌, ◌*◌, ◌/◌, ◌%◌, ◌<◌, ◌≡◌, refl}
use Rattle.std.proofs.Common.{arith}
use Rattle.slot.specs.declared.Pid.{Pid}
use Rattle.slot.specs.declared.Kind.{Kind}
use Rattle.slot.specs.declared.Kind.TheVariants.{Normal, Filter, External, Internal}

-- Kinds are 0 normal, 1 filter, 2 external fence, 3 internal fence.
abbrev pub kind_number : Kind → ℕ
kind_number Normal = 0
kind_number Filter = 1
kind_number External = 2
kind_number Internal = 3

unfoldable pub kind_named : ℕ → Kind
kind_named zero = Normal
kind_named (suc zero) = Filter
kind_named (suc (suc zero)) = External
kind_named (suc (suc (suc n))) = Internal

pub named_last : (n : ℕ) → (n ≡ 0 → ⊥) → (n ≡ 1 → ⊥) → (n ≡ 2 → ⊥) → Internal ≡ kind_named n
unfolding kind_named
named_last zero a b c = absurd (a refl)
named_last (suc zero) a b c = absurd (b refl)
named_last (suc (suc zero)) a b c = absurd (c refl)
named_last (suc (suc (suc n))) a b c = refl

-- The kind is the tag's remainder by 4; the page number is the rest.
unfoldable pub kind_of : ℕ → Kind
kind_of tag = kind_named (tag % 4)

unfoldable pub page_of : ℕ → Pid
page_of tag = record { 0 = tag / 4 }

unfoldable pub tag_of : Kind → Pid → ℕ
tag_of kind page = 4 * page.0 + kind_number kind

-- What a tag was made of can be read back, for every page number.
pub kind_small : (k : Kind) → kind_number k < 4
kind_small Normal = omega arith
kind_small Filter = omega arith
kind_small External = omega arith
kind_small Internal = omega arith

kind_named_lem : (k : Kind) → kind_named (kind_number k) ≡ k
unfolding kind_named
kind_named_lem Normal = refl
kind_named_lem Filter = refl
kind_named_lem External = refl
kind_named_lem Internal = refl

named_kind : (n : ℕ) → n < 4 → kind_number (kind_named n) ≡ n
unfolding kind_named
named_kind zero h = refl
named_kind (suc zero) h = refl
named_kind (suc (suc zero)) h = refl
named_kind (suc (suc (suc zero))) h = refl
named_kind (suc (suc (suc (suc n)))) h = absurd (omega arith)

pub kind_back : (k : Kind) (p : Pid) → kind_of (tag_of k p) ≡ k
unfolding kind_of tag_of
kind_back k p =
    let e : (4 * p.0 + kind_number k) % 4 ≡ kind_number k = omega (arith, kind_small k) in
    rw e (kind_named_lem k)

pub page_back : (k : Kind) (p : Pid) → page_of (tag_of k p) ≡ p
unfolding page_of tag_of
page_back k p =
    let e : (4 * p.0 + kind_number k) / 4 ≡ p.0 = omega (arith, kind_small k) in
    rw e

-- And a tag is made again of what was read from it, whatever the word.
pub tag_again : (tag : ℕ) → tag_of (kind_of tag) (page_of tag) ≡ tag
unfolding kind_of page_of tag_of
tag_again tag = rw (named_kind (tag % 4) (omega arith)) (omega arith)
