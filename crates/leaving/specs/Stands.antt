-- Whether a slot stands in words as the writing has it, with its page's count where it opens a page: what the clauses of src/lib.rt cite, and
-- that this compares the words of the writing one by one. Assumes nothing.
use Rattle.std.specs.Prelude.{ℕ, ◌+◌, ◌-◌, ◌*◌, ◌/◌, ◌%◌, ◌≤◌, ◌<◌, min, Bool, cond, ◌&&◌, List, length, get_or, leb}
use native.Mathlib.Omega.{arith}
use Rattle.std.proofs.Math.Path.{◌≡◌, refl}
use Rattle.std.proofs.Common.{sym, ◌∙◌}
use Rattle.std.proofs.Math.Bool.{true, false}
use Rattle.std.proofs.lemmas.Bool.{false≢true}
use Rattle.std.proofs.Math.Dec.{ltb, eqb}
use borrow.Author.Tests.{eqb-true, eq-eqb, leb-false}
use Rattle.laws.specs.Tests.{and_left, and_right, and_assoc}
use Rattle.laws.specs.Flat.{bool_agree}
use Rattle.geometry.specs.Places.{erased, words_in_page}
use Rattle.slot.specs.declared.Slot.{Slot}
use Rattle.slot.specs.declared.Kind.{Kind}
use Rattle.slot.specs.declared.Pid.{Pid}
use Rattle.slot.specs.Pair.{least}
use Rattle.slot.specs.Tag.{kind_number, kind_of, page_of, tag_of, tag_again, kind_back, page_back}
use Rattle.slot.specs.Slot.{slot_at, words_of}
use Rattle.rules.specs.Level.{external}
use Rattle.layout.specs.Stream.{same_slot}
use Rattle.entries.specs.declared.Run.{Run}
use Rattle.entries.specs.Run.{place_in}
use Rattle.leaving.specs.Grouped.{words_at}

-- The count of the page that slot n opens, where the writing has `total` slots: those from n on, at most as many as a page has. A page without
-- slots is unused, unless it is the first.
unfoldable pub count_wanted : ℕ → ℕ → ℕ → ℕ
count_wanted total most n = cond (leb 1 n && leb total n) erased (min (total - n) most)

-- Where the page is not unused, slot n is one of the slots or the first.
pub not_past : (total n : ℕ) → (leb 1 n && leb total n) ≡ false → n ≤ total
not_past total n e = by (leb 1 n) refl (leb total n) refl e
  where
    by : (b : Bool) → leb 1 n ≡ b → (c : Bool) → leb total n ≡ c → (b && c) ≡ false → n ≤ total
    by true p true q h = absurd (false≢true (sym h))
    by true p false q h = omega (arith, leb-false total n q)
    by false p c q h = omega (arith, leb-false 1 n p)

-- Whether the count stands that slot n opens its page with, if it does open one.
unfoldable pub count_stands : List ℕ → Run → ℕ → ℕ → Bool
count_stands w run total n =
    elim (eqb (n % run.most) 0) [ true ↦ eqb (get_or w (run.start + words_in_page * (n / run.most)) 0) (count_wanted total run.most n) | false ↦ true ]

-- The first word of slot n, and whether its words are unused.
unfoldable pub place_of : Run → ℕ → ℕ
place_of run n = place_in run (n / run.most) (n % run.most)

unfoldable pub unused_at : List ℕ → ℕ → Bool
unused_at w at = eqb (get_or w at 0) erased && eqb (get_or w (at + 1) 0) erased && eqb (get_or w (at + 2) 0) erased

-- Slot n of a writing; past the writing there is none.
abbrev pub numbered : List Slot → ℕ → Slot
numbered slots n = get_or slots n (external least 0)

-- Whether slot n is that of the writing or, past the writing, unused; and with it the count of the page that it opens.
unfoldable pub slot_stands : List ℕ → Run → List Slot → ℕ → Bool
slot_stands w run slots n =
    elim (ltb n (length slots)) [ true ↦ same_slot (slot_at w (place_of run n)) (numbered slots n) | false ↦ unused_at w (place_of run n) ]

unfoldable pub stands : List ℕ → Run → List Slot → ℕ → Bool
stands w run slots n = count_stands w run (length slots) n && slot_stands w run slots n

-- Words that hold the writing of slots, as far as slot m, in pages of `most` slots.
pub record Holds (most m : ℕ) (slots : List Slot) (words : List ℕ) : Type 0 where
  pub counts : (n : ℕ) → n < m → n % most ≡ 0 → get_or words (words_in_page * (n / most)) 0 ≡ count_wanted (length slots) most n
  pub used : (n k j : ℕ) → n < m → n < length slots → k < 3 → j ≡ words_at most n + k → get_or words j 0 ≡ get_or (words_of (numbered slots n)) k 0
  pub unused : (n k j : ℕ) → n < m → length slots ≤ n → k < 3 → j ≡ words_at most n + k → get_or words j 0 ≡ erased

-- A tag's kind and page number are those given exactly if it is their tag.
tag_agree : (tag : ℕ) (k : Kind) (p : Pid) → (eqb (kind_number (kind_of tag)) (kind_number k) && eqb (page_of tag).0 p.0) ≡ eqb tag (tag_of k p)
unfolding tag_of
tag_agree tag k p =
    bool_agree (eqb (kind_number (kind_of tag)) (kind_number k) && eqb (page_of tag).0 p.0) (eqb tag (tag_of k p)) made
    (λ e. apart (eqb-true tag (tag_of k p) e))
  where
    made : (eqb (kind_number (kind_of tag)) (kind_number k) && eqb (page_of tag).0 p.0) ≡ true → eqb tag (tag_of k p) ≡ true
    made e =
        let x : kind_number (kind_of tag) ≡ kind_number k = eqb-true _ _ (and_left (eqb (kind_number (kind_of tag)) (kind_number k)) _ e) in
        let y : (page_of tag).0 ≡ p.0 = eqb-true _ _ (and_right (eqb (kind_number (kind_of tag)) (kind_number k)) _ e) in
        eq-eqb tag (tag_of k p) (sym (tag_again tag) ∙ rw (x, y) refl)

    apart : tag ≡ tag_of k p → (eqb (kind_number (kind_of tag)) (kind_number k) && eqb (page_of tag).0 p.0) ≡ true
    apart e = rw (e, kind_back k p, page_back k p) (rw (eq-eqb (kind_number k) (kind_number k) refl, eq-eqb p.0 p.0 refl) refl)

-- So a slot is the one read exactly if its three words are those there.
pub same_words : (w : List ℕ) (at : ℕ) (s : Slot) → same_slot (slot_at w at) s ≡
    (eqb (get_or w at 0) s.pair.badge && eqb (get_or w (at + 1) 0) s.pair.floor.0 && eqb (get_or w (at + 2) 0) (tag_of s.kind s.page))
unfolding same_slot slot_at
same_words w at s =
    and_assoc (eqb (get_or w at 0) s.pair.badge && eqb (get_or w (at + 1) 0) s.pair.floor.0) _ _ ∙
    rw (tag_agree (get_or w (at + 2) 0) s.kind s.page) refl
