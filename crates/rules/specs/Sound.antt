-- The paper's section "Sound stores", on any words: what put, drop and ask look at, and what the whole-store test adds.
-- The geometry is in range and the length right. Assumes nothing.
use Rattle.std.specs.Prelude.{ℕ, suc, ◌+◌, ◌*◌, min, Bool, true, false, not, ◌&&◌, ◌||◌, List, [], ◌∷◌, map, length, get_or, take, drop, ltb, leb, eqb}
use Rattle.std.specs.Bool.{beq}
use Rattle.laws.specs.Lists.{span, concat, passing, all, equal}
use Rattle.geometry.specs.declared.Geometry.{Geometry}
use Rattle.geometry.specs.Geometry.{bottom, capacity, most, room}
use Rattle.geometry.specs.Places.{live_word, pages_word, mode_word, open_mode, head_count_word, head_start, head_room, level_start, page_place, slot_place, slots_in_page, words_in_slot, words_in_page}
use Rattle.slot.specs.declared.Pair.{Pair}
use Rattle.slot.specs.declared.Slot.{Slot}
use Rattle.slot.specs.declared.Kind.{Kind}
use Rattle.slot.specs.declared.Kind.TheVariants.{Normal, Filter, External, Internal}
use Rattle.slot.specs.Pair.{least, before, same}
use Rattle.slot.specs.Slot.{slot_at}
use Rattle.rules.specs.Tree.{Entry, Level, Tree}
use Rattle.rules.specs.Level.{index, fence_kind, pages_for, fences, weave, paged}
use Rattle.rules.specs.Finding.{normal_kind, held}
use Rattle.rules.specs.Store.{run_words, level_words}
use Rattle.geometry.specs.Directory.{pages_of}

-- What stands in a store's words, as they are -------------------------------------------------------------------------------------------

-- n slots from a place on; the head's slots; the slots of a page, whose count above 21 is read as 21; those of a level.
unfoldable pub slots_from : List ℕ → ℕ → ℕ → List Slot
slots_from w at n = span (λ j. slot_at w (at + words_in_slot * j)) 0 n

unfoldable pub head_slots : Geometry → List ℕ → List Slot
head_slots g w = slots_from w head_start (min (get_or w head_count_word 0) (head_room g))

unfoldable pub count_at : Geometry → List ℕ → ℕ → ℕ → ℕ
count_at g w i p = get_or w (page_place g i p) 0

unfoldable pub page_slots : Geometry → List ℕ → ℕ → ℕ → List Slot
page_slots g w i p = slots_from w (slot_place g i p 0) (min (count_at g w i p) slots_in_page)

unfoldable pub level_slots : Geometry → List ℕ → ℕ → List Slot
level_slots g w i = concat (span (page_slots g w i) 0 (pages_of g w i))

-- The index entries among slots, by kind alone.
unfoldable pub entries_of : List Slot → Level
entries_of [] = []
entries_of (s ∷ ss) = elim (fence_kind s.kind) [ true ↦ entries_of ss | false ↦ record { pair = s.pair; normal = normal_kind s.kind } ∷ entries_of ss ]

-- The pair in the first slot of page p of level i, as it stands.
unfoldable pub first_at : Geometry → List ℕ → ℕ → ℕ → Pair
first_at g w i p = (slot_at w (slot_place g i p 0)).pair

-- The tree that the words hold.
unfoldable pub tree_of : Geometry → List ℕ → Tree
tree_of g w = entries_of (head_slots g w) ∷ span (λ i. entries_of (level_slots g w i)) 1 (bottom g)

-- The directory ---------------------------------------------------------------------------------------------------------------------------

-- live ≤ M; page counts are 1..Pg, or 0 without the level; word 7 is 0.
unfoldable pub pages_right : Geometry → List ℕ → ℕ → Bool
pages_right g w i =
    let n = get_or w (pages_word i) 0 in
    elim (ltb i g.levels) [ true ↦ leb 1 n && leb n (room g i) | false ↦ eqb n 0 ]

unfoldable pub directory_right : Geometry → List ℕ → Bool
directory_right g w = leb (get_or w live_word 0) (most g) && all (pages_right g w) (1 ∷ 2 ∷ 3 ∷ []) && eqb (get_or w mode_word 0) open_mode

-- Slot order and legal tags ---------------------------------------------------------------------------------------------------------------

-- Pairs never fall, no fence stands after an index entry of its pair, no two index entries share a pair.
unfoldable pub follows : Slot → Slot → Bool
follows a b = before a.pair b.pair || (same a.pair b.pair && fence_kind a.kind)

unfoldable pub in_order : List Slot → Bool
in_order [] = true
in_order (a ∷ []) = true
in_order (a ∷ b ∷ ss) = elim (follows a b) [ true ↦ in_order (b ∷ ss) | false ↦ false ]

-- Index entries with page number 0, and fences naming a page that the level below has, internal ones not in the head. The bottom has no
-- level below, so no fence.
abbrev pub legal_kind : Bool → ℕ → Kind → ℕ → Bool
legal_kind inner below Normal page = eqb page 0
legal_kind inner below Filter page = eqb page 0
legal_kind inner below External page = ltb page below
legal_kind inner below Internal page = inner && ltb page below

unfoldable pub legal : Bool → ℕ → Slot → Bool
legal inner below s = legal_kind inner below s.kind s.page.0

-- The head ---------------------------------------------------------------------------------------------------------------------------------

-- Its fences name pages 0, 1, … in turn, as many as level 1 has.
unfoldable pub fence_pages : List Slot → List ℕ
fence_pages ss = map (λ s. s.page.0) (passing (λ s. fence_kind s.kind) ss)

-- The first slot is the fence with the least pair.
unfoldable pub first_is_least : List Slot → Bool
first_is_least [] = false
first_is_least (s ∷ ss) = fence_kind s.kind && same least s.pair

-- What put, drop and ask test of the head.
unfoldable pub head_right : Geometry → List ℕ → Bool
head_right g w =
    let ss = head_slots g w in
    leb (get_or w head_count_word 0) (head_room g) && ltb (length (entries_of ss)) g.head && in_order ss && all (legal false (pages_of g w 1)) ss &&
    equal (fence_pages ss) (span (λ p. p) 0 (pages_of g w 1)) && first_is_least ss

-- Page form: a count of 1..21 (0 too, in a bottom of one page), slot order and legal tags.
unfoldable pub count_right : Geometry → List ℕ → ℕ → ℕ → Bool
count_right g w i p =
    let n = count_at g w i p in
    leb n slots_in_page && (leb 1 n || (eqb i (bottom g) && eqb (pages_of g w i) 1))

unfoldable pub page_formed : Geometry → List ℕ → ℕ → ℕ → Bool
page_formed g w i p = count_right g w i p && in_order (page_slots g w i p) && all (legal true (pages_of g w (suc i))) (page_slots g w i p)

-- What a walk tests of a page that it reads for a pair: page form and, above the bottom, a first slot that is a fence not above the pair.
unfoldable pub first_right : Pair → List Slot → Bool
first_right p [] = false
first_right p (s ∷ ss) = fence_kind s.kind && not (before p s.pair)

unfoldable pub page_right : Geometry → List ℕ → Pair → ℕ → ℕ → Bool
page_right g w p i q = page_formed g w i q && (eqb i (bottom g) || first_right p (page_slots g w i q))

-- The whole store ---------------------------------------------------------------------------------------------------------------------------

unfoldable pub ascending : Level → Bool
ascending [] = true
ascending (e ∷ []) = true
ascending (e ∷ f ∷ es) = elim (before e.pair f.pair) [ true ↦ ascending (f ∷ es) | false ↦ false ]

-- The writing of level i's own index entries over the first slots below as they stand.
unfoldable pub level_laid : Geometry → List ℕ → ℕ → Level → List Slot
level_laid g w i es =
    elim (eqb i (bottom g)) [ true ↦ map index es | false ↦ paged 0 0 (weave es (fences (first_at g w (suc i)) (pages_of g w (suc i)))) ]

-- Level i above the bottom has fewer than cap(i), the bottom at most M.
unfoldable pub within_capacity : Geometry → ℕ → ℕ → Bool
within_capacity g i n = elim (eqb i (bottom g)) [ true ↦ leb n (most g) | false ↦ ltb n (capacity g i) ]

-- A level is the writing of ascending entries: its page form, its words and its page count, and its capacity.
unfoldable pub level_sound : Geometry → List ℕ → ℕ → Bool
level_sound g w i =
    let es = entries_of (level_slots g w i) in
    let slots = level_laid g w i es in
    all (page_formed g w i) (span (λ p. p) 0 (pages_of g w i)) && ascending es && eqb (pages_for (length slots)) (pages_of g w i) &&
    equal (take (words_in_page * room g i) (drop (level_start g i) w)) (level_words slots (room g i)) && within_capacity g i (length es)

-- So is the head, with external fences alone, in its own room.
unfoldable pub head_sound : Geometry → List ℕ → Bool
head_sound g w =
    let slots = weave (entries_of (head_slots g w)) (fences (first_at g w 1) (pages_of g w 1)) in
    head_right g w && eqb (length slots) (get_or w head_count_word 0) &&
    equal (take (words_in_slot * head_room g) (drop head_start w)) (run_words slots (head_room g))

-- For each pair, its entries from the top down alternate in kind and the lowest is normal: each is normal exactly if the pair is not
-- held below.
abbrev pub right_over : Tree → Entry → Bool
right_over t e = not (beq e.normal (held e.pair t))

unfoldable pub alternating : Tree → Bool
alternating [] = true
alternating (es ∷ t) = all (right_over t) es && alternating t

-- live is the number of normal entries less that of filters.
unfoldable pub count_kind : Bool → Tree → ℕ
count_kind normal t = length (passing (λ e. beq normal e.normal) (concat t))

unfoldable pub live_right : ℕ → Tree → Bool
live_right live t = eqb (live + count_kind false t) (count_kind true t)
