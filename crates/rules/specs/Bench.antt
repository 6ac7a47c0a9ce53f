-- The bench table: its starred cases, its list case and the errors that look right, computed by the rules as one statement over one list
-- of cases.
-- Assumes nothing.
use Rattle.std.specs.Prelude.{ℕ, ◌+◌, ◌*◌, ◌≡◌, refl, Bool, true, false, List, [], ◌∷◌, ◌++◌, map, length, get_or, replicate, Err, Ok}
use Rattle.laws.specs.Lists.{span, concat, passing, all, equal}
use Rattle.geometry.specs.declared.Geometry.{Geometry}
use Rattle.geometry.specs.Geometry.{capacity, most, total, room_over, room}
use Rattle.geometry.specs.Places.{room_before, head_room, level_start, page_place, slot_place}
use Rattle.slot.specs.declared.Slot.{Slot}
use Rattle.slot.specs.Pair.{pair, rank, least, before, same}
use Rattle.slot.specs.Tag.{kind_named, kind_of, page_of, tag_of}
use Rattle.slot.specs.Slot.{words_of, slot_at}
use Rattle.rules.specs.Level.{index, external, internal, pages_for, first_among, fence_of, fences, place, weave, paged, over, lay_on, laid, head_on, slots_of}
use Rattle.rules.specs.Level.{page_of as page_slots_of}
use Rattle.rules.specs.Finding.{find, held, at_most, step_back, tell_from, tell, walk, ask}
use Rattle.rules.specs.Merging.{toggle, join, merge, pages_written, settle, toggle_head, edit, formatted, entries, Outcome, refused, done, put, remove}
use Rattle.rules.specs.Listing.{insert, pairs_with, pairs_of, held_between, pair_words, list}
use Rattle.rules.specs.Store.{run_words, page_words, level_words, page_count, directory, laid_out, writing}
use Rattle.rules.specs.Sound.{slots_from, head_slots, count_at, page_slots, level_slots, entries_of, first_at, tree_of, pages_right, directory_right, follows, in_order, legal, fence_pages, first_is_least, head_right, count_right, page_formed, ascending, level_laid, within_capacity, level_sound, head_sound, alternating, count_kind, live_right}
use Rattle.fault.specs.Numbers.{number_of}
use Rattle.fault.specs.Judged.{Judged}
use Rattle.rules.specs.Faults.{first_fault, kinds_faults, form_fault, form_faults, writing_fault, writing_faults, across_fault, fault}
use Rattle.geometry.specs.Directory.{pages_of}
use Rattle.rules.specs.Requests.{Request, putting, dropping, step, run, final, accepted, writes}
use Rattle.rules.specs.Allowance.{allowed_to, allowed}

-- Badges from a first on, n of them, at one floor.
unfoldable pub puts : ℕ → ℕ → ℕ → List Request
puts floor first n = span (λ b. putting (pair b floor)) first n

unfoldable pub drops : ℕ → ℕ → ℕ → List Request
drops floor first n = span (λ b. dropping (pair b floor)) first n

-- What a case looks at: of the calls, their replies, deepest levels and pages written; of the end, live pairs, entries in each level, page
-- counts, a slot's three words, a word of the store, an answer with the pages read, a list of badges at floor 0 into a slice, the fault of the
-- whole store; pages written in all and those allowed; a fence's tag and its page read back.
pub data Look : Type 0 where
  replies : Look
  deepest : Look
  pages : Look
  live : Look
  counts : Look
  page_counts : Look
  slot : ℕ → ℕ → ℕ → Look
  word : ℕ → Look
  asked : ℕ → Look
  listed : ℕ → ℕ → List ℕ → Look
  soundness : Look
  all_pages : Look
  allowance : Look
  fence_to : ℕ → Look

abbrev pub bit : Bool → ℕ
bit true = 1
bit false = 0

-- 0 for a sound store, else one more than the level told.
abbrev pub fault_number : Judged → ℕ
fault_number (Ok tt) = 0
fault_number (Err f) = number_of f.part

-- Page counts of levels 1 on.
unfoldable pub pages_in : List (List Slot) → List ℕ
pages_in [] = []
pages_in (head ∷ lower) = map (λ ss. pages_for (length ss)) lower

unfoldable pub seen : Geometry → List Outcome → Look → List ℕ
seen g os replies = map (λ o. o.reply) os
seen g os deepest = map (λ o. o.deepest) os
seen g os pages = map (λ o. length o.written) os
seen g os live = (final (formatted g) os).live ∷ []
seen g os counts = entries (final (formatted g) os).tree
seen g os page_counts = pages_in (slots_of (final (formatted g) os).tree)
seen g os (slot i p j) = words_of (get_or (get_or (slots_of (final (formatted g) os).tree) i []) (21 * p + j) (external least 0))
seen g os (word i) = get_or (writing g (final (formatted g) os)) i 0 ∷ []
seen g os (asked b) = let a = ask (pair b 0) (slots_of (final (formatted g) os).tree) in bit a.is_held ∷ a.decider ∷ a.read
seen g os (listed first second slice) =
    let l = list (pair first 0) (pair second 0) (final (formatted g) os).tree slice in
    l.pairs ∷ l.mark ∷ l.words
seen g os soundness = let w = writing g (final (formatted g) os) in fault_number (fault g w) ∷ length w ∷ []
seen g os all_pages = length (writes os) ∷ []
seen g os allowance = allowed g (length (accepted os)) ∷ []
seen g os (fence_to n) = let tag = get_or (words_of (external least n)) 2 0 in tag ∷ (page_of tag).0 ∷ []

-- A case: a geometry, calls, and what is seen afterwards, look by look.
pub record Case : Type 0 where
  pub geometry : Geometry
  pub calls : List Request
  pub looks : List Look
  pub shows : List (List ℕ)

abbrev pub sized : ℕ → ℕ → ℕ → Geometry
sized h k l = record { head = h; ratio = k; levels = l }

unfoldable pub observed : Case → List (List ℕ)
observed c = map (seen c.geometry (run c.geometry (formatted c.geometry) c.calls)) c.looks

-- 1. 4,2,3: put badges 1..4: the fourth merges into level 1, one page.
unfoldable pub case1 : Case
case1 = record {
  geometry = sized 4 2 3;
  calls = puts 0 1 4;
  looks = replies ∷ deepest ∷ pages ∷ counts ∷ soundness ∷ [];
  shows = (0 ∷ 0 ∷ 0 ∷ 0 ∷ []) ∷ (0 ∷ 0 ∷ 0 ∷ 1 ∷ []) ∷ (0 ∷ 0 ∷ 0 ∷ 1 ∷ []) ∷ (0 ∷ 4 ∷ 0 ∷ 0 ∷ []) ∷ (0 ∷ 152 ∷ []) ∷ [];
}

-- 2. Then drop 2: live 3, head 1; put 2: live 4, head 0, no merge.
unfoldable pub case2 : Case
case2 = record {
  geometry = sized 4 2 3;
  calls = puts 0 1 4 ++ drops 0 2 1;
  looks = live ∷ counts ∷ [];
  shows = (3 ∷ []) ∷ (1 ∷ 4 ∷ 0 ∷ 0 ∷ []) ∷ [];
}

unfoldable pub case2' : Case
case2' = record {
  geometry = sized 4 2 3;
  calls = puts 0 1 4 ++ drops 0 2 1 ++ puts 0 2 1;
  looks = live ∷ counts ∷ deepest ∷ [];
  shows = (4 ∷ []) ∷ (0 ∷ 4 ∷ 0 ∷ 0 ∷ []) ∷ (0 ∷ 0 ∷ 0 ∷ 1 ∷ 0 ∷ 0 ∷ []) ∷ [];
}

-- 3. After 1, drop 1..4: live 0, level 1 has 0 entries, one page written.
unfoldable pub case3 : Case
case3 = record {
  geometry = sized 4 2 3;
  calls = puts 0 1 4 ++ drops 0 1 4;
  looks = live ∷ counts ∷ pages ∷ [];
  shows = (0 ∷ []) ∷ (0 ∷ 0 ∷ 0 ∷ 0 ∷ []) ∷ (0 ∷ 0 ∷ 0 ∷ 1 ∷ 0 ∷ 0 ∷ 0 ∷ 1 ∷ []) ∷ [];
}

-- 4. 4,2,3: put 1..8: pages 4 in all; condition 3 allows 4.
unfoldable pub case4 : Case
case4 = record {
  geometry = sized 4 2 3;
  calls = puts 0 1 8;
  looks = all_pages ∷ allowance ∷ [];
  shows = (4 ∷ []) ∷ (4 ∷ []) ∷ [];
}

-- 5. Put 1..16: pages 8, allowed 8. Put 17: reply 4. Put 16: reply 2. Drop 1, put 17: done.
unfoldable pub case5 : Case
case5 = record {
  geometry = sized 4 2 3;
  calls = puts 0 1 16;
  looks = all_pages ∷ allowance ∷ live ∷ [];
  shows = (8 ∷ []) ∷ (8 ∷ []) ∷ (16 ∷ []) ∷ [];
}

unfoldable pub case5' : Case
case5' = record {
  geometry = sized 4 2 3;
  calls = puts 0 1 16 ++ puts 0 17 1 ++ puts 0 16 1 ++ drops 0 1 1 ++ puts 0 17 1;
  looks = replies ∷ live ∷ [];
  shows = (replicate 16 0 ++ 4 ∷ 2 ∷ 0 ∷ 0 ∷ []) ∷ (16 ∷ []) ∷ [];
}

-- 6. 21,2,2: put 1..42: pages 1, then 2; head fences (0,0) to page 0 and (22,0) to page 1. Allowed 4.
unfoldable pub case6 : Case
case6 = record {
  geometry = sized 21 2 2;
  calls = puts 0 1 42;
  looks = pages ∷ counts ∷ slot 0 0 0 ∷ slot 0 0 1 ∷ allowance ∷ [];
  shows = (replicate 20 0 ++ 1 ∷ replicate 20 0 ++ 2 ∷ []) ∷ (0 ∷ 42 ∷ 0 ∷ 0 ∷ []) ∷ (0 ∷ 0 ∷ 2 ∷ []) ∷ (22 ∷ 0 ∷ 6 ∷ []) ∷ (4 ∷ []) ∷ [];
}

-- 7. There, ask 21 reads page 0, ask 22 page 1, ask 43 page 1 and says no.
unfoldable pub case7 : Case
case7 = record {
  geometry = sized 21 2 2;
  calls = puts 0 1 42;
  looks = asked 21 ∷ asked 22 ∷ asked 43 ∷ [];
  shows = (1 ∷ 1 ∷ 0 ∷ []) ∷ (1 ∷ 1 ∷ 1 ∷ []) ∷ (0 ∷ 2 ∷ 1 ∷ []) ∷ [];
}

-- 8. 10,4,3: put 1..30, floor 5: level 1 has two pages; the second opens with internal fence (21,5) to page 0; pages 4, allowed 9.
unfoldable pub case8 : Case
case8 = record {
  geometry = sized 10 4 3;
  calls = puts 5 1 30;
  looks = page_counts ∷ slot 1 1 0 ∷ all_pages ∷ allowance ∷ soundness ∷ [];
  shows = (2 ∷ 1 ∷ []) ∷ (21 ∷ 5 ∷ 3 ∷ []) ∷ (4 ∷ []) ∷ (9 ∷ []) ∷ (0 ∷ 752 ∷ []) ∷ [];
}

-- 9. A fence to page 300 has tag 1202, and reads back as 300.
unfoldable pub case9 : Case
case9 = record { geometry = sized 4 2 3; calls = []; looks = fence_to 300 ∷ []; shows = (1202 ∷ 300 ∷ []) ∷ [] }

-- 11. List 1..42 of case 6 into 5 words: two pairs, mark 1, fifth word as before. (Run as well; here it holds the rule of the list.)
unfoldable pub case11 : Case
case11 = record {
  geometry = sized 21 2 2;
  calls = puts 0 1 42;
  looks = listed 1 42 (7 ∷ 7 ∷ 7 ∷ 7 ∷ 7 ∷ []) ∷ listed 41 99 (7 ∷ 7 ∷ 7 ∷ 7 ∷ 7 ∷ 7 ∷ []) ∷ listed 2 1 (7 ∷ []) ∷ [];
  shows = (2 ∷ 1 ∷ 1 ∷ 0 ∷ 2 ∷ 0 ∷ 7 ∷ []) ∷ (2 ∷ 0 ∷ 41 ∷ 0 ∷ 42 ∷ 0 ∷ 7 ∷ 7 ∷ []) ∷ (0 ∷ 1 ∷ 7 ∷ []) ∷ [];
}

-- Errors that look right. Put 1 and 2, which sink to level 2; drop 1, whose filter sinks to level 1 and stays there; put 1, which sinks
-- on it: the two cancel.
unfoldable pub cancels : Case
cancels = record {
  geometry = sized 1 2 3;
  calls = puts 0 1 2 ++ drops 0 1 1 ++ puts 0 1 1;
  looks = counts ∷ asked 1 ∷ [];
  shows = (0 ∷ 0 ∷ 2 ∷ 0 ∷ []) ∷ (1 ∷ 2 ∷ 0 ∷ 0 ∷ []) ∷ [];
}

-- Before that put the filter is unmatched, and has to stay: the dropped badge does not come back.
unfoldable pub stays_dropped : Case
stays_dropped = record {
  geometry = sized 1 2 3;
  calls = puts 0 1 2 ++ drops 0 1 1;
  looks = counts ∷ asked 1 ∷ asked 2 ∷ listed 0 9 (7 ∷ 7 ∷ 7 ∷ 7 ∷ []) ∷ soundness ∷ [];
  shows = (0 ∷ 1 ∷ 2 ∷ 0 ∷ []) ∷ (0 ∷ 1 ∷ 0 ∷ []) ∷ (1 ∷ 2 ∷ 0 ∷ 0 ∷ []) ∷ (1 ∷ 0 ∷ 2 ∷ 0 ∷ 7 ∷ 7 ∷ []) ∷ (0 ∷ 143 ∷ []) ∷ [];
}

-- A badge below the least one held has a page too.
unfoldable pub smaller_badge : Case
smaller_badge = record {
  geometry = sized 4 2 3;
  calls = puts 0 5 4;
  looks = asked 1 ∷ asked 5 ∷ [];
  shows = (0 ∷ 3 ∷ 0 ∷ 0 ∷ []) ∷ (1 ∷ 1 ∷ 0 ∷ []) ∷ [];
}

-- At equal pairs a fence stands before an index entry: put 1..40 sinks to the two pages of level 2, and of the filters 20..29 that
-- then stand in level 1 the one of 22 comes after the fence of page 1. Words 47 and 368 are the head's last one and the first one of level 2's
-- page 2, both unused.
unfoldable pub fence_first : Case
fence_first = record {
  geometry = sized 10 4 3;
  calls = puts 0 1 40 ++ drops 0 20 10;
  looks = page_counts ∷ slot 1 0 3 ∷ slot 1 0 4 ∷ word 47 ∷ word 368 ∷ asked 22 ∷ soundness ∷ [];
  shows = (1 ∷ 2 ∷ []) ∷ (22 ∷ 0 ∷ 6 ∷ []) ∷ (22 ∷ 0 ∷ 1 ∷ []) ∷ (4294967295 ∷ []) ∷ (4294967295 ∷ []) ∷ (0 ∷ 1 ∷ 0 ∷ []) ∷ (0 ∷ 752 ∷ []) ∷ [];
}

unfoldable pub table : List Case
table =
    case1 ∷ case2 ∷ case2' ∷ case3 ∷ case4 ∷ case5 ∷ case5' ∷ case6 ∷ case7 ∷ case8 ∷ case9 ∷ case11 ∷ cancels ∷ stays_dropped ∷ smaller_badge ∷ fence_first ∷ []

-- The rules give what the table says.
pub bench_table : map observed table ≡ map (λ c. c.shows) table
unfolding step run final accepted writes puts drops pages_in seen observed case1 case2 case2' case3 case4 case5 case5' case6 case7 case8 case9 case11 cancels stays_dropped smaller_badge fence_first table span concat passing capacity most total room_over room room_before rank least before same kind_named kind_of page_of tag_of words_of index external internal pages_for first_among fence_of fences place weave paged over lay_on laid head_on slots_of page_slots_of find held at_most step_back tell_from tell walk ask toggle join merge pages_written settle toggle_head edit formatted entries refused done put remove allowed_to allowed head_room level_start page_place slot_place slot_at insert pairs_with pairs_of held_between pair_words list run_words page_words level_words page_count directory laid_out writing pages_of slots_from head_slots count_at page_slots level_slots entries_of first_at tree_of pages_right directory_right follows in_order legal fence_pages first_is_least head_right count_right page_formed ascending level_laid within_capacity level_sound head_sound alternating count_kind live_right first_fault kinds_faults form_fault form_faults writing_fault writing_faults across_fault fault all equal
bench_table = refl
