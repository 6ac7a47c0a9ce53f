-- The numbers and places of faults, and the order in which the whole store is tested for them, on any words. The geometry is in range and the
-- length right. Assumes nothing.
use Rattle.std.specs.Prelude.{ℕ, zero, suc, ◌+◌, ◌-◌, ◌*◌, ◌/◌, ◌%◌, min, Bool, true, false, cond, ◌&&◌, List, [], ◌∷◌, ◌++◌, length, get_or, take, ltb, leb, eqb, Err, Ok}
use Rattle.laws.specs.Lists.{span, concat, all, equal}
use Rattle.laws.specs.First.{first_not}
use Rattle.fault.specs.declared.Fault.{Fault}
use Rattle.fault.specs.Judged.{Judged}
use Rattle.fault.specs.declared.Part.{Part}
use Rattle.fault.specs.declared.Part.TheVariants.{Directory, Head, Page, Writing, Kinds}
use Rattle.fault.specs.Numbers.{fault_in, no_place}
use Rattle.geometry.specs.declared.Geometry.{Geometry}
use Rattle.geometry.specs.Geometry.{bottom, capacity, most, room}
use Rattle.geometry.specs.Places.{live_word, head_count_word, head_room, level_start, slots_in_page, words_in_slot}
use Rattle.geometry.specs.Directory.{pages_of}
use Rattle.slot.specs.declared.Slot.{Slot}
use Rattle.rules.specs.Tree.{Level, Tree}
use Rattle.rules.specs.Level.{fence_kind, fences, weave}
use Rattle.rules.specs.Store.{run_words, level_words}
use Rattle.rules.specs.Sound.{head_slots, page_slots, level_slots, entries_of, first_at, tree_of, directory_right, in_order, legal, fence_pages, first_is_least, head_right, count_right, page_formed, ascending, level_laid, level_sound, head_sound, right_over, live_right}

-- What a test finds: nothing where it passes, else a fault.
abbrev pub unless : Bool → Fault → Judged
unless true f = Ok tt
unless false f = Err f

-- Of tests in order, what the first finds that finds a fault.
unfoldable pub first_fault : List Judged → Judged
first_fault [] = Ok tt
first_fault (Ok tt ∷ js) = first_fault js
first_fault (Err f ∷ js) = Err f

-- 11 and 12: the head, and the form of a page ----------------------------------------------------------------------------------------------

-- The first slot with which a run of slots breaks a rule that the slots before it keep; their number, where none does.
unfoldable pub breaking : (List Slot → Bool) → List Slot → ℕ
breaking rule ss = first_not (λ j. rule (take (suc j) ss)) (length ss)

-- What the slots of the head keep, as far as they go: fewer than H index entries, slot order, legal tags, fences in turn, and the least fence
-- first.
unfoldable pub head_rule : Geometry → List ℕ → List Slot → Bool
head_rule g w ss =
    ltb (length (entries_of ss)) g.head && in_order ss && all (legal false (pages_of g w 1)) ss &&
    equal (fence_pages ss) (span (λ p. p) 0 (length (fence_pages ss))) && first_is_least ss

-- A count out of range is told as slot 0; and so are too few fences, where no slot is at fault.
unfoldable pub head_slot : Geometry → List ℕ → ℕ
head_slot g w =
    let n = breaking (head_rule g w) (head_slots g w) in
    cond (leb (get_or w head_count_word 0) (head_room g) && ltb n (length (head_slots g w))) n 0

unfoldable pub head_fault : Geometry → List ℕ → Fault
head_fault g w = fault_in Head 0 0 (head_slot g w)

-- What the slots of a page keep: slot order and legal tags.
unfoldable pub page_rule : Geometry → List ℕ → ℕ → List Slot → Bool
page_rule g w i ss = in_order ss && all (legal true (pages_of g w (suc i))) ss

unfoldable pub page_slot : Geometry → List ℕ → ℕ → ℕ → ℕ
page_slot g w i p = cond (count_right g w i p) (breaking (page_rule g w i) (page_slots g w i p)) 0

unfoldable pub page_fault : Geometry → List ℕ → ℕ → ℕ → Fault
page_fault g w i p = fault_in Page i p (page_slot g w i p)

-- What a walk finds in a page that is not right: a fault of its form or, where it is formed, that the first-slot rule does not hold.
unfoldable pub walk_fault : Geometry → List ℕ → ℕ → ℕ → Fault
walk_fault g w i p = cond (page_formed g w i p) (fault_in Writing i p 0) (page_fault g w i p)

-- 13: all else in a level's writing ----------------------------------------------------------------------------------------------------------

-- The slots of a level are numbered through its pages, and the head is one page.
unfoldable pub page_size : Geometry → ℕ → ℕ
page_size g zero = head_room g
page_size g (suc i) = slots_in_page

abbrev pub placed : Part → Geometry → ℕ → ℕ → Fault
placed part g i n = fault_in part i (n / page_size g i) (n % page_size g i)

-- The numbers of the slots, from n on, that are index entries; those of a level.
unfoldable pub entry_numbers : ℕ → List Slot → List ℕ
entry_numbers n [] = []
entry_numbers n (s ∷ ss) = elim (fence_kind s.kind) [ true ↦ entry_numbers (suc n) ss | false ↦ n ∷ entry_numbers (suc n) ss ]

unfoldable pub entry_places : Geometry → List ℕ → ℕ → List ℕ
entry_places g w zero = entry_numbers 0 (head_slots g w)
entry_places g w (suc i) = concat (span (λ p. entry_numbers (slots_in_page * p) (page_slots g w (suc i) p)) 0 (pages_of g w (suc i)))

-- The slot that word j of pages of a size belongs to. A page's count belongs to its first slot.
unfoldable pub slot_of_word : ℕ → ℕ → ℕ
slot_of_word size j = let n = 1 + words_in_slot * size in size * (j / n) + (j % n - 1) / words_in_slot

-- The slot where the words of n pages of a size first leave the words given; past the pages, where they do not.
unfoldable pub leaving : List ℕ → ℕ → ℕ → ℕ → List ℕ → ℕ
leaving w start size n words = slot_of_word size (first_not (λ j. eqb (get_or w (start + j) 0) (get_or words j 0)) ((1 + words_in_slot * size) * n))

-- The words that the head should have, from its count on, and where they are left.
unfoldable pub head_words : Geometry → List ℕ → List ℕ
head_words g w =
    let slots = weave (entries_of (head_slots g w)) (fences (first_at g w 1) (pages_of g w 1)) in
    length slots ∷ run_words slots (head_room g)

unfoldable pub head_leaves : Geometry → List ℕ → ℕ
head_leaves g w = leaving w head_count_word (head_room g) 1 (head_words g w)

-- So with a level: the writing of its own entries in the order in which they stand.
unfoldable pub level_leaves : Geometry → List ℕ → ℕ → ℕ
level_leaves g w i = leaving w (level_start g i) slots_in_page (room g i) (level_words (level_laid g w i (entries_of (level_slots g w i))) (room g i))

-- The first entry that is not above the last one; and the first that is one too many.
unfoldable pub rising : Level → ℕ
rising es = first_not (λ m. ascending (take (suc m) es)) (length es)

unfoldable pub entries_most : Geometry → ℕ → ℕ
entries_most g i = elim (eqb i (bottom g)) [ true ↦ most g | false ↦ capacity g i - 1 ]

-- The leftmost of these three. Where there is none, only the directory's page count is not the writing's: the first page past it.
unfoldable pub level_wrong : Geometry → List ℕ → ℕ → ℕ
level_wrong g w i =
    let end = slots_in_page * room g i in
    let entry = min (rising (entries_of (level_slots g w i))) (entries_most g i) in
    let n = min (level_leaves g w i) (get_or (entry_places g w i) entry end) in
    cond (ltb n end) n (slots_in_page * pages_of g w i)

-- 14: kinds, alternation and live across levels --------------------------------------------------------------------------------------------------

-- Of a level over those below it, the first entry that is normal over a held pair, or a filter over none.
unfoldable pub wrong_entry : Level → Tree → ℕ
wrong_entry [] t = 0
wrong_entry (e ∷ es) t = elim (right_over t e) [ true ↦ suc (wrong_entry es t) | false ↦ 0 ]

unfoldable pub kinds_faults : Geometry → List ℕ → ℕ → Tree → List Judged
kinds_faults g w i [] = []
kinds_faults g w i (es ∷ t) =
    unless (all (right_over t) es) (placed Kinds g i (get_or (entry_places g w i) (wrong_entry es t) 0)) ∷ kinds_faults g w (suc i) t

-- The whole store: the number decides first -----------------------------------------------------------------------------------------------------

unfoldable pub form_fault : Geometry → List ℕ → ℕ → Judged
form_fault g w i = first_fault (span (λ p. unless (page_formed g w i p) (page_fault g w i p)) 0 (pages_of g w i))

unfoldable pub form_faults : Geometry → List ℕ → Judged
form_faults g w = first_fault (span (form_fault g w) 1 (bottom g))

unfoldable pub writing_fault : Geometry → List ℕ → ℕ → Judged
writing_fault g w i = unless (level_sound g w i) (placed Writing g i (level_wrong g w i))

unfoldable pub writing_faults : Geometry → List ℕ → Judged
writing_faults g w = first_fault (unless (head_sound g w) (placed Writing g 0 (head_leaves g w)) ∷ span (writing_fault g w) 1 (bottom g))

unfoldable pub across_fault : Geometry → List ℕ → Judged
across_fault g w =
    let t = tree_of g w in
    first_fault (kinds_faults g w 0 t ++ unless (live_right (get_or w live_word 0) t) (no_place Kinds) ∷ [])

unfoldable pub fault : Geometry → List ℕ → Judged
fault g w =
    let head = unless (head_right g w) (head_fault g w) in
    first_fault (unless (directory_right g w) (no_place Directory) ∷ head ∷ form_faults g w ∷ writing_faults g w ∷ across_fault g w ∷ [])
