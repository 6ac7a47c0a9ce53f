-- 13: where the writing of the head or of a level is not that of its own entries: what it means that a slot is the first. Assumes nothing.
use Rattle.std.specs.Prelude.{ℕ, suc, ◌+◌, ◌-◌, ◌*◌, ◌≤◌, ◌<◌, ◌≡◌, refl, Bool, true, false, List, [], ◌∷◌, length, get_or, take}
use Rattle.std.proofs.Common.{sym, ap, ◌∙◌}
use Rattle.fault.specs.declared.Fault.{Fault}
use Rattle.geometry.specs.declared.Geometry.{Geometry}
use Rattle.geometry.specs.Geometry.{room}
use Rattle.geometry.specs.Places.{head_count_word, head_room, level_start, slots_in_page, words_in_page}
use Rattle.geometry.specs.Directory.{pages_of}
use Rattle.slot.specs.Pair.{before}
use Rattle.rules.specs.Tree.{Entry, Level}
use Rattle.rules.specs.Level.{pages_for}
use Rattle.rules.specs.Store.{level_words}
use Rattle.rules.specs.Sound.{level_slots, entries_of, ascending, level_laid, within_capacity, level_sound, head_sound}
use Rattle.rules.specs.Faults.{page_size, head_words, entries_most}
use Rattle.faults.specs.Chains.{chain, chain_breaks}
use Rattle.faults.specs.Broken.{BreaksAt}
use Rattle.faults.specs.Places.{slot_number}
use Rattle.faults.specs.Standing.{entry_place, StandsAt}
use Rattle.faults.specs.Words.{SameBefore, Differs}

-- The head: every word that belongs to a slot before slot n is as in the writing of its own entries, and a word of slot n is not.
pub record HeadMiswritten (g : Geometry) (w : List ℕ) (n : ℕ) : Type 0 where
  pub unsound : head_sound g w ≡ false
  pub within : n < head_room g
  pub words_before : SameBefore w head_count_word (head_room g) 1 (head_words g w) n
  pub differs : Differs w head_count_word (head_room g) 1 (head_words g w) n

-- The words that level i should have: the writing of its own entries in the order in which they stand.
unfoldable pub own_words : Geometry → List ℕ → ℕ → List ℕ
own_words g w i = level_words (level_laid g w i (entries_of (level_slots g w i))) (room g i)

-- What is wrong at slot n of level i: a word of the slot is not as in the writing; the entry there is not above the last one; it is one too many
-- for the level's capacity; or nothing of these is so anywhere, the writing has more pages than the directory counts, and the slot is the first
-- of the first page past the count.
pub data LevelBreaks (g : Geometry) (w : List ℕ) (i n : ℕ) : Type 0 where
  word_differs : Differs w (level_start g i) slots_in_page (room g i) (own_words g w i) n → LevelBreaks g w i n
  entry_falls : (m : ℕ) → StandsAt g w i (entries_of (level_slots g w i)) m n → BreaksAt ascending (entries_of (level_slots g w i)) m → LevelBreaks g w i n
  entry_too_many : StandsAt g w i (entries_of (level_slots g w i)) (entries_most g i) n → LevelBreaks g w i n
  pages_uncounted : ((j : ℕ) → j < words_in_page * room g i → get_or w (level_start g i + j) 0 ≡ get_or (own_words g w i) j 0) →
      ascending (entries_of (level_slots g w i)) ≡ true → within_capacity g i (length (entries_of (level_slots g w i))) ≡ true →
      pages_of g w i < pages_for (length (level_laid g w i (entries_of (level_slots g w i)))) → n ≡ slots_in_page * pages_of g w i → LevelBreaks g w i n

-- Level i is the first that is not sound. Every word of it that belongs to a slot before slot n is as in the writing, and no entry of it that
-- stands before slot n falls or is one too many; and slot n is wrong.
pub record LevelMiswritten (g : Geometry) (w : List ℕ) (i n : ℕ) : Type 0 where
  pub below_head : 1 ≤ i
  pub level_exists : i < g.levels
  pub head : head_sound g w ≡ true
  pub above : (j : ℕ) → 1 ≤ j → j < i → level_sound g w j ≡ true
  pub unsound : level_sound g w i ≡ false
  pub words_before : SameBefore w (level_start g i) slots_in_page (room g i) (own_words g w i) n
  pub entries_before : (m : ℕ) → m < length (entries_of (level_slots g w i)) → entry_place g w i m < n →
      (ascending (take (suc m) (entries_of (level_slots g w i))) ≡ true) × (m < entries_most g i)
  pub breaks : LevelBreaks g w i n

-- Where a fault of writing stands: in the head, or in a level below it.
pub data Miswritten (g : Geometry) (w : List ℕ) (f : Fault) : Type 0 where
  in_head : f.level ≡ 0 → f.page ≡ 0 → HeadMiswritten g w f.slot → Miswritten g w f
  in_level : f.slot < page_size g f.level → LevelMiswritten g w f.level (slot_number g f) → Miswritten g w f

-- An entry with which a level no longer ascends is not above the entry before it.
rises_chain : (es : Level) → ascending es ≡ chain (λ e f. before e.pair f.pair) es
unfolding ascending chain
rises_chain [] = refl
rises_chain (e ∷ []) = refl
rises_chain (e ∷ f ∷ es) = ap (λ (c : Bool). elim (before e.pair f.pair) as (λ _. Bool) [ true ↦ c | false ↦ false ]) (rises_chain (f ∷ es))

pub entry_not_above : (es : Level) (m : ℕ) → BreaksAt ascending es m → (d : Entry) → (1 ≤ m) × (before (get_or es (m - 1) d).pair (get_or es m d).pair ≡ false)
entry_not_above es m at d =
    chain_breaks (λ e f. before e.pair f.pair) es m
    (record {
      within = at.within;
      before = λ n u. sym (rises_chain (take (suc n) es)) ∙ at.before n u;
      breaks = sym (rises_chain (take (suc m) es)) ∙ at.breaks;
    })
    d
