-- The texts of a sentence, of a fault and of a reply by the way that the code takes to each. Assumes nothing.
use Rattle.std.specs.Prelude.{ℕ, ◌≤◌, ◌<◌, ◌≡◌, refl, Bool, true, false, cond, eqb, List}
use Rattle.std.proofs.Common.{◌∙◌, arith}
use borrow.Author.Tests.{eq-eqb, ne_eqb, lt-ltb, le-ltb}
use Rattle.fault.specs.declared.Part.{Part}
use Rattle.fault.specs.declared.Part.TheVariants.{Directory, Head, Page, Writing, Kinds}
use Rattle.fault.specs.Numbers.{number_of, fault_in}
use Rattle.slot.specs.declared.Pair.{Pair}
use Rattle.trail_words.specs.Places.{trail_levels, held_in, decided_in, fault_level_in, fault_page_in, fault_slot_in, entry_in, filter_word}
use Rattle.why_lines.specs.Fault.{directory_text, head_text, page_text, writing_text, placeless, live_text, kind_text, across_text, part_told, damage_text, fault_text, fault_told}
use Rattle.why_lines.specs.Lines.{held_text, removed_text, none_text, refusal_text, entry_of, sentence_text, answer_text, range_text, length_text, reply_text}

-- The entry in a level that has a line or none.
module _ (trail : List ℕ) (level : ℕ) where
  pub entry_within : level < trail_levels → entry_in trail level ≡ entry_of trail level
  unfolding entry_of
  entry_within h = rw (lt-ltb level trail_levels h)

  pub entry_beyond : trail_levels ≤ level → 0 ≡ entry_of trail level
  unfolding entry_of
  entry_beyond h = rw (le-ltb level trail_levels h)

-- A sentence.
module _ (trail : List ℕ) (pair : Pair) where
  pub sentence_held : held_in trail ≡ 1 → held_text pair (decided_in trail) ≡ sentence_text trail pair
  unfolding sentence_text
  sentence_held e = rw (eq-eqb (held_in trail) 1 e)

  pub sentence_refused : (held_in trail ≡ 1 → ⊥) → (entry : ℕ) → entry ≡ entry_of trail (decided_in trail) →
      refusal_text pair (decided_in trail) entry ≡ sentence_text trail pair
  unfolding sentence_text
  sentence_refused n entry e = rw (ne_eqb (held_in trail) 1 n, e)

module _ (pair : Pair) (decided entry : ℕ) where
  pub refusal_removed : entry ≡ filter_word → removed_text pair decided ≡ refusal_text pair decided entry
  unfolding refusal_text
  refusal_removed e = rw (eq-eqb entry filter_word e)

  pub refusal_none : (entry ≡ filter_word → ⊥) → none_text pair ≡ refusal_text pair decided entry
  unfolding refusal_text
  refusal_none n = rw (ne_eqb entry filter_word n)

-- What is damaged across levels, and what is damaged by the number of the reply.
module _ (level page slot : ℕ) where
  pub across_live : {told : Bool} → told ≡ placeless level page slot → told ≡ true → live_text ≡ across_text level page slot
  unfolding across_text
  across_live e t = rw (← e, t)

  pub across_kind : {told : Bool} → told ≡ placeless level page slot → told ≡ false → kind_text level page slot ≡ across_text level page slot
  unfolding across_text
  across_kind e t = rw (← e, t)

  module _ (number : ℕ) where
    pub damage_directory : number ≡ 10 → directory_text ≡ damage_text number level page slot
    unfolding damage_text
    damage_directory e = rw e

    pub damage_head : number ≡ 11 → head_text slot ≡ damage_text number level page slot
    unfolding damage_text
    damage_head e = rw e

    pub damage_page : number ≡ 12 → page_text level page slot ≡ damage_text number level page slot
    unfolding damage_text
    damage_page e = rw e

    pub damage_writing : number ≡ 13 → writing_text level page slot ≡ damage_text number level page slot
    unfolding damage_text
    damage_writing e = rw e

    pub damage_across : (number ≡ 10 → ⊥) → (number ≡ 11 → ⊥) → (number ≡ 12 → ⊥) → (number ≡ 13 → ⊥) →
        across_text level page slot ≡ damage_text number level page slot
    unfolding damage_text
    damage_across a b c d = rw (ne_eqb number 10 a, ne_eqb number 11 b, ne_eqb number 12 c, ne_eqb number 13 d)

-- What is damaged, by the part that the number of the reply tells.
parts_agree : (a b c d : Bool) (level page slot : ℕ) → damage_text (number_of (cond a Directory (cond b Head (cond c Page (cond d Writing Kinds))))) level page slot ≡
    cond a directory_text (cond b (head_text slot) (cond c (page_text level page slot) (cond d (writing_text level page slot) (across_text level page slot))))
unfolding damage_text
parts_agree true b c d level page slot = refl
parts_agree false true c d level page slot = refl
parts_agree false false true d level page slot = refl
parts_agree false false false true level page slot = refl
parts_agree false false false false level page slot = refl

pub damage_part : (number level page slot : ℕ) → damage_text (number_of (part_told number)) level page slot ≡ damage_text number level page slot
unfolding damage_text
damage_part number level page slot = parts_agree (eqb number 10) (eqb number 11) (eqb number 12) (eqb number 13) level page slot

pub part_told_lem : (number level page slot : ℕ) → fault_told number (fault_in (part_told number) level page slot) ≡ fault_text number level page slot
unfolding fault_told fault_text
part_told_lem number level page slot = rw (damage_part number level page slot)

-- A reply.
module _ (number : ℕ) (trail : List ℕ) (pair : Pair) where
  pub reply_answer : number ≡ 0 → answer_text trail pair ≡ reply_text number trail pair
  unfolding reply_text
  reply_answer e = rw e

  pub reply_range : number ≡ 1 → range_text ≡ reply_text number trail pair
  unfolding reply_text
  reply_range e = rw e

  pub reply_length : number ≡ 5 → length_text ≡ reply_text number trail pair
  unfolding reply_text
  reply_length e = rw e

  pub reply_fault : (number ≡ 0 → ⊥) → (number ≡ 1 → ⊥) → (number ≡ 5 → ⊥) →
      fault_text number (fault_level_in trail) (fault_page_in trail) (fault_slot_in trail) ≡ reply_text number trail pair
  unfolding reply_text
  reply_fault a b c = rw (ne_eqb number 0 a, ne_eqb number 1 b, ne_eqb number 5 c)

  -- The fault in the first words of the trail, of the part that the number tells.
  pub reply_fault_told : (number ≡ 0 → ⊥) → (number ≡ 1 → ⊥) → (number ≡ 5 → ⊥) →
      fault_told number (fault_in (part_told number) (fault_level_in trail) (fault_page_in trail) (fault_slot_in trail)) ≡ reply_text number trail pair
  reply_fault_told a b c = part_told_lem number (fault_level_in trail) (fault_page_in trail) (fault_slot_in trail) ∙ reply_fault a b c

least_number : (part : Part) → 10 ≤ number_of part
least_number Directory = omega arith
least_number Head = omega arith
least_number Page = omega arith
least_number Writing = omega arith
least_number Kinds = omega arith

-- The fault of a part, in the first words of the trail.
pub reply_fault_of : (part : Part) (trail : List ℕ) (pair : Pair) →
    fault_told (number_of part) (fault_in part (fault_level_in trail) (fault_page_in trail) (fault_slot_in trail)) ≡ reply_text (number_of part) trail pair
unfolding fault_told fault_text
reply_fault_of part trail pair =
    let least = least_number part in
    reply_fault (number_of part) trail pair (λ e. omega (arith, least, e)) (λ e. omega (arith, least, e)) (λ e. omega (arith, least, e))
