-- What the whole-store test tells of any words in which it finds a fault: the number is that of the first test in the order that fails, and the
-- place is the first of that number, so that nothing before it breaks the rule. Assumes nothing.
use Rattle.std.specs.Prelude.{ℕ, zero, suc, ◌+◌, ◌-◌, ◌≤◌, ◌≡◌, true, false, ◌↔◌, List, length, Err, Ok}
use Rattle.std.proofs.Common.{arith, sym}
use Rattle.std.proofs.Math.Path.{refl}
use Rattle.fault.specs.declared.Fault.{Fault}
use Rattle.fault.specs.declared.Part.TheVariants.{Directory, Head, Page, Writing, Kinds}
use Rattle.fault.specs.Numbers.{number_of, no_place}
use Rattle.geometry.specs.declared.Geometry.{Geometry}
use Rattle.geometry.specs.Geometry.{InRange}
use Rattle.geometry.specs.Places.{store_words}
use Rattle.rules.specs.Sound.{directory_right, head_right}
use Rattle.rules.specs.Faults.{head_fault, fault}
use Rattle.rules.specs.Faultless.{forms_sound}
use Rattle.faults.specs.Head.{HeadBreaks, head_breaks}
use Rattle.faults.specs.Pages.{Unformed, forms_first}
use Rattle.faults.specs.Miswritten.{Miswritten}
use Rattle.faults.specs.Writing.{writings_first}
use Rattle.faults.specs.Kinds.{WrongAcross, across_first}
use Rattle.faults.specs.Inside.{Inside, zeros_inside, head_inside, page_inside, writing_inside, kinds_inside}
use Rattle.faults.specs.Order.{formed_exactly, pages_formed, levels_sound, across_right, passes, FirstFails, first_directory, first_head, first_pages, first_writing, first_across, first_fails_once, found_in_directory, found_in_head, found_in_pages, found_in_writing, found_across, told_first, sound_passes, passes_sound}

-- Nothing is told exactly if all five tests pass.
pub sound_exactly : (g : Geometry) (w : List ℕ) → (fault g w ≡ Ok tt) ↔ ((n : ℕ) → number_of Directory ≤ n → n ≤ number_of Kinds → passes g w n ≡ true)
sound_exactly g w = (sound_passes g w, passes_sound g w)

module _ (g : Geometry) (w : List ℕ) (f : Fault) (told : fault g w ≡ Err f) where
  -- The number -------------------------------------------------------------------------------------------------------------------------------

  -- It is one of 10 to 14, and that of the first test in the order that fails: every test before it passes.
  pub fault_is_first : FirstFails g w (number_of f.part)
  fault_is_first = told_first g w f told

  exactly : {A : Type 0} (n : ℕ) → FirstFails g w n ↔ A → (number_of f.part ≡ n) ↔ A
  exactly n first = (λ e. first.0 (rw e at fault_is_first), λ a. first_fails_once g w (number_of f.part) n fault_is_first (first.1 a))

  -- 10 exactly if the directory is not right.
  pub directory_told : (number_of f.part ≡ number_of Directory) ↔ (directory_right g w ≡ false)
  directory_told = exactly (number_of Directory) (first_directory g w)

  -- 11 exactly if the directory is right and the head is not.
  pub head_told : (number_of f.part ≡ number_of Head) ↔ (directory_right g w ≡ true) × (head_right g w ≡ false)
  head_told = exactly (number_of Head) (first_head g w)

  -- 12 exactly if both are right and some page of some level is not formed.
  pub page_told : (number_of f.part ≡ number_of Page) ↔ (directory_right g w ≡ true) × (head_right g w ≡ true) × (pages_formed g w ≡ false)
  page_told = exactly (number_of Page) (first_pages g w)

  -- 13 exactly if all these pass and the head or some level is not sound.
  pub writing_told : (number_of f.part ≡ number_of Writing) ↔ (directory_right g w ≡ true) × (head_right g w ≡ true) × (pages_formed g w ≡ true) × (levels_sound g w ≡ false)
  writing_told = exactly (number_of Writing) (first_writing g w)

  -- 14 exactly if all these pass and kinds or live are not right.
  pub kinds_told : (number_of f.part ≡ number_of Kinds) ↔
      (directory_right g w ≡ true) × (head_right g w ≡ true) × (pages_formed g w ≡ true) × (levels_sound g w ≡ true) × (across_right g w ≡ false)
  kinds_told = exactly (number_of Kinds) (first_across g w)

  -- The place --------------------------------------------------------------------------------------------------------------------------------

  -- 10: zeros.
  pub directory_place : number_of f.part ≡ number_of Directory → f ≡ no_place Directory
  directory_place n = sym (found_in_directory g w f told (directory_told.0 n))

  -- 11: the head's first slot that breaks a rule; slot 0 for its count, and for too few fences.
  pub head_place_lem : InRange g → number_of f.part ≡ number_of Head → (f.level ≡ 0) × (f.page ≡ 0) × HeadBreaks g w f.slot
  unfolding head_fault
  head_place_lem fit n =
      let (right, wrong) = head_told.0 n in
      rw (← found_in_head g w f told right wrong) (refl, refl, head_breaks g w fit right wrong)

  -- 12: the first page that is not formed, and its first slot that breaks page form; slot 0 for its count.
  pub page_place_lem : number_of f.part ≡ number_of Page → Unformed g w f
  page_place_lem n =
      let (right, head, wrong) = page_told.0 n in
      forms_first g w f (found_in_pages g w f told right head wrong)

  -- 13: the first level that is not sound, and its first slot that is not as in the writing, or whose entry falls or is one too many.
  pub writing_place : InRange g → length w ≡ store_words g → number_of f.part ≡ number_of Writing → Miswritten g w f
  writing_place fit whole n =
      let (right, head, formed, wrong) = writing_told.0 n in
      writings_first g w fit whole right head (forms_sound g w ((formed_exactly g w).1 formed)) f (found_in_writing g w f told right head formed wrong)

  -- 14: the first entry that is wrong over the levels below it; zeros where only live is wrong.
  pub kinds_place : InRange g → number_of f.part ≡ number_of Kinds → WrongAcross g w f
  kinds_place fit n =
      let (right, head, formed, sound, wrong) = kinds_told.0 n in
      across_first g w fit f (found_across g w f told right head formed sound)

  -- Whatever the number, the place lies inside the store.
  pub place_inside : InRange g → length w ≡ store_words g → Inside g f
  place_inside fit whole = by (number_of f.part - number_of Directory) (omega (arith, fault_is_first.least))
    where
      by : (k : ℕ) → number_of f.part ≡ number_of Directory + k → Inside g f
      by zero n = rw (directory_place (omega arith)) (zeros_inside g fit Directory)
      by (suc zero) n =
          let (level, page, breaks) = head_place_lem fit (omega arith) in
          head_inside g w fit (head_told.0 (omega arith)).0 f level page breaks
      by (suc (suc zero)) n = page_inside g w fit (page_told.0 (omega arith)).0 f (page_place_lem (omega arith))
      by (suc (suc (suc zero))) n = writing_inside g w fit (writing_told.0 (omega arith)).0 f (writing_place fit whole (omega arith))
      by (suc (suc (suc (suc zero)))) n = kinds_inside g w fit (kinds_told.0 (omega arith)).0 f (kinds_place fit (omega arith))
      by (suc (suc (suc (suc (suc k))))) n = absurd (omega (arith, fault_is_first.most))
