-- The five tests of the whole store in their order, each by the number of the fault that it finds, and the one that finds the fault told.
-- Assumes nothing.
use Prim.Native.Nat.{ℕ, zero, suc, ◌+◌, ◌-◌, ◌≤◌, ◌<◌}
use Rattle.std.proofs.Common.{zero-add, sym, ap, ◌∙◌, ltb-true, ltb-false}
use native.Mathlib.Omega.{arith}
use Rattle.std.specs.Prelude.{◌≡◌, Bool, true, ◌&&◌, ◌↔◌, get_or, ltb, Err, Ok}
use Rattle.std.proofs.Math.Path.{refl}
use Rattle.std.proofs.Math.Bool.{false}
use Rattle.std.proofs.lemmas.Bool.{false≢true}
use mathlib.Core.List.{List, [], ◌∷◌, ◌++◌}
use Rattle.std.proofs.Math.ListN.{length, get_or-append}
use Rattle.std.proofs.Math.Seq.{get_or-append_seam}
use Rattle.laws.specs.Tests.{and_left, and_right}
use Rattle.laws.specs.Lists.{span, all, length_span, get_d_span, all_at}
use Rattle.laws.specs.Flat.{all_span}
use Rattle.fault.specs.declared.Fault.{Fault}
use Rattle.fault.specs.Judged.{Judged}
use Rattle.fault.specs.declared.Part.TheVariants.{Directory, Head, Page, Writing, Kinds}
use Rattle.fault.specs.Numbers.{number_of, no_place}
use Rattle.geometry.specs.declared.Geometry.{Geometry}
use Rattle.geometry.specs.Geometry.{bottom}
use Rattle.geometry.specs.Places.{live_word}
use Rattle.geometry.specs.Directory.{pages_of}
use Rattle.rules.specs.Sound.{tree_of, directory_right, head_right, page_formed, level_sound, head_sound, alternating, live_right}
use Rattle.rules.specs.Faults.{first_fault, head_fault, form_faults, writing_faults, across_fault, fault}
use Rattle.rules.specs.Faultless.{all_numbered, fault_sound, forms_sound, sound_forms, writings_sound, sound_writings, across_sound, sound_across}
use Rattle.faults.specs.Found.{only_found}
use Rattle.faults.specs.Pages.{forms_part}
use Rattle.faults.specs.Writing.{writings_part}
use Rattle.faults.specs.Kinds.{across_part}

-- Every page of every level below the head is formed.
unfoldable pub pages_formed : Geometry → List ℕ → Bool
pages_formed g w = all (λ i. all (page_formed g w i) (span (λ p. p) 0 (pages_of g w i))) (span suc 0 (bottom g))

-- The head and every level below it are sound.
unfoldable pub levels_sound : Geometry → List ℕ → Bool
levels_sound g w = head_sound g w && all (level_sound g w) (span suc 0 (bottom g))

-- Kinds alternate across levels, and live is right.
unfoldable pub across_right : Geometry → List ℕ → Bool
across_right g w = alternating (tree_of g w) && live_right (get_or w live_word 0) (tree_of g w)

-- The tests in their order, 10 to 14.
unfoldable pub tests_in_order : Geometry → List ℕ → List Bool
tests_in_order g w = directory_right g w ∷ head_right g w ∷ pages_formed g w ∷ levels_sound g w ∷ across_right g w ∷ []

unfoldable pub passes : Geometry → List ℕ → ℕ → Bool
passes g w n = get_or (tests_in_order g w) (n - number_of Directory) true

-- Test n is the first in the order that fails.
pub record FirstFails (g : Geometry) (w : List ℕ) (n : ℕ) : Type 0 where
  pub least : number_of Directory ≤ n
  pub most : n ≤ number_of Kinds
  pub before : (m : ℕ) → number_of Directory ≤ m → m < n → passes g w m ≡ true
  pub fails : passes g w n ≡ false

-- Each test passes exactly if its part of the whole-store test finds no fault --------------------------------------------------------------------

all_levels_lem : (t : ℕ → Bool) (n : ℕ) → all t (span suc 0 n) ≡ true → (i : ℕ) → 1 ≤ i → i < suc n → t i ≡ true
all_levels_lem t n e zero l u = absurd (omega arith)
all_levels_lem t n e (suc i) l u =
    let numbered : get_or (span suc 0 n) i 0 ≡ suc i = get_d_span suc 0 n i 0 (omega arith) ∙ ap suc (zero-add i) in
    rw numbered at (all_at t (span suc 0 n) i 0 e (rw (length_span suc 0 n) (omega arith)))

module _ (g : Geometry) (w : List ℕ) where
  pub formed_exactly : (form_faults g w ≡ Ok tt) ↔ (pages_formed g w ≡ true)
  unfolding pages_formed
  formed_exactly = (
    λ none.
        all_span (λ i. all (page_formed g w i) (span (λ p. p) 0 (pages_of g w i))) suc 0 (bottom g)
        (λ i u. all_span (page_formed g w (suc i)) (λ p. p) 0 (pages_of g w (suc i)) (λ p v. forms_sound g w none (suc i) p (omega arith) (omega arith) (omega arith))),
    λ formed.
        sound_forms g w
        (λ i p l u v. all_numbered (page_formed g w i) (pages_of g w i) (all_levels_lem (λ j. all (page_formed g w j) (span (λ q. q) 0 (pages_of g w j))) (bottom g) formed i l (omega arith)) p v),
  )

  pub levels_exactly : (writing_faults g w ≡ Ok tt) ↔ (levels_sound g w ≡ true)
  unfolding levels_sound
  levels_exactly = (
    λ none. let told = writings_sound g w none in rw told.0 (all_span (level_sound g w) suc 0 (bottom g) (λ i u. told.1 (suc i) (omega arith) (omega arith))),
    λ sound. sound_writings g w (and_left _ _ sound) (λ i l u. all_levels_lem (level_sound g w) (bottom g) (and_right (head_sound g w) _ sound) i l (omega arith)),
  )

  pub across_exactly : (across_fault g w ≡ Ok tt) ↔ (across_right g w ≡ true)
  unfolding across_right
  across_exactly = (
    λ none. let told = across_sound g w none in rw (told.0, told.1) refl,
    λ right. sound_across g w (and_left _ _ right) (and_right (alternating (tree_of g w)) _ right),
  )

-- Of tests in order, the first finds the fault that is told if it fails, and one of the rest if it passes.
fails_finds : (j : Judged) (js : List Judged) (b : Bool) (f : Fault) → (j ≡ Ok tt) ↔ (b ≡ true) → first_fault (j ∷ js) ≡ Err f → b ≡ false → j ≡ Err f
unfolding first_fault
fails_finds (Ok tt) js b f agree e wrong = absurd (false≢true (sym wrong ∙ agree.0 refl))
fails_finds (Err h) js b f agree e wrong = e

passes_on : (j : Judged) (js : List Judged) (b : Bool) (f : Fault) → (j ≡ Ok tt) ↔ (b ≡ true) → first_fault (j ∷ js) ≡ Err f → b ≡ true → first_fault js ≡ Err f
unfolding first_fault
passes_on j js b f agree e right = rw (agree.1 right) at e

-- Which part finds the fault that is told, by the tests that pass before it -------------------------------------------------------------------------

module _ (g : Geometry) (w : List ℕ) (f : Fault) (told : fault g w ≡ Err f) where
  pub found_in_directory : directory_right g w ≡ false → no_place Directory ≡ f
  unfolding fault first_fault
  found_in_directory d = let one = rw d at told in cc

  pub found_in_head : directory_right g w ≡ true → head_right g w ≡ false → head_fault g w ≡ f
  unfolding fault first_fault
  found_in_head d h = let one = rw (d, h) at told in cc

  module _ (d : directory_right g w ≡ true) (h : head_right g w ≡ true) where
    from_pages : first_fault (form_faults g w ∷ writing_faults g w ∷ across_fault g w ∷ []) ≡ Err f
    unfolding fault first_fault
    from_pages = rw (d, h) at told

    pub found_in_pages : pages_formed g w ≡ false → form_faults g w ≡ Err f
    found_in_pages = fails_finds (form_faults g w) _ (pages_formed g w) f (formed_exactly g w) from_pages

    from_writing : pages_formed g w ≡ true → first_fault (writing_faults g w ∷ across_fault g w ∷ []) ≡ Err f
    from_writing = passes_on (form_faults g w) _ (pages_formed g w) f (formed_exactly g w) from_pages

    pub found_in_writing : pages_formed g w ≡ true → levels_sound g w ≡ false → writing_faults g w ≡ Err f
    found_in_writing p = fails_finds (writing_faults g w) _ (levels_sound g w) f (levels_exactly g w) (from_writing p)

    pub found_across : pages_formed g w ≡ true → levels_sound g w ≡ true → across_fault g w ≡ Err f
    found_across p l = only_found (across_fault g w) f (passes_on (writing_faults g w) _ (levels_sound g w) f (levels_exactly g w) (from_writing p) l)

-- Tests that pass, and then one that fails: it is the first.
front_passes : (front back : List Bool) → all (λ b. b) front ≡ true → (k : ℕ) → k < length front → get_or (front ++ back) k true ≡ true
front_passes front back e k u = get_or-append front back true k u ∙ all_at (λ b. b) front k true e u

module _ (g : Geometry) (w : List ℕ) where
  first_fails : (front back : List Bool) → tests_in_order g w ≡ front ++ false ∷ back → length front ≤ 4 → all (λ b. b) front ≡ true → FirstFails g w (number_of Directory + length front)
  unfolding passes
  first_fails front back e few pass = record {
    least = omega arith;
    most = omega arith;
    before = λ m l u. rw e (front_passes front (false ∷ back) pass (m - 10) (omega arith));
    fails =
        let k : 10 + length front - 10 ≡ length front = omega arith in
        rw (e, k) (get_or-append_seam front false back true);
  }

  -- What it is that each test is the first to fail.
  pub first_directory : FirstFails g w (number_of Directory) ↔ (directory_right g w ≡ false)
  unfolding passes tests_in_order all
  first_directory = (
    λ first. first.fails,
    λ e. first_fails [] (head_right g w ∷ pages_formed g w ∷ levels_sound g w ∷ across_right g w ∷ []) (rw e refl) (omega arith) refl,
  )

  pub first_head : FirstFails g w (number_of Head) ↔ (directory_right g w ≡ true) × (head_right g w ≡ false)
  unfolding passes tests_in_order all
  first_head = (
    λ first. (first.before 10 (omega arith) (omega arith), first.fails),
    λ (d, e). first_fails (directory_right g w ∷ []) (pages_formed g w ∷ levels_sound g w ∷ across_right g w ∷ []) (rw e refl) (omega arith) (rw d refl),
  )

  pub first_pages : FirstFails g w (number_of Page) ↔ (directory_right g w ≡ true) × (head_right g w ≡ true) × (pages_formed g w ≡ false)
  unfolding passes tests_in_order all
  first_pages = (
    λ first. (first.before 10 (omega arith) (omega arith), first.before 11 (omega arith) (omega arith), first.fails),
    λ (d, h, e). first_fails (directory_right g w ∷ head_right g w ∷ []) (levels_sound g w ∷ across_right g w ∷ []) (rw e refl) (omega arith) (rw (d, h) refl),
  )

  pub first_writing : FirstFails g w (number_of Writing) ↔ (directory_right g w ≡ true) × (head_right g w ≡ true) × (pages_formed g w ≡ true) × (levels_sound g w ≡ false)
  unfolding passes tests_in_order all
  first_writing = (
    λ first. (first.before 10 (omega arith) (omega arith), first.before 11 (omega arith) (omega arith), first.before 12 (omega arith) (omega arith), first.fails),
    λ (d, h, p, e). first_fails (directory_right g w ∷ head_right g w ∷ pages_formed g w ∷ []) (across_right g w ∷ []) (rw e refl) (omega arith) (rw (d, h, p) refl),
  )

  pub first_across : FirstFails g w (number_of Kinds) ↔
      (directory_right g w ≡ true) × (head_right g w ≡ true) × (pages_formed g w ≡ true) × (levels_sound g w ≡ true) × (across_right g w ≡ false)
  unfolding passes tests_in_order all
  first_across = (
    λ first. (
      first.before 10 (omega arith) (omega arith),
      first.before 11 (omega arith) (omega arith),
      first.before 12 (omega arith) (omega arith),
      first.before 13 (omega arith) (omega arith),
      first.fails,
    ),
    λ (d, h, p, l, e). first_fails (directory_right g w ∷ head_right g w ∷ pages_formed g w ∷ levels_sound g w ∷ []) [] (rw e refl) (omega arith) (rw (d, h, p, l) refl),
  )

  -- No two tests are the first to fail.
  pub first_fails_once : (m n : ℕ) → FirstFails g w m → FirstFails g w n → m ≡ n
  first_fails_once m n first other = chosen (ltb m n) refl (ltb n m) refl
    where
      chosen : (b : Bool) → ltb m n ≡ b → (c : Bool) → ltb n m ≡ c → m ≡ n
      chosen true s c t = absurd (false≢true (sym first.fails ∙ other.before m first.least (ltb-true _ _ s)))
      chosen false s true t = absurd (false≢true (sym other.fails ∙ first.before n other.least (ltb-true _ _ t)))
      chosen false s false t = omega (arith, ltb-false m n s, ltb-false n m t)

-- The fault that is told has the number of the test that is the first to fail.
pub told_first : (g : Geometry) (w : List ℕ) (f : Fault) → fault g w ≡ Err f → FirstFails g w (number_of f.part)
unfolding head_fault
told_first g w f told = by (directory_right g w) refl (head_right g w) refl (pages_formed g w) refl (levels_sound g w) refl (across_right g w) refl
  where
    by : (d : Bool) → directory_right g w ≡ d → (h : Bool) → head_right g w ≡ h → (p : Bool) → pages_formed g w ≡ p → (l : Bool) → levels_sound g w ≡ l →
        (a : Bool) → across_right g w ≡ a → FirstFails g w (number_of f.part)
    by false d h h' p p' l l' a a' = rw (← found_in_directory g w f told d) ((first_directory g w).1 d)
    by true d false h p p' l l' a a' = rw (← found_in_head g w f told d h) ((first_head g w).1 (d, h))
    by true d true h false p l l' a a' = rw (forms_part g w f (found_in_pages g w f told d h p)) ((first_pages g w).1 (d, h, p))
    by true d true h true p false l a a' = rw (writings_part g w f (found_in_writing g w f told d h p l)) ((first_writing g w).1 (d, h, p, l))
    by true d true h true p true l false a = rw (across_part g w f (found_across g w f told d h p l)) ((first_across g w).1 (d, h, p, l, a))
    by true d true h true p true l true a =
        let found = found_across g w f told d h p l in
        let none = (across_exactly g w).1 a in
        let z : ◌≡◌ {A = ℕ} 0 1 = cc in
        absurd (omega arith)

-- And where no test fails, nothing is told.
pub sound_passes : (g : Geometry) (w : List ℕ) → fault g w ≡ Ok tt → (n : ℕ) → number_of Directory ≤ n → n ≤ number_of Kinds → passes g w n ≡ true
unfolding passes tests_in_order all
sound_passes g w none n l u =
    let f = fault_sound g w none in
    let p = (formed_exactly g w).0 (sound_forms g w f.pages) in
    let s = (levels_exactly g w).0 (sound_writings g w f.head_sound_lem f.levels) in
    let a = (across_exactly g w).0 (sound_across g w f.alternates f.counted) in
    front_passes (tests_in_order g w) [] (rw (f.directory, f.head, p, s, a) refl) (n - 10) (omega arith)

pub passes_sound : (g : Geometry) (w : List ℕ) → ((n : ℕ) → number_of Directory ≤ n → n ≤ number_of Kinds → passes g w n ≡ true) → fault g w ≡ Ok tt
passes_sound g w pass = by (fault g w) refl
  where
    by : (j : Judged) → fault g w ≡ j → j ≡ Ok tt
    by (Ok tt) told = refl
    by (Err f) told =
        let first = told_first g w f told in
        absurd (false≢true (sym first.fails ∙ pass (number_of f.part) first.least first.most))
