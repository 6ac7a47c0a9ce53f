-- A whole-store test that finds no fault, part by part: it finds none exactly if every test of it passes. Assumes nothing.
use Rattle.std.specs.Prelude.{ℕ, zero, suc, ◌+◌, ◌≤◌, ◌<◌, ◌≡◌, Bool, true, false, get_or, eqb, Err, Ok}
use Rattle.std.proofs.Common.{zero-add, arith, subst, ◌∙◌, eqb-true}
use Rattle.std.proofs.Math.Path.{refl}
use mathlib.Core.List.{List, [], ◌∷◌, ◌++◌}
use Rattle.std.proofs.lemmas.Bool.{eqb-false}
use Rattle.laws.specs.Tests.{and_left, and_right}
use Rattle.laws.specs.Lists.{span, all, length_span, get_d_span, all_at}
use Rattle.fault.specs.declared.Fault.{Fault}
use Rattle.fault.specs.Judged.{Judged}
use Rattle.geometry.specs.declared.Geometry.{Geometry}
use Rattle.geometry.specs.Geometry.{bottom}
use Rattle.geometry.specs.Places.{live_word}
use Rattle.geometry.specs.Directory.{pages_of}
use Rattle.rules.specs.Tree.{Tree}
use Rattle.rules.specs.Sound.{tree_of, directory_right, head_right, page_formed, level_sound, head_sound, right_over, alternating, live_right}
use Rattle.rules.specs.Faults.{unless, first_fault, page_fault, kinds_faults, form_fault, form_faults, writing_fault, writing_faults, across_fault, fault}

-- Tests in order ----------------------------------------------------------------------------------------------------------------------------

-- A test finds no fault exactly if it passes.
pub unless_sound : (b : Bool) (f : Fault) → unless b f ≡ Ok tt → b ≡ true
unless_sound true f e = refl
unless_sound false f e = let z : ◌≡◌ {A = ℕ} 0 1 = cc in absurd (omega arith)

pub sound_unless : (b : Bool) (f : Fault) → b ≡ true → unless b f ≡ Ok tt
sound_unless b f e = rw e

-- The first fault of tests is none exactly if each finds none: the first of them and all the rest.
pub first_sound : (j : Judged) (js : List Judged) → first_fault (j ∷ js) ≡ Ok tt → (j ≡ Ok tt) × (first_fault js ≡ Ok tt)
unfolding first_fault
first_sound (Ok tt) js e = (refl, e)
first_sound (Err f) js e = let z : ◌≡◌ {A = ℕ} 0 1 = cc in absurd (omega arith)

pub sound_first : (j : Judged) (js : List Judged) → j ≡ Ok tt → first_fault js ≡ Ok tt → first_fault (j ∷ js) ≡ Ok tt
unfolding first_fault
sound_first j js e h = rw e h

-- Test n, wherever it stands.
pub each_sound : (js : List Judged) (n : ℕ) → first_fault js ≡ Ok tt → get_or js n (Ok tt) ≡ Ok tt
each_sound [] n e = refl
each_sound (j ∷ js) zero e = (first_sound j js e).0
each_sound (j ∷ js) (suc n) e = each_sound js n (first_sound j js e).1

pub sound_each : (js : List Judged) → ((n : ℕ) → get_or js n (Ok tt) ≡ Ok tt) → first_fault js ≡ Ok tt
unfolding first_fault
sound_each [] h = refl
sound_each (j ∷ js) h = sound_first j js (h 0) (sound_each js (λ n. h (suc n)))

-- Tests numbered i, i + 1, … : n of them.
pub span_sound : (f : ℕ → Judged) (i n : ℕ) → first_fault (span f i n) ≡ Ok tt → (j : ℕ) → i ≤ j → j < i + n → f j ≡ Ok tt
unfolding span
span_sound f i zero e j l u = absurd (omega arith)
span_sound f i (suc n) e j l u = chosen (eqb i j) refl (λ h. span_sound f (suc i) n (first_sound (f i) (span f (suc i) n) e).1 j h (omega arith))
  where
    chosen : (b : Bool) → eqb i j ≡ b → (suc i ≤ j → f j ≡ Ok tt) → f j ≡ Ok tt
    chosen true q later = subst (λ (k : ℕ). f k ≡ Ok tt) (eqb-true i j q) (first_sound (f i) (span f (suc i) n) e).0
    chosen false q later =
        let d : ¬ (i ≡ j) = eqb-false i j q in
        later (omega arith)

pub sound_span : (f : ℕ → Judged) (i n : ℕ) → ((j : ℕ) → i ≤ j → j < i + n → f j ≡ Ok tt) → first_fault (span f i n) ≡ Ok tt
unfolding span first_fault
sound_span f i zero h = refl
sound_span f i (suc n) h = sound_first (f i) (span f (suc i) n) (h i (omega arith) (omega arith)) (sound_span f (suc i) n (λ j l u. h j (omega arith) (omega arith)))

-- Tests and then others.
pub joined_sound : (js ks : List Judged) → first_fault (js ++ ks) ≡ Ok tt → (first_fault js ≡ Ok tt) × (first_fault ks ≡ Ok tt)
unfolding first_fault
joined_sound [] ks e = (refl, e)
joined_sound (j ∷ js) ks e =
    let here = first_sound j (js ++ ks) e in
    let rest = joined_sound js ks here.1 in
    (sound_first j js here.0 rest.0, rest.1)

pub sound_joined : (js ks : List Judged) → first_fault js ≡ Ok tt → first_fault ks ≡ Ok tt → first_fault (js ++ ks) ≡ Ok tt
sound_joined [] ks e h = h
sound_joined (j ∷ js) ks e h =
    let here = first_sound j js e in
    sound_first j (js ++ ks) here.0 (sound_joined js ks here.1 h)

-- A test that passes of all numbers below n passes of each.
pub all_numbered : (t : ℕ → Bool) (n : ℕ) → all t (span (λ p. p) 0 n) ≡ true → (p : ℕ) → p < n → t p ≡ true
all_numbered t n e p h =
    let numbered : get_or (span (λ q. q) 0 n) p 0 ≡ p = get_d_span (λ q. q) 0 n p 0 h ∙ zero-add p in
    rw numbered at (all_at t (span (λ q. q) 0 n) p 0 e (rw (length_span (λ q. q) 0 n) h))

-- The parts of the whole-store test --------------------------------------------------------------------------------------------------------

module _ (g : Geometry) (w : List ℕ) where
  -- 12: no fault of form exactly if every page of every level is formed.
  pub forms_sound : form_faults g w ≡ Ok tt → (i p : ℕ) → 1 ≤ i → i < g.levels → p < pages_of g w i → page_formed g w i p ≡ true
  unfolding form_faults form_fault
  forms_sound e i p l u h =
      let level = span_sound (form_fault g w) 1 (bottom g) e i l (omega arith) in
      let page = span_sound (λ q. unless (page_formed g w i q) (page_fault g w i q)) 0 (pages_of g w i) level p (omega arith) (omega arith) in
      unless_sound (page_formed g w i p) (page_fault g w i p) page

  pub sound_forms : ((i p : ℕ) → 1 ≤ i → i < g.levels → p < pages_of g w i → page_formed g w i p ≡ true) → form_faults g w ≡ Ok tt
  unfolding form_faults form_fault
  sound_forms formed =
      sound_span (form_fault g w) 1 (bottom g) (λ i l u.
      sound_span (λ q. unless (page_formed g w i q) (page_fault g w i q)) 0 (pages_of g w i) (λ p a b.
      sound_unless (page_formed g w i p) (page_fault g w i p) (formed i p l (omega arith) (omega arith))))

  -- 13: no fault of writing exactly if the head and every level are sound.
  pub levels_sound : first_fault (span (writing_fault g w) 1 (bottom g)) ≡ Ok tt → (i : ℕ) → 1 ≤ i → i < g.levels → level_sound g w i ≡ true
  unfolding writing_fault
  levels_sound e i l u = unless_sound (level_sound g w i) _ (span_sound (writing_fault g w) 1 (bottom g) e i l (omega arith))

  pub sound_levels : ((i : ℕ) → 1 ≤ i → i < g.levels → level_sound g w i ≡ true) → first_fault (span (writing_fault g w) 1 (bottom g)) ≡ Ok tt
  unfolding writing_fault
  sound_levels levels = sound_span (writing_fault g w) 1 (bottom g) (λ i l u. sound_unless (level_sound g w i) _ (levels i l (omega arith)))

  pub writings_sound : writing_faults g w ≡ Ok tt → (head_sound g w ≡ true) × ((i : ℕ) → 1 ≤ i → i < g.levels → level_sound g w i ≡ true)
  unfolding writing_faults
  writings_sound e =
      let parts = first_sound _ _ e in
      (unless_sound (head_sound g w) _ parts.0, levels_sound parts.1)

  pub sound_writings : head_sound g w ≡ true → ((i : ℕ) → 1 ≤ i → i < g.levels → level_sound g w i ≡ true) → writing_faults g w ≡ Ok tt
  unfolding writing_faults
  sound_writings head levels = sound_first _ _ (sound_unless (head_sound g w) _ head) (sound_levels levels)

  -- 14: no fault of kinds exactly if the tree alternates, and none across levels exactly if live is right too.
  pub kinds_sound : (i : ℕ) (t : Tree) → first_fault (kinds_faults g w i t) ≡ Ok tt → alternating t ≡ true
  unfolding kinds_faults alternating
  kinds_sound i [] e = refl
  kinds_sound i (es ∷ t) e =
      let parts = first_sound _ _ e in
      rw (unless_sound (all (right_over t) es) _ parts.0) (kinds_sound (suc i) t parts.1)

  pub sound_kinds : (i : ℕ) (t : Tree) → alternating t ≡ true → first_fault (kinds_faults g w i t) ≡ Ok tt
  unfolding kinds_faults alternating first_fault
  sound_kinds i [] e = refl
  sound_kinds i (es ∷ t) e =
      sound_first _ (kinds_faults g w (suc i) t) (sound_unless (all (right_over t) es) _ (and_left (all (right_over t) es) (alternating t) e))
      (sound_kinds (suc i) t (and_right (all (right_over t) es) (alternating t) e))

  pub across_sound : across_fault g w ≡ Ok tt → (alternating (tree_of g w) ≡ true) × (live_right (get_or w live_word 0) (tree_of g w) ≡ true)
  unfolding across_fault
  across_sound e =
      let t = tree_of g w in
      let parts = joined_sound (kinds_faults g w 0 t) _ e in
      (kinds_sound 0 t parts.0, unless_sound (live_right (get_or w live_word 0) t) _ (first_sound _ _ parts.1).0)

  pub sound_across : alternating (tree_of g w) ≡ true → live_right (get_or w live_word 0) (tree_of g w) ≡ true → across_fault g w ≡ Ok tt
  unfolding across_fault first_fault
  sound_across alternates counted =
      let t = tree_of g w in
      sound_joined (kinds_faults g w 0 t) _ (sound_kinds 0 t alternates) (sound_first _ [] (sound_unless (live_right (get_or w live_word 0) t) _ counted) refl)

  -- A sound head is right, and the pages of a sound level are formed.
  pub sound_right : head_sound g w ≡ true → head_right g w ≡ true
  unfolding head_sound
  sound_right e = and_left (head_right g w) _ (and_left _ _ e)

  pub sound_formed : (i p : ℕ) → level_sound g w i ≡ true → p < pages_of g w i → page_formed g w i p ≡ true
  unfolding level_sound
  sound_formed i p e = all_numbered (page_formed g w i) (pages_of g w i) (and_left _ _ (and_left _ _ (and_left _ _ (and_left _ _ e)))) p

-- The whole store -----------------------------------------------------------------------------------------------------------------------------

-- Everything that the whole-store test asks for.
pub record Faultless (g : Geometry) (w : List ℕ) : Type 0 where
  pub directory : directory_right g w ≡ true
  pub head : head_right g w ≡ true
  pub pages : (i p : ℕ) → 1 ≤ i → i < g.levels → p < pages_of g w i → page_formed g w i p ≡ true
  pub head_sound_lem : head_sound g w ≡ true
  pub levels : (i : ℕ) → 1 ≤ i → i < g.levels → level_sound g w i ≡ true
  pub alternates : alternating (tree_of g w) ≡ true
  pub counted : live_right (get_or w live_word 0) (tree_of g w) ≡ true

module _ (g : Geometry) (w : List ℕ) where
  -- There is no fault exactly if the store has it all.
  pub fault_sound : fault g w ≡ Ok tt → Faultless g w
  unfolding fault
  fault_sound e =
      let a = first_sound (unless (directory_right g w) _) _ e in
      let b = first_sound (unless (head_right g w) _) _ a.1 in
      let c = first_sound (form_faults g w) _ b.1 in
      let d = first_sound (writing_faults g w) _ c.1 in
      let writing = writings_sound g w d.0 in
      let across = across_sound g w (first_sound (across_fault g w) [] d.1).0 in
      record {
        directory = unless_sound (directory_right g w) _ a.0;
        head = unless_sound (head_right g w) _ b.0;
        pages = forms_sound g w c.0;
        head_sound_lem = writing.0;
        levels = writing.1;
        alternates = across.0;
        counted = across.1;
      }

  pub sound_fault : Faultless g w → fault g w ≡ Ok tt
  unfolding fault first_fault
  sound_fault f =
      rw (f.directory, f.head, sound_forms g w f.pages, sound_writings g w f.head_sound_lem f.levels, sound_across g w f.alternates f.counted)

  -- The head's rightness and the form of pages follow from the rest.
  pub faultless : directory_right g w ≡ true → head_sound g w ≡ true → ((i : ℕ) → 1 ≤ i → i < g.levels → level_sound g w i ≡ true) →
      alternating (tree_of g w) ≡ true → live_right (get_or w live_word 0) (tree_of g w) ≡ true → Faultless g w
  faultless right head levels alternates counted = record {
    directory = right;
    head = sound_right g w head;
    pages = λ i p l u h. sound_formed g w i p (levels i l u) h;
    head_sound_lem = head;
    levels = levels;
    alternates = alternates;
    counted = counted;
  }
