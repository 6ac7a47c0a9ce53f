-- 12: the first page that is not formed, and the slot with which it breaks page form. Assumes nothing.
use Prim.Native.Nat.{ℕ, zero, suc, ◌+◌, ◌-◌, ◌*◌, ◌≤◌, ◌<◌, min}
use Rattle.std.proofs.Common.{arith, sym, subst, ◌∙◌}
use Rattle.std.specs.Prelude.{◌≡◌, Bool, cond, List, length, get_or, take, Err}
use Rattle.std.proofs.Math.Path.{refl, ap}
use Rattle.std.proofs.Math.Bool.{true, false}
use Rattle.std.proofs.lemmas.Bool.{false≢true}
use borrow.Author.Tests.{leb-true}
use Rattle.laws.specs.Tests.{and_left, and_right}
use Rattle.laws.specs.Lists.{all, length_span, get_d_span}
use Rattle.fault.specs.declared.Fault.{Fault}
use Rattle.fault.specs.declared.Part.TheVariants.{Page}
use Rattle.geometry.specs.declared.Geometry.{Geometry}
use Rattle.geometry.specs.Geometry.{bottom}
use Rattle.geometry.specs.Places.{slot_place, slots_in_page, words_in_slot}
use Rattle.geometry.specs.Directory.{pages_of}
use Rattle.slot.specs.declared.Slot.{Slot}
use Rattle.slot.specs.Slot.{slot_at}
use Rattle.rules.specs.Sound.{slots_from, count_at, page_slots, follows, in_order, legal, count_right, page_formed}
use Rattle.rules.specs.Faults.{unless, breaking, page_rule, page_slot, page_fault, form_fault, form_faults}
use Rattle.rules.specs.Faultless.{unless_sound, span_sound}
use Rattle.faults.specs.Found.{span_found, unless_found}
use Rattle.faults.specs.Chains.{linked, unlinked}
use Rattle.faults.specs.Slots.{order_up, legal_up}
use Rattle.faults.specs.Broken.{BreaksAt, breaks_first, broken_within}

-- Page p of level i is not formed, and every page before it is, in a level above or left of it.
pub record FirstUnformed (g : Geometry) (w : List ℕ) (i p : ℕ) : Type 0 where
  pub below_head : 1 ≤ i
  pub level_exists : i < g.levels
  pub page_exists : p < pages_of g w i
  pub above : (j q : ℕ) → 1 ≤ j → j < i → q < pages_of g w j → page_formed g w j q ≡ true
  pub left : (q : ℕ) → q < p → page_formed g w i q ≡ true
  pub unformed : page_formed g w i p ≡ false

-- Slot s of page p of level i is wrong: its tag is not legal, or it is out of order after the slot before it.
pub data SlotWrong (g : Geometry) (w : List ℕ) (i p s : ℕ) : Type 0 where
  illegal_tag : legal true (pages_of g w (suc i)) (slot_at w (slot_place g i p s)) ≡ false → SlotWrong g w i p s
  out_of_order : 1 ≤ s → follows (slot_at w (slot_place g i p (s - 1))) (slot_at w (slot_place g i p s)) ≡ false → SlotWrong g w i p s

-- Where page p of level i breaks page form: its count is out of range, which is told as slot 0; or the slots that it counts are in order with
-- legal tags before slot s and not with it, since that slot is wrong.
pub data PageBreaks (g : Geometry) (w : List ℕ) (i p s : ℕ) : Type 0 where
  count_out : count_right g w i p ≡ false → s ≡ 0 → PageBreaks g w i p s
  slot_breaks : count_right g w i p ≡ true → s < count_at g w i p → BreaksAt (page_rule g w i) (page_slots g w i p) s → SlotWrong g w i p s → PageBreaks g w i p s

-- Where a fault of form stands: in the first page that is not formed, where that page breaks page form.
pub record Unformed (g : Geometry) (w : List ℕ) (f : Fault) : Type 0 where
  pub page : FirstUnformed g w f.level f.page
  pub slot : PageBreaks g w f.level f.page f.slot

-- A page that is not formed breaks page form where it is told.
module _ (g : Geometry) (w : List ℕ) (i p : ℕ) where
  pub count_most : count_right g w i p ≡ true → count_at g w i p ≤ slots_in_page
  unfolding count_right
  count_most e = leb-true (count_at g w i p) slots_in_page (and_left _ _ e)

  page_counted : count_right g w i p ≡ true → length (page_slots g w i p) ≡ count_at g w i p
  unfolding page_slots slots_from
  page_counted e = length_span _ 0 (min (count_at g w i p) slots_in_page) ∙ omega (arith, count_most e)

  rule_broken : count_right g w i p ≡ true → page_formed g w i p ≡ false → page_rule g w i (page_slots g w i p) ≡ false
  unfolding page_formed page_rule
  rule_broken counted e = rw counted at e

  -- The slot with which the rule is broken is wrong, as all before it keep the rule.
  abbrev ss : List Slot
  ss = page_slots g w i p

  slot_read : (d : Slot) (s : ℕ) → s < length ss → get_or ss s d ≡ slot_at w (slot_place g i p s)
  unfolding page_slots slots_from slot_place
  slot_read d s h =
      let n = min (count_at g w i p) slots_in_page in
      get_d_span (λ j. slot_at w (slot_place g i p 0 + words_in_slot * j)) 0 n s d (rw (length_span _ 0 n) at h) ∙ ap (slot_at w) (omega arith)

  kept_before : (s : ℕ) → ((n : ℕ) → n < s → page_rule g w i (take (suc n) ss) ≡ true) → (in_order (take s ss) ≡ true) × (all (legal true (pages_of g w (suc i))) (take s ss) ≡ true)
  unfolding page_rule in_order all
  kept_before zero before = (refl, refl)
  kept_before (suc s) before =
      let rule = before s (omega arith) in
      (and_left _ _ rule, and_right (in_order (take (suc s) ss)) _ rule)

  slot_wrong : (s : ℕ) → BreaksAt (page_rule g w i) ss s → SlotWrong g w i p s
  unfolding page_rule
  slot_wrong s at = by (legal true (pages_of g w (suc i)) (get_or ss s d)) refl (linked follows ss s d) refl
    where
      d : Slot
      d = slot_at w 0

      read : get_or ss s d ≡ slot_at w (slot_place g i p s)
      read = slot_read d s at.within

      by : (b : Bool) → legal true (pages_of g w (suc i)) (get_or ss s d) ≡ b → (c : Bool) → linked follows ss s d ≡ c → SlotWrong g w i p s
      by false x c y = illegal_tag (rw read at x)
      by true x false y =
          let told = unlinked follows ss s d y in
          out_of_order told.0 (rw (read, slot_read d (s - 1) (omega (arith, at.within))) at told.1)
      by true x true y =
          let kept = kept_before s at.before in
          absurd (false≢true (sym at.breaks ∙ rw (order_up ss s d at.within, legal_up (legal true (pages_of g w (suc i))) ss s d at.within, kept.0, kept.1, x, y) refl))

  pub page_breaks : page_formed g w i p ≡ false → PageBreaks g w i p (page_slot g w i p)
  unfolding page_slot breaking page_rule in_order all
  page_breaks e = chosen (count_right g w i p) refl
    where
      chosen : (b : Bool) → count_right g w i p ≡ b → PageBreaks g w i p (cond b (breaking (page_rule g w i) (page_slots g w i p)) 0)
      chosen true counted =
          let first = breaks_first (page_rule g w i) ss (broken_within (page_rule g w i) ss refl (rule_broken counted e)) in
          slot_breaks counted (omega (arith, page_counted counted, first.within)) first (slot_wrong _ first)
      chosen false counted = count_out counted refl

-- A slot that breaks page form is one that the page counts.
pub page_slot_counted : (g : Geometry) (w : List ℕ) (i p : ℕ) → count_right g w i p ≡ true → page_formed g w i p ≡ false → page_slot g w i p < count_at g w i p
page_slot_counted g w i p counted wrong = by (page_breaks g w i p wrong)
  where
    by : PageBreaks g w i p (page_slot g w i p) → page_slot g w i p < count_at g w i p
    by (count_out uncounted e) = absurd (false≢true (sym uncounted ∙ counted))
    by (slot_breaks c below at wrong) = below

-- What formFaults tells: the fault of a page that is not formed, and which page.
record UnformedFound (g : Geometry) (w : List ℕ) (f : Fault) : Type 0 where
  level : ℕ
  page : ℕ
  first : FirstUnformed g w level page
  tells : page_fault g w level page ≡ f

found : (g : Geometry) (w : List ℕ) (f : Fault) → form_faults g w ≡ Err f → UnformedFound g w f
unfolding form_faults form_fault
found g w f e =
    let level = span_found (form_fault g w) 1 (bottom g) f e in
    let i = level.at in
    let page = span_found (λ q. unless (page_formed g w i q) (page_fault g w i q)) 0 (pages_of g w i) f level.finds in
    let p = page.at in
    let own = unless_found (page_formed g w i p) (page_fault g w i p) f page.finds in
    record {
      level = i;
      page = p;
      first = record {
        below_head = level.lower;
        level_exists = omega (arith, level.lower, level.upper);
        page_exists = omega (arith, page.upper);
        above = λ j q l u h. unless_sound (page_formed g w j q) _ (span_sound (λ r. unless (page_formed g w j r) (page_fault g w j r)) 0 (pages_of g w j) (level.before j l u) q (omega arith) (omega arith));
        left = λ q u. unless_sound (page_formed g w i q) _ (page.before q (omega arith) u);
        unformed = own.0;
      };
      tells = own.1;
    }

pub forms_part : (g : Geometry) (w : List ℕ) (f : Fault) → form_faults g w ≡ Err f → f.part ≡ Page
unfolding page_fault
forms_part g w f e = ap (λ (x : Fault). x.part) (sym (found g w f e).tells)

pub forms_first : (g : Geometry) (w : List ℕ) (f : Fault) → form_faults g w ≡ Err f → Unformed g w f
unfolding page_fault
forms_first g w f e =
    let told = found g w f e in
    subst (Unformed g w) told.tells (record { page = told.first; slot = page_breaks g w told.level told.page told.first.unformed })
