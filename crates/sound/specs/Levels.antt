-- The tests of one level, and tests one by one, as the clauses of src/lib.rt cite them. Assumes nothing.
use Prim.Native.Nat.{ℕ, zero, suc, ◌+◌, ◌-◌, ◌/◌, ◌%◌, ◌≤◌, ◌<◌}
use Rattle.std.proofs.Common.{arith, eqb-true}
use Rattle.std.specs.Prelude.{◌≡◌, Bool, true, false, cond, List, [], ◌∷◌, get_or, ltb, leb, eqb, Err, Ok}
use Rattle.std.proofs.Math.Path.{refl}
use Rattle.laws.specs.Lists.{span, all, span_next, span_end}
use Rattle.laws.specs.Flat.{all_span}
use Rattle.geometry.specs.declared.Geometry.{Geometry}
use Rattle.geometry.specs.declared.Plan.{Plan}
use Rattle.geometry.specs.Geometry.{bottom, most}
use Rattle.geometry.specs.Places.{head_room, slots_in_page}
use Rattle.geometry.specs.Lent.{Lent}
use Rattle.geometry.proofs.Lent.{capacities_at}
use Rattle.slot.specs.declared.Pair.{Pair}
use Rattle.fault.specs.declared.Fault.{Fault}
use Rattle.fault.specs.Judged.{Judged}
use Rattle.fault.specs.declared.Part.TheVariants.{Directory, Head, Page, Writing}
use Rattle.fault.specs.Numbers.{fault_in, no_place}
use Rattle.rules.specs.Sound.{directory_right, head_right, page_formed, head_sound, level_sound, within_capacity}
use Rattle.rules.specs.Faults.{unless, first_fault, head_fault, page_fault, level_wrong, head_leaves, page_size, form_fault, form_faults, writing_fault, writing_faults, across_fault, fault}
use Rattle.rules.specs.Faultless.{forms_sound}
use Rattle.geometry.specs.Directory.{pages_of}
use Rattle.form.specs.declared.HeadRead.{HeadRead}
use Rattle.form.specs.declared.PageRead.{PageRead}
use Rattle.form.specs.Passes.{head_scanned, page_scanned, slot_told, head_slot_told, page_slot_told}

-- A level's capacity, read from the list of capacities.
unfoldable pub capacity_holds : List ℕ → Geometry → ℕ → ℕ → Bool
capacity_holds caps g i n = cond (eqb i (bottom g)) (leb n (get_or caps i 0)) (ltb n (get_or caps i 0))

pub capacity_holds_lem : (g : Geometry) (plan : Plan) (w : List ℕ) → Lent g plan w → (i n : ℕ) → i < g.levels →
    capacity_holds plan.capacities g i n ≡ within_capacity g i n
unfolding capacity_holds within_capacity most
capacity_holds_lem g plan w l i n h = by_place (eqb i (bottom g)) refl
  where
    by_place : (b : Bool) → eqb i (bottom g) ≡ b →
        cond b (leb n (get_or plan.capacities i 0)) (ltb n (get_or plan.capacities i 0)) ≡ within_capacity g i n
    by_place true e = rw (e, within_capacity, capacities_at g plan w l i h, eqb-true i (bottom g) e)
    by_place false e = rw (e, within_capacity, capacities_at g plan w l i h)

-- Tests one by one: one that passes, the first that fails, and the end.
module _ (f : ℕ → Judged) (i n : ℕ) where
  pub test_passes : i < n → f i ≡ Ok tt → first_fault (span f i (n - i)) ≡ first_fault (span f (i + 1) (n - (i + 1)))
  unfolding first_fault
  test_passes h e = rw (span_next f i n h, e)

  pub test_fails : (x : Fault) → i < n → f i ≡ Err x → first_fault (span f i (n - i)) ≡ Err x
  unfolding first_fault
  test_fails x h e = rw (span_next f i n h, e)

  pub tests_end : n ≤ i → first_fault (span f i (n - i)) ≡ Ok tt
  unfolding first_fault
  tests_end h = rw (span_end f i n h)

-- The whole, by the first part that fails.
module _ (g : Geometry) (w : List ℕ) where
  pub fault_directory : directory_right g w ≡ false → Err (no_place Directory) ≡ fault g w
  unfolding fault first_fault
  fault_directory e = rw e

  module _ (right : directory_right g w ≡ true) where
    pub fault_head : head_right g w ≡ false → Err (head_fault g w) ≡ fault g w
    unfolding fault first_fault
    fault_head e = rw (right, e)

    module _ (head : head_right g w ≡ true) where
      pub fault_form : (x : Fault) → form_faults g w ≡ Err x → Err x ≡ fault g w
      unfolding fault first_fault
      fault_form x e = rw (right, head, e)

      pub fault_deeper : form_faults g w ≡ Ok tt → first_fault (writing_faults g w ∷ across_fault g w ∷ []) ≡ fault g w
      unfolding fault first_fault
      fault_deeper e = rw (right, head, e)

  -- The slot that a pass over the head or a page tells is the fault's.
  pub head_told : (asked : Pair) {c : HeadRead} → c ≡ head_scanned g w asked → fault_in Head 0 0 (slot_told c.formed) ≡ head_fault g w
  unfolding head_fault
  head_told asked e = rw (head_slot_told g w asked e)

  pub page_told : (asked : Pair) (i p : ℕ) {c : PageRead} → c ≡ page_scanned g w asked i p → fault_in Page i p (slot_told c.formed) ≡ page_fault g w i p
  unfolding page_fault
  page_told asked i p e = rw (page_slot_told g w asked i p e)

  -- The test of a level's writing, and of the head's, by what the code finds.
  pub level_written_lem : (i : ℕ) → level_sound g w i ≡ true → writing_fault g w i ≡ Ok tt
  unfolding writing_fault
  level_written_lem i e = rw e

  pub level_miswritten : (i : ℕ) → 1 ≤ i → level_sound g w i ≡ false → {n : ℕ} → n ≡ level_wrong g w i →
      writing_fault g w i ≡ Err (fault_in Writing i (n / slots_in_page) (n % slots_in_page))
  unfolding writing_fault page_size
  level_miswritten zero l e n = absurd (omega arith)
  level_miswritten (suc i) l e n = rw (e, n)

  pub head_written_lem : head_sound g w ≡ true → first_fault (span (writing_fault g w) 1 (bottom g)) ≡ writing_faults g w
  unfolding writing_faults first_fault
  head_written_lem e = rw e

  pub head_miswritten : head_sound g w ≡ false → {n : ℕ} → n ≡ head_leaves g w →
      Err (fault_in Writing 0 (n / head_room g) (n % head_room g)) ≡ writing_faults g w
  unfolding writing_faults first_fault page_size
  head_miswritten e n = rw (e, n)

  -- The test of each page of a level.
  abbrev pub page_tested : ℕ → ℕ → Judged
  page_tested i p = unless (page_formed g w i p) (page_fault g w i p)

  pub form_begins : (i : ℕ) → first_fault (span (page_tested i) 0 (pages_of g w i)) ≡ form_fault g w i
  unfolding form_fault
  form_begins i = refl

  -- The pages of every level are formed.
  pub all_formed : form_faults g w ≡ Ok tt → (i : ℕ) → 1 ≤ i → i < g.levels → all (page_formed g w i) (span (λ p. p) 0 (pages_of g w i)) ≡ true
  all_formed e i l u = all_span (page_formed g w i) (λ p. p) 0 (pages_of g w i) (λ p b. forms_sound g w e i p l u (omega arith))
