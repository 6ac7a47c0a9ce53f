-- Two answers of put or of drop that one promise allows are equal, with the index entries in each level and every word of the store and of the work
-- area: the number and values of a reply tell the answer that they are of. Assumes nothing.
use Rattle.std.specs.Prelude.{ℕ, ◌≡◌, List, [], ◌∷◌, get_or, drop, Result, Ok, Err}
use Rattle.std.proofs.Math.Path.{refl}
use Rattle.std.proofs.Common.{sym, ap, ◌∙◌}
use Rattle.fault.specs.declared.Part.{Part}
use Rattle.fault.specs.declared.Part.TheVariants.{Directory, Head, Page, Writing, Kinds}
use Rattle.fault.specs.Numbers.{fault_in}
use Rattle.slot.specs.declared.Pair.{Pair}
use Rattle.change.specs.declared.Done.{Done}
use Rattle.call_put.specs.declared.EditRefusal.{EditRefusal}
use Rattle.call_put.specs.declared.EditRefusal.TheVariants.{Range, Length, Fault, Held, Missing, Full}
use Rattle.opening.specs.Reply.{fault_by}
use Rattle.call_put.specs.Edit.{Kept, edit_reply, put_of, drop_of}

-- The answer by the reply's number, 0 to 5, or any other for a fault, and the entries behind the three values before them.
edited_by : Kept → Result Done EditRefusal
edited_by k =
    let v = k.reply.values in
    let done : Done = record { live = get_or v 0 0; deepest = get_or v 1 0; pages = get_or v 2 0 } in
    get_or (Ok done ∷ Err Range ∷ Err Held ∷ Err Missing ∷ Err Full ∷ Err Length ∷ []) k.reply.number (Err (Fault (fault_by k.reply.number v)))

module _ (entries store work : List ℕ) where
  answer_told : (a : Result Done EditRefusal) → edited_by (edit_reply a entries store work) ≡ a
  unfolding edited_by
  answer_told (Ok done) = refl
  answer_told (Err Range) = refl
  answer_told (Err Length) = refl
  answer_told (Err (Fault fault)) = by fault.part
    where
      by : (part : Part) →
          edited_by (edit_reply (Err (Fault (fault_in part fault.level fault.page fault.slot))) entries store work) ≡
          Err (Fault (fault_in part fault.level fault.page fault.slot))
      by Directory = refl
      by Head = refl
      by Page = refl
      by Writing = refl
      by Kinds = refl
  answer_told (Err Held) = refl
  answer_told (Err Missing) = refl
  answer_told (Err Full) = refl

  entries_told : (a : Result Done EditRefusal) → drop 3 (edit_reply a entries store work).reply.values ≡ entries
  entries_told (Ok done) = refl
  entries_told (Err Range) = refl
  entries_told (Err Length) = refl
  entries_told (Err (Fault fault)) = refl
  entries_told (Err Held) = refl
  entries_told (Err Missing) = refl
  entries_told (Err Full) = refl

module _ (a b : Result Done EditRefusal) (m n v u x y : List ℕ) where
  one_answer : (k : Kept) → edit_reply a m v x ≡ k → edit_reply b n u y ≡ k → (a ≡ b) × (m ≡ n) × (v ≡ u) × (x ≡ y)
  one_answer k p q =
      let e = p ∙ sym q in (
        sym (answer_told m v x a) ∙ ap edited_by e ∙ answer_told n u y b,
        sym (entries_told m v x a) ∙ ap (λ (k : Kept). drop 3 k.reply.values) e ∙ entries_told n u y b,
        ap (λ (k : Kept). k.store) e,
        ap (λ (k : Kept). k.work) e,
      )

  pub put_has_one_answer : (w work : List ℕ) (pair : Pair) → edit_reply a m v x ≡ put_of w work pair → edit_reply b n u y ≡ put_of w work pair →
      (a ≡ b) × (m ≡ n) × (v ≡ u) × (x ≡ y)
  put_has_one_answer w work pair = one_answer (put_of w work pair)

  pub drop_has_one_answer : (w work : List ℕ) (pair : Pair) → edit_reply a m v x ≡ drop_of w work pair → edit_reply b n u y ≡ drop_of w work pair →
      (a ≡ b) × (m ≡ n) × (v ≡ u) × (x ≡ y)
  drop_has_one_answer w work pair = one_answer (drop_of w work pair)
