-- The number that a call replies is that of the first test, in the paper's order, that fails; 0 where every test passes. A refusal leaves every
-- lent word, and its values are zeros, but from 10 on the place of the fault first. Assumes nothing.
use Prim.Native.Nat.{ℕ, zero, suc}
use Rattle.std.specs.Prelude.{◌≡◌, List, [], ◌∷◌, ◌++◌}
use Rattle.std.proofs.Math.Path.{refl, ap}
use Rattle.std.proofs.Common.{sym, ◌∙◌}
use Rattle.std.proofs.Math.Bool.{true, false}
use Rattle.std.proofs.Math.ListN.{replicate}
use Rattle.geometry.specs.declared.Geometry.{Geometry}
use Rattle.slot.specs.declared.Pair.{Pair}
use Rattle.opening.specs.Reply.{Reply, first_failing, by_first, Filled}
use Rattle.call_ask.specs.Ask.{ask_of}
use Rattle.call_why.specs.Why.{why_lines, why_values, why_words, why_of}
use Rattle.call_check.specs.Check.{check_of}
use Rattle.call_check.specs.List.{list_of}
use Rattle.call_format.specs.Format.{format_tests, format_of}
use Rattle.call_put.specs.Edit.{Kept, put_of, drop_of}
use Rattle.replies.specs.Order.{whole_fault, walked_fault, put_fault, drop_fault, ask_tests, check_tests, list_tests, put_tests, drop_tests, fault_told, ask_done, ask_refused, check_done, check_refused, list_done, list_refused, format_done, format_refused, edit_done, edit_refused}
use Rattle.replies.specs.Ordered.{format_in_order}

-- A call x whose first failing test has the number n: it replies n, does its work where that is 0, and refuses with it otherwise.
pub record InOrder {A : Type 0} (number : A → ℕ) (x : A) (n : ℕ) (done : A) (refused : ℕ → A) : Type 0 where
  pub replies : number x ≡ n
  pub accepts : number x ≡ 0 → x ≡ done
  pub refuses : (number x ≡ 0 → ⊥) → x ≡ refused (number x)

module _ {A : Type 0} (number : A → ℕ) (x : A) (n : ℕ) (done : A) (refused : ℕ → A) (none : number done ≡ 0) (own : (m : ℕ) → number (refused m) ≡ m) where
  number_of_first : (m : ℕ) → number (by_first m done refused) ≡ m
  number_of_first zero = none
  number_of_first (suc m) = own (suc m)

  refused_by_first : (m : ℕ) → (m ≡ 0 → ⊥) → by_first m done refused ≡ refused m
  refused_by_first zero h = absurd (h refl)
  refused_by_first (suc m) h = refl

  pub in_order : x ≡ by_first n done refused → InOrder number x n done refused
  in_order e =
      let replied : number x ≡ n = ap number e ∙ number_of_first n in
      record {
        replies = replied;
        accepts = λ z. e ∙ ap (λ m. by_first m done refused) (sym replied ∙ z);
        refuses = λ h. e ∙ refused_by_first n (λ z. h (replied ∙ z)) ∙ ap refused (sym replied);
      }

abbrev pub reply_number : Reply → ℕ
reply_number r = r.number

abbrev pub filled_number : Filled → ℕ
filled_number f = f.reply.number

abbrev pub kept_number : Kept → ℕ
kept_number k = k.reply.number

-- Format.
module _ (w : List ℕ) (g : Geometry) where
  abbrev format_replied : Reply
  format_replied = (format_of w g).reply

  format_ordered : InOrder filled_number (format_of w g) (first_failing (format_tests w g)) (format_done g) (format_refused w)
  unfolding format_done format_refused
  format_ordered = in_order filled_number (format_of w g) (first_failing (format_tests w g)) (format_done g) (format_refused w) refl (λ n. refl) (format_in_order w g)

  pub format_reply_first_failing : format_replied.number ≡ first_failing (format_tests w g)
  format_reply_first_failing = format_ordered.replies

  pub format_accepts : format_replied.number ≡ 0 → format_of w g ≡ format_done g
  format_accepts = format_ordered.accepts

  pub format_refuses : (format_replied.number ≡ 0 → ⊥) → format_of w g ≡ format_refused w format_replied.number
  format_refuses = format_ordered.refuses

  pub format_refusal_keeps : (format_replied.number ≡ 0 → ⊥) → (format_of w g).words ≡ w
  unfolding format_refused
  format_refusal_keeps h = ap (λ (r : Filled). r.words) (format_refuses h)

  pub format_refusal_values : (format_replied.number ≡ 0 → ⊥) → format_replied.values ≡ 0 ∷ []
  unfolding format_refused
  format_refusal_values h = ap (λ (r : Filled). r.reply.values) (format_refuses h)
