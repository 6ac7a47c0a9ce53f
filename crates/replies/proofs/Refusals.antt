-- The number that a call replies is that of the first test, in the paper's order, that fails; 0 where every test passes. A refusal leaves every
-- lent word, and its values are zeros, but from 10 on the place of the fault first. Assumes nothing.
use Prim.Native.Nat.{ℕ, zero, suc}
use Rattle.std.specs.Prelude.{◌≡◌, List, [], ◌∷◌, ◌++◌}
use Rattle.std.proofs.Math.Path.{refl, ap}
use Rattle.std.proofs.Common.{sym, ◌∙◌}
use Rattle.std.proofs.Math.Bool.{true, false}
use Rattle.std.proofs.Math.ListN.{replicate}
use Rattle.geometry.specs.declared.Geometry.{Geometry}
use Rattle.slot.specs.declared.Pair.{Pair}
use Rattle.opening.specs.Reply.{Reply, first_failing, by_first, Filled}
use Rattle.call_ask.specs.Ask.{ask_of}
use Rattle.call_why.specs.Why.{why_lines, why_values, why_words, why_of}
use Rattle.call_check.specs.Check.{check_of}
use Rattle.call_check.specs.List.{list_of}
use Rattle.call_format.specs.Format.{format_tests, format_of}
use Rattle.call_put.specs.Edit.{Kept, put_of, drop_of}
use Rattle.replies.specs.Order.{whole_fault, walked_fault, put_fault, drop_fault, ask_tests, check_tests, list_tests, put_tests, drop_tests, fault_told, ask_done, ask_refused, check_done, check_refused, list_done, list_refused, format_done, format_refused, edit_done, edit_refused}
use Rattle.replies.specs.Ordered.{format_in_order}
use Rattle.replies.proofs.Ordered.{ask_in_order, check_in_order, list_in_order, put_in_order, drop_in_order}
use Rattle.replies.specs.Refusals.{InOrder, filled_number, in_order, kept_number, reply_number}

-- Put.
module _ (w work : List ℕ) (p : Pair) where
  abbrev put_replied : Reply
  put_replied = (put_of w work p).reply

  put_ordered : InOrder kept_number (put_of w work p) (first_failing (put_tests w work p)) (edit_done w work true p) (edit_refused w work (put_fault w p))
  unfolding edit_done edit_refused
  put_ordered = in_order kept_number (put_of w work p) (first_failing (put_tests w work p)) (edit_done w work true p) (edit_refused w work (put_fault w p)) refl (λ n. refl) (put_in_order w work p)

  pub put_reply_first_failing : put_replied.number ≡ first_failing (put_tests w work p)
  put_reply_first_failing = put_ordered.replies

  pub put_accepts : put_replied.number ≡ 0 → put_of w work p ≡ edit_done w work true p
  put_accepts = put_ordered.accepts

  pub put_refuses : (put_replied.number ≡ 0 → ⊥) → put_of w work p ≡ edit_refused w work (put_fault w p) put_replied.number
  put_refuses = put_ordered.refuses

  pub put_refusal_keeps : (put_replied.number ≡ 0 → ⊥) → ((put_of w work p).store ≡ w) × ((put_of w work p).work ≡ work)
  unfolding edit_refused
  put_refusal_keeps h = (ap (λ (r : Kept). r.store) (put_refuses h), ap (λ (r : Kept). r.work) (put_refuses h))

  pub put_refusal_values : (put_replied.number ≡ 0 → ⊥) → put_replied.values ≡ fault_told put_replied.number (put_fault w p) ++ 0 ∷ 0 ∷ 0 ∷ 0 ∷ []
  unfolding edit_refused
  put_refusal_values h = ap (λ (r : Kept). r.reply.values) (put_refuses h)

-- Drop.
module _ (w work : List ℕ) (p : Pair) where
  abbrev drop_replied : Reply
  drop_replied = (drop_of w work p).reply

  drop_ordered : InOrder kept_number (drop_of w work p) (first_failing (drop_tests w work p)) (edit_done w work false p) (edit_refused w work (drop_fault w p))
  unfolding edit_done edit_refused
  drop_ordered = in_order kept_number (drop_of w work p) (first_failing (drop_tests w work p)) (edit_done w work false p) (edit_refused w work (drop_fault w p)) refl (λ n. refl) (drop_in_order w work p)

  pub drop_reply_first_failing : drop_replied.number ≡ first_failing (drop_tests w work p)
  drop_reply_first_failing = drop_ordered.replies

  pub drop_accepts : drop_replied.number ≡ 0 → drop_of w work p ≡ edit_done w work false p
  drop_accepts = drop_ordered.accepts

  pub drop_refuses : (drop_replied.number ≡ 0 → ⊥) → drop_of w work p ≡ edit_refused w work (drop_fault w p) drop_replied.number
  drop_refuses = drop_ordered.refuses

  pub drop_refusal_keeps : (drop_replied.number ≡ 0 → ⊥) → ((drop_of w work p).store ≡ w) × ((drop_of w work p).work ≡ work)
  unfolding edit_refused
  drop_refusal_keeps h = (ap (λ (r : Kept). r.store) (drop_refuses h), ap (λ (r : Kept). r.work) (drop_refuses h))

  pub drop_refusal_values : (drop_replied.number ≡ 0 → ⊥) → drop_replied.values ≡ fault_told drop_replied.number (drop_fault w p) ++ 0 ∷ 0 ∷ 0 ∷ 0 ∷ []
  unfolding edit_refused
  drop_refusal_values h = ap (λ (r : Kept). r.reply.values) (drop_refuses h)

-- Ask.
module _ (w : List ℕ) (p : Pair) where
  abbrev ask_replied : Reply
  ask_replied = ask_of w p

  ask_ordered : InOrder reply_number (ask_of w p) (first_failing (ask_tests w p)) (ask_done w p) (ask_refused w p)
  unfolding ask_done ask_refused
  ask_ordered = in_order reply_number (ask_of w p) (first_failing (ask_tests w p)) (ask_done w p) (ask_refused w p) refl (λ n. refl) (ask_in_order w p)

  pub ask_reply_first_failing : ask_replied.number ≡ first_failing (ask_tests w p)
  ask_reply_first_failing = ask_ordered.replies

  pub ask_accepts : ask_replied.number ≡ 0 → ask_of w p ≡ ask_done w p
  ask_accepts = ask_ordered.accepts

  pub ask_refuses : (ask_replied.number ≡ 0 → ⊥) → ask_of w p ≡ ask_refused w p ask_replied.number
  ask_refuses = ask_ordered.refuses

  pub ask_refusal_values : (ask_replied.number ≡ 0 → ⊥) → ask_replied.values ≡ fault_told ask_replied.number (walked_fault w p)
  unfolding ask_refused
  ask_refusal_values h = ap (λ (r : Reply). r.values) (ask_refuses h)

-- Why tests what ask tests.
module _ (w : List ℕ) (p : Pair) where
  abbrev why_replied : Reply
  why_replied = why_of w p

  pub why_reply_first_failing : why_replied.number ≡ first_failing (ask_tests w p)
  unfolding why_of
  why_reply_first_failing = ask_reply_first_failing w p

  pub why_refusal_values : (why_replied.number ≡ 0 → ⊥) → why_replied.values ≡ (ask_of w p).values ++ replicate 19 0
  unfolding why_of why_words
  why_refusal_values h = by (ask_of w p).number refl
    where
      by : (n : ℕ) → (ask_of w p).number ≡ n → why_values (ask_of w p) (why_lines w p) ≡ (ask_of w p).values ++ replicate 19 0
      by zero e = absurd (h e)
      by (suc n) e = rw e refl

-- Check.
module _ (w : List ℕ) where
  abbrev check_replied : Reply
  check_replied = check_of w

  check_ordered : InOrder reply_number (check_of w) (first_failing (check_tests w)) check_done (check_refused w)
  unfolding check_done check_refused
  check_ordered = in_order reply_number (check_of w) (first_failing (check_tests w)) check_done (check_refused w) refl (λ n. refl) (check_in_order w)

  pub check_reply_first_failing : check_replied.number ≡ first_failing (check_tests w)
  check_reply_first_failing = check_ordered.replies

  pub check_accepts : check_replied.number ≡ 0 → check_of w ≡ check_done
  check_accepts = check_ordered.accepts

  pub check_refuses : (check_replied.number ≡ 0 → ⊥) → check_of w ≡ check_refused w check_replied.number
  check_refuses = check_ordered.refuses

  pub check_refusal_values : (check_replied.number ≡ 0 → ⊥) → check_replied.values ≡ fault_told check_replied.number (whole_fault w)
  unfolding check_refused
  check_refusal_values h = ap (λ (r : Reply). r.values) (check_refuses h)

-- List.
module _ (w : List ℕ) (first second : Pair) (slice : List ℕ) where
  abbrev list_replied : Reply
  list_replied = (list_of w first second slice).reply

  list_ordered : InOrder filled_number (list_of w first second slice) (first_failing (list_tests w)) (list_done w first second slice) (list_refused w slice)
  unfolding list_done list_refused
  list_ordered = in_order filled_number (list_of w first second slice) (first_failing (list_tests w)) (list_done w first second slice) (list_refused w slice) refl (λ n. refl) (list_in_order w first second slice)

  pub list_reply_first_failing : list_replied.number ≡ first_failing (list_tests w)
  list_reply_first_failing = list_ordered.replies

  pub list_accepts : list_replied.number ≡ 0 → list_of w first second slice ≡ list_done w first second slice
  list_accepts = list_ordered.accepts

  pub list_refuses : (list_replied.number ≡ 0 → ⊥) → list_of w first second slice ≡ list_refused w slice list_replied.number
  list_refuses = list_ordered.refuses

  pub list_refusal_keeps : (list_replied.number ≡ 0 → ⊥) → (list_of w first second slice).words ≡ slice
  unfolding list_refused
  list_refusal_keeps h = ap (λ (r : Filled). r.words) (list_refuses h)

  pub list_refusal_values : (list_replied.number ≡ 0 → ⊥) → list_replied.values ≡ fault_told list_replied.number (whole_fault w)
  unfolding list_refused
  list_refusal_values h = ap (λ (r : Filled). r.reply.values) (list_refuses h)
