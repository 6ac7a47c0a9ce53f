-- Two results that one promise allows are equal: the number r or s, out as a or b, and the words of store, work area and list. Assumes nothing.
use Rattle.std.specs.Prelude.{ℕ, ◌≡◌, List}
use Rattle.std.proofs.Common.{sym, ap, ◌∙◌}
use Rattle.geometry.specs.declared.Geometry.{Geometry}
use Rattle.slot.specs.declared.Pair.{Pair}
use Rattle.opening.specs.Reply.{Reply, replied, Filled, filled}
use Rattle.call_ask.specs.Ask.{ask_of}
use Rattle.call_why.specs.Why.{why_of}
use Rattle.call_check.specs.Check.{check_of}
use Rattle.call_check.specs.List.{list_of}
use Rattle.call_format.specs.Format.{format_of}
use Rattle.call_put.specs.Edit.{Kept, kept, put_of, drop_of}

module _ (r s : ℕ) (a b : List ℕ) where
  -- A reply, one with the words of a slice, and one with the words of store and work area, each told twice.
  told_reply : (x : Reply) → replied r a ≡ x → replied s b ≡ x → (r ≡ s) × (a ≡ b)
  told_reply x p q = let e = p ∙ sym q in (ap (λ (y : Reply). y.number) e, ap (λ (y : Reply). y.values) e)

  told_filled : (x : Filled) (v u : List ℕ) → filled r a v ≡ x → filled s b u ≡ x → (r ≡ s) × (a ≡ b) × (v ≡ u)
  told_filled x v u p q =
      let e = p ∙ sym q in
      (ap (λ (y : Filled). y.reply.number) e, ap (λ (y : Filled). y.reply.values) e, ap (λ (y : Filled). y.words) e)

  told_kept : (x : Kept) (v u m n : List ℕ) → kept r a v m ≡ x → kept s b u n ≡ x → (r ≡ s) × (a ≡ b) × (v ≡ u) × (m ≡ n)
  told_kept x v u m n p q =
      let e = p ∙ sym q in (
        ap (λ (y : Kept). y.reply.number) e,
        ap (λ (y : Kept). y.reply.values) e,
        ap (λ (y : Kept). y.store) e,
        ap (λ (y : Kept). y.work) e,
      )

  -- Each call. What a geometry's words are told as is equal to one number outright.
  pub format_has_one_result : (w : List ℕ) (g : Geometry) (v u : List ℕ) →
      filled r a v ≡ format_of w g → filled s b u ≡ format_of w g → (r ≡ s) × (a ≡ b) × (v ≡ u)
  format_has_one_result w g v u = told_filled (format_of w g) v u

  pub put_has_one_result : (w work : List ℕ) (pair : Pair) (v u m n : List ℕ) →
      kept r a v m ≡ put_of w work pair → kept s b u n ≡ put_of w work pair → (r ≡ s) × (a ≡ b) × (v ≡ u) × (m ≡ n)
  put_has_one_result w work pair v u m n = told_kept (put_of w work pair) v u m n

  pub drop_has_one_result : (w work : List ℕ) (pair : Pair) (v u m n : List ℕ) →
      kept r a v m ≡ drop_of w work pair → kept s b u n ≡ drop_of w work pair → (r ≡ s) × (a ≡ b) × (v ≡ u) × (m ≡ n)
  drop_has_one_result w work pair v u m n = told_kept (drop_of w work pair) v u m n

  pub ask_has_one_result : (w : List ℕ) (pair : Pair) → replied r a ≡ ask_of w pair → replied s b ≡ ask_of w pair → (r ≡ s) × (a ≡ b)
  ask_has_one_result w pair = told_reply (ask_of w pair)

  pub why_has_one_result : (w : List ℕ) (pair : Pair) → replied r a ≡ why_of w pair → replied s b ≡ why_of w pair → (r ≡ s) × (a ≡ b)
  why_has_one_result w pair = told_reply (why_of w pair)

  pub list_has_one_result : (w : List ℕ) (first second : Pair) (slice v u : List ℕ) →
      filled r a v ≡ list_of w first second slice → filled s b u ≡ list_of w first second slice → (r ≡ s) × (a ≡ b) × (v ≡ u)
  list_has_one_result w first second slice v u = told_filled (list_of w first second slice) v u

  pub check_has_one_result : (w : List ℕ) → replied r a ≡ check_of w → replied s b ≡ check_of w → (r ≡ s) × (a ≡ b)
  check_has_one_result w = told_reply (check_of w)
