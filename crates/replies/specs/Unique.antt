-- Two answers that one promise allows are equal: the number and values of a reply tell the answer that they are of. Assumes nothing.
use Rattle.std.specs.Prelude.{ℕ, zero, suc, ◌≡◌, refl, Bool, true, false, List, get_or, eqb, Result, ⊤, Ok, Err}
use Rattle.std.proofs.Common.{sym, ap, ◌∙◌}
use Rattle.fault.specs.declared.Part.{Part}
use Rattle.fault.specs.declared.Part.TheVariants.{Directory, Head, Page, Writing, Kinds}
use Rattle.fault.specs.Numbers.{fault_in}
use Rattle.geometry.specs.declared.Geometry.{Geometry}
use Rattle.slot.specs.declared.Pair.{Pair}
use Rattle.walk.specs.declared.Found.{Found}
use Rattle.listing.specs.declared.Listed.{Listed}
use Rattle.opening.specs.declared.Unopened.{Unopened}
use Rattle.opening.specs.declared.Unopened.TheVariants.{Range as RangeUnopened, Length as LengthUnopened}
use Rattle.opening.specs.declared.Refusal.{Refusal}
use Rattle.opening.specs.declared.Refusal.TheVariants.{Range, Length, Fault}
use Rattle.opening.specs.Reply.{Reply, fault_by, Filled}
use Rattle.opening.specs.Refused.{refused_reply}
use Rattle.call_ask.specs.Ask.{ask_reply, ask_of}
use Rattle.call_why.specs.Why.{why_words}
use Rattle.call_check.specs.Check.{check_reply, check_of}
use Rattle.call_check.specs.List.{list_reply, list_of}
use Rattle.call_format.specs.Format.{format_reply, format_of}

-- A choice by the reply's number: 0, 1, 5, and any other for a fault.
pick : {A : Type 0} → ℕ → A → A → A → A → A
pick zero done range length fault = done
pick (suc zero) done range length fault = range
pick (suc (suc n)) done range length fault = elim (eqb n 3) [ true ↦ length | false ↦ fault ]

-- An answer, or the refusal that a reply tells.
answer_by : {A : Type 0} → A → Reply → Result A Refusal
answer_by answer r = pick r.number (Ok answer) (Err Range) (Err Length) (Err (Fault (fault_by r.number r.values)))

refusal_told : {A : Type 0} (answer : A) (a : Refusal) → answer_by answer (refused_reply a) ≡ Err a
unfolding answer_by pick
refusal_told answer Range = refl
refusal_told answer Length = refl
refusal_told {A = A} answer (Fault fault) = by fault.part
  where
    by : (part : Part) → ◌≡◌ {A = Result A Refusal} (answer_by answer (refused_reply (Fault (fault_in part fault.level fault.page fault.slot))))
        (Err (Fault (fault_in part fault.level fault.page fault.slot)))
    by Directory = refl
    by Head = refl
    by Page = refl
    by Writing = refl
    by Kinds = refl

-- Ask.
asked_by : Reply → Result Found Refusal
asked_by r = answer_by (record { held = eqb (get_or r.values 0 0) 1; level = get_or r.values 1 0 }) r

ask_told : (a : Result Found Refusal) → asked_by (ask_reply a) ≡ a
unfolding asked_by answer_by pick
ask_told (Ok f) = by f.held
  where
    by : (held : Bool) → ◌≡◌ {A = Result Found Refusal} (asked_by (ask_reply (Ok (record { held = held; level = f.level })))) (Ok (record { held = held; level = f.level }))
    by true = refl
    by false = refl
ask_told (Err refusal) = refusal_told _ refusal

pub ask_has_one_answer : (w : List ℕ) (pair : Pair) (a b : Result Found Refusal) → ask_reply a ≡ ask_of w pair → ask_reply b ≡ ask_of w pair → a ≡ b
ask_has_one_answer w pair a b p q = sym (ask_told a) ∙ ap asked_by (p ∙ sym q) ∙ ask_told b

pub why_has_one_answer : (w : List ℕ) (pair : Pair) (a b : Result Found Refusal) (t u : List ℕ) → ask_reply a ≡ ask_of w pair → ask_reply b ≡ ask_of w pair →
    t ≡ why_words w pair → u ≡ why_words w pair → (a ≡ b) × (t ≡ u)
why_has_one_answer w pair a b t u p q x y = (ask_has_one_answer w pair a b p q, x ∙ sym y)

-- Check.
checked_by : Reply → Result ⊤ Refusal
checked_by r = answer_by tt r

check_told : (a : Result ⊤ Refusal) → checked_by (check_reply a) ≡ a
unfolding checked_by answer_by pick
check_told (Ok done) = refl
check_told (Err refusal) = refusal_told tt refusal

pub check_has_one_answer : (w : List ℕ) (a b : Result ⊤ Refusal) → check_reply a ≡ check_of w → check_reply b ≡ check_of w → a ≡ b
check_has_one_answer w a b p q = sym (check_told a) ∙ ap checked_by (p ∙ sym q) ∙ check_told b

-- List, with every word of the slice.
shown_by : Filled → Result Listed Refusal
shown_by f =
    let r = f.reply in
    answer_by (record { pairs = get_or r.values 0 0; mark = get_or r.values 1 0 }) r

list_told : (a : Result Listed Refusal) (words : List ℕ) → shown_by (list_reply a words) ≡ a
unfolding shown_by answer_by pick
list_told (Ok listed) words = refl
list_told (Err refusal) words = refusal_told _ refusal

pub list_has_one_answer : (w : List ℕ) (first second : Pair) (slice : List ℕ) (a b : Result Listed Refusal) (v u : List ℕ) →
    list_reply a v ≡ list_of w first second slice → list_reply b u ≡ list_of w first second slice → (a ≡ b) × (v ≡ u)
list_has_one_answer w first second slice a b v u p q = (
  sym (list_told a v) ∙ ap shown_by (p ∙ sym q) ∙ list_told b u,
  ap (λ (f : Filled). f.words) (p ∙ sym q),
)

-- Format, with every word of the store.
formatted_by : Filled → Result ⊤ Unopened
formatted_by f = pick f.reply.number (Ok tt) (Err RangeUnopened) (Err LengthUnopened) (Err LengthUnopened)

format_told : (a : Result ⊤ Unopened) (words : List ℕ) → formatted_by (format_reply a words) ≡ a
unfolding formatted_by pick
format_told (Ok done) words = refl
format_told (Err RangeUnopened) words = refl
format_told (Err LengthUnopened) words = refl

pub format_has_one_answer : (w : List ℕ) (g : Geometry) (a b : Result ⊤ Unopened) (v u : List ℕ) → format_reply a v ≡ format_of w g → format_reply b u ≡ format_of w g →
    (a ≡ b) × (v ≡ u)
format_has_one_answer w g a b v u p q = (
  sym (format_told a v) ∙ ap formatted_by (p ∙ sym q) ∙ format_told b u,
  ap (λ (f : Filled). f.words) (p ∙ sym q),
)
