-- A call that the tests of numbers and lengths refuse: zeros for values, and every lent word stays. Assumes nothing.
use Rattle.std.specs.Prelude.{ℕ, suc, ◌≡◌, ◌≢◌, List, [], ◌∷◌, replicate}
use Rattle.std.proofs.Math.Path.{refl}
use Rattle.std.proofs.Math.Bool.{true, false}
use Rattle.std.proofs.Common.{ne_eqb}
use Rattle.geometry.specs.declared.Geometry.{Geometry}
use Rattle.geometry.specs.Places.{store_words}
use Rattle.rules.specs.Requests.{Request, putting, dropping}
use Rattle.opening.specs.Opening.{opening, opening_both, both_refused}
use Rattle.call_ask.specs.Ask.{ask_refused_lem}
use Rattle.trail_words.specs.Places.{trail_words}
use Rattle.call_why.specs.Why.{why_refused}
use Rattle.call_check.specs.Check.{check_refused_lem}
use Rattle.call_check.specs.List.{list_refused_lem}
use Rattle.call_format.specs.Format.{format_of, format_tests}
use Rattle.opening.specs.Reply.{first_failing}
use Rattle.call_put.specs.Edit.{zeros, edit_refused_lem}
use Rattle.conditions.specs.Calls.{Task, formatting, changing, asking, explaining, listing, checking, Comes, change_on, comes_to}
use Rattle.conditions.specs.Lengths.{tests_of, refusal}
use Rattle.conditions.specs.Plain.{refusing}
use Rattle.conditions.specs.Seen.{seen_of}
use Rattle.conditions.specs.Reports.{pages_in}

unfoldable pub zeros_of : Task → List ℕ
zeros_of (formatting g) = 0 ∷ []
zeros_of (changing r work) = zeros
zeros_of (asking p) = 0 ∷ 0 ∷ 0 ∷ []
zeros_of (explaining p) = replicate trail_words 0
zeros_of (listing first second slice) = 0 ∷ 0 ∷ 0 ∷ []
zeros_of checking = 0 ∷ 0 ∷ 0 ∷ []

unfoldable pub lent_beside : Task → List ℕ
lent_beside (formatting g) = []
lent_beside (changing r work) = work
lent_beside (asking p) = []
lent_beside (explaining p) = []
lent_beside (listing first second slice) = slice
lent_beside checking = []

unfoldable pub refused_on : ℕ → Task → List ℕ → Comes
refused_on n task w = record { reply = record { number = n; values = zeros_of task }; store = w; beside = lent_beside task }

-- It is seen as the set's refusal, and reports no pages.
module _ (n : ℕ) (w : List ℕ) where
  pub refused_seen : (task : Task) → seen_of task (refused_on n task w).reply (refused_on n task w).beside ≡ refusing n task
  unfolding seen_of refusing refused_on zeros_of lent_beside
  refused_seen (formatting g) = refl
  refused_seen (changing r work) = refl
  refused_seen (asking p) = refl
  refused_seen (explaining p) = refl
  refused_seen (listing first second slice) = refl
  refused_seen checking = refl

  pub refused_pages : (task : Task) → pages_in task (refused_on n task w).reply ≡ 0
  unfolding pages_in refused_on zeros_of
  refused_pages (formatting g) = refl
  refused_pages (changing r work) = refl
  refused_pages (asking p) = refl
  refused_pages (explaining p) = refl
  refused_pages (listing first second slice) = refl
  refused_pages checking = refl

-- Every call but format, which reads no store.
unfoldable pub ReadsStore : Task → Type 0
ReadsStore (formatting g) = ⊥
ReadsStore (changing r work) = Unit {0}
ReadsStore (asking p) = Unit {0}
ReadsStore (explaining p) = Unit {0}
ReadsStore (listing first second slice) = Unit {0}
ReadsStore checking = Unit {0}

-- By the opening tests: of the store for ask, why, list and check, of the work area too for put and drop; by its own for format.
module _ (n : ℕ) (w : List ℕ) where
  pub change_refused : (r : Request) (work : List ℕ) → opening_both w work ≡ suc n → comes_to (changing r work) w ≡ refused_on (suc n) (changing r work) w
  unfolding comes_to change_on refused_on zeros_of lent_beside
  change_refused (putting p) work e = rw (← (edit_refused_lem w work true p n e)) refl
  change_refused (dropping p) work e = rw (← (edit_refused_lem w work false p n e)) refl

  pub format_refused_lem : (g : Geometry) → first_failing (format_tests w g) ≡ suc n → comes_to (formatting g) w ≡ refused_on (suc n) (formatting g) w
  unfolding comes_to format_of refused_on zeros_of lent_beside
  format_refused_lem g e = rw e refl

  pub opening_refuses : (task : Task) → ReadsStore task → opening w ≡ suc n → comes_to task w ≡ refused_on (suc n) task w
  unfolding ReadsStore comes_to refused_on zeros_of lent_beside
  opening_refuses (formatting g) f e = absurd f
  opening_refuses (changing r work) f e = change_refused r work (both_refused w work n e)
  opening_refuses (asking p) f e = rw (← (ask_refused_lem w p n e)) refl
  opening_refuses (explaining p) f e = rw (← (why_refused w p n e)) refl
  opening_refuses (listing first second slice) f e = rw (← (list_refused_lem w first second slice n e)) refl
  opening_refuses checking f e = rw (← (check_refused_lem w n e)) refl

-- The tests of lengths refuse the same of a store that is not lent in its exact length.
pub length_refuses : (g : Geometry) (lent : ℕ) (task : Task) → ReadsStore task → lent ≢ store_words g →
    refusal g (record { lent = lent; task = task }) ≡ 5
unfolding ReadsStore refusal tests_of first_failing
length_refuses g lent (formatting h) f o = absurd f
length_refuses g lent (changing r work) f o = rw (ne_eqb lent (store_words g) o, first_failing) refl
length_refuses g lent (asking p) f o = rw (ne_eqb lent (store_words g) o, first_failing) refl
length_refuses g lent (explaining p) f o = rw (ne_eqb lent (store_words g) o, first_failing) refl
length_refuses g lent (listing first second slice) f o = rw (ne_eqb lent (store_words g) o, first_failing) refl
length_refuses g lent checking f o = rw (ne_eqb lent (store_words g) o, first_failing) refl
