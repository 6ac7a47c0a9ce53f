-- List on any words: the paper's numbers for what src/lib.rt answers, with every word of the slice afterwards, as a total function of the
-- store's words, the two pairs and the slice. Assumes nothing.
use Rattle.std.specs.Prelude.{ℕ, zero, suc, ◌≡◌, List, [], ◌∷◌, Result, Ok, Err, IsErrAnd}
use Rattle.std.proofs.Common.{sym, ap, ◌∙◌}
use Rattle.geometry.specs.declared.Store.{Store}
use Rattle.slot.specs.declared.Pair.{Pair}
use Rattle.rules.specs.Listing.{Listed, list}
use Rattle.geometry.specs.Directory.{geometry_of}
use Rattle.fault.specs.declared.Fault.{Fault as FaultOf}
use Rattle.fault.specs.Judged.{Judged}
use Rattle.rules.specs.Sound.{tree_of}
use Rattle.rules.specs.Faults.{fault}
use Rattle.listing.specs.declared.Listed.{Listed as Written}
use Rattle.opening.specs.declared.Unopened.{Unopened}
use Rattle.opening.specs.declared.Unopened.TheVariants.{Range, Length}
use Rattle.opening.specs.declared.Refusal.{Refusal}
use Rattle.opening.specs.declared.Refusal.TheVariants.{Fault}
use Rattle.opening.specs.Refused.{refusal_of, refused_reply, error_told}
use Rattle.opening.specs.Reply.{Reply, replied, fault_number, fault_values, Filled, filled}
use Rattle.opening.specs.Opening.{opening, Opens}

-- The number of pairs written and the mark; a refusal returns zeros, but a fault its place.
abbrev pub shown_reply : Result Written Refusal → Reply
shown_reply (Ok l) = replied 0 (l.pairs ∷ l.mark ∷ 0 ∷ [])
shown_reply (Err refusal) = refused_reply refusal

abbrev pub list_reply : Result Written Refusal → List ℕ → Filled
list_reply shown words = record { reply = shown_reply shown; words = words }

-- A sound store gives its held pairs; any other is refused, and the slice stays as it was.
abbrev pub listed_reply : Listed → Filled
listed_reply l = filled 0 (l.pairs ∷ l.mark ∷ 0 ∷ []) l.words

abbrev pub tested_reply : Judged → Listed → List ℕ → Filled
tested_reply (Ok tt) listed slice = listed_reply listed
tested_reply (Err f) listed slice = filled (fault_number f) (fault_values f) slice

-- After the opening tests, the whole-store test, and then the list.
abbrev pub unless_refused : ℕ → List ℕ → Filled → Filled
unless_refused zero slice done = done
unless_refused (suc n) slice done = filled (suc n) (0 ∷ 0 ∷ 0 ∷ []) slice

unfoldable pub list_of : List ℕ → Pair → Pair → List ℕ → Filled
list_of w first second slice =
    unless_refused (opening w) slice (tested_reply (fault (geometry_of w) w) (list first second (tree_of (geometry_of w) w) slice) slice)

-- The reply by what the tests gave.
module _ (w : List ℕ) (first second : Pair) (slice : List ℕ) where
  pub list_refused_lem : (n : ℕ) → opening w ≡ suc n → filled (suc n) (0 ∷ 0 ∷ 0 ∷ []) slice ≡ list_of w first second slice
  unfolding list_of
  list_refused_lem n e = rw e

  pub list_tested : opening w ≡ 0 →
      tested_reply (fault (geometry_of w) w) (list first second (tree_of (geometry_of w) w) slice) slice ≡ list_of w first second slice
  unfolding list_of
  list_tested e = rw e

  pub list_opened : (s : Store) → Opens w (Ok s) →
      tested_reply (fault s.geometry s.words.now) (list first second (tree_of s.geometry s.words.now) slice) slice ≡ list_of w first second slice
  list_opened s o = rw (o.1, o.2) (list_tested o.0)

  -- By what the code's steps came to: words that are no store, and a fault.
  pub list_unopened : (why : Unopened) (told : Result Written Refusal) → Opens w (Err why) → IsErrAnd told (λ x. x ≡ refusal_of why) →
      list_reply told slice ≡ list_of w first second slice
  list_unopened Range told o e = rw (error_told told e) (list_refused_lem 0 o)
  list_unopened Length told o e = rw (error_told told e) (list_refused_lem 4 o)

  pub list_faulty : (s : Store) (f : FaultOf) (told : Result Written Refusal) → Opens w (Ok s) → Err f ≡ fault s.geometry s.words.now →
      IsErrAnd told (λ x. x ≡ Fault f) → list_reply told slice ≡ list_of w first second slice
  list_faulty s f told o finds e =
      let tested = list first second (tree_of s.geometry s.words.now) slice in
      rw (error_told told e) (ap (λ (j : Judged). tested_reply j tested slice) finds ∙ list_opened s o)

  -- The pairs of a store that is sound.
  pub list_passes : (s : Store) → Opens w (Ok s) → Ok tt ≡ fault s.geometry s.words.now →
      listed_reply (list first second (tree_of s.geometry s.words.now) slice) ≡ list_of w first second slice
  list_passes s o finds =
      let tested = list first second (tree_of s.geometry s.words.now) slice in
      ap (λ (j : Judged). tested_reply j tested slice) finds ∙ list_opened s o
