-- Check on any words: the paper's numbers for what src/lib.rt answers, and the answer as a total function of words. Assumes nothing.
use Rattle.std.specs.Prelude.{ℕ, suc, ◌≡◌, List, [], ◌∷◌, Result, ⊤, Ok, Err, IsErrAnd}
use Rattle.std.proofs.Common.{ap, ◌∙◌}
use Rattle.geometry.specs.declared.Store.{Store}
use Rattle.geometry.specs.Directory.{geometry_of}
use Rattle.fault.specs.declared.Fault.{Fault as FaultOf}
use Rattle.fault.specs.Judged.{Judged}
use Rattle.rules.specs.Faults.{fault}
use Rattle.opening.specs.declared.Unopened.{Unopened}
use Rattle.opening.specs.declared.Unopened.TheVariants.{Range, Length}
use Rattle.opening.specs.declared.Refusal.{Refusal}
use Rattle.opening.specs.declared.Refusal.TheVariants.{Fault}
use Rattle.opening.specs.Refused.{refusal_of, refused_reply, error_told}
use Rattle.opening.specs.Reply.{Reply, fault_number, fault_values, unless}
use Rattle.opening.specs.Opening.{opening, Opens}

-- Check returns zeros when done; a refusal returns zeros, but a fault its place.
abbrev pub check_reply : Result ⊤ Refusal → Reply
check_reply (Ok tt) = record { number = 0; values = 0 ∷ 0 ∷ 0 ∷ [] }
check_reply (Err refusal) = refused_reply refusal

abbrev pub judged_reply : Judged → Reply
judged_reply (Ok tt) = record { number = 0; values = 0 ∷ 0 ∷ 0 ∷ [] }
judged_reply (Err f) = record { number = fault_number f; values = fault_values f }

-- After the opening tests, the whole-store test.
unfoldable pub check_of : List ℕ → Reply
check_of w = unless (opening w) (0 ∷ 0 ∷ 0 ∷ []) (judged_reply (fault (geometry_of w) w))

-- The reply by what the opening tests gave.
module _ (w : List ℕ) where
  pub check_refused_lem : (n : ℕ) → opening w ≡ suc n → record { number = suc n; values = 0 ∷ 0 ∷ 0 ∷ [] } ≡ check_of w
  unfolding check_of
  check_refused_lem n e = rw e

  pub check_tested : opening w ≡ 0 → judged_reply (fault (geometry_of w) w) ≡ check_of w
  unfolding check_of
  check_tested e = rw e

  pub check_opened : (s : Store) → Opens w (Ok s) → judged_reply (fault s.geometry s.words.now) ≡ check_of w
  check_opened s o = rw (o.1, o.2) (check_tested o.0)

  -- By what the code's steps came to: words that are no store, a fault, and none.
  pub check_unopened : (why : Unopened) (told : Result ⊤ Refusal) → Opens w (Err why) → IsErrAnd told (λ x. x ≡ refusal_of why) → check_reply told ≡ check_of w
  check_unopened Range told o e = rw (error_told told e) (check_refused_lem 0 o)
  check_unopened Length told o e = rw (error_told told e) (check_refused_lem 4 o)

  pub check_faulty : (s : Store) (f : FaultOf) (told : Result ⊤ Refusal) → Opens w (Ok s) → Err f ≡ fault s.geometry s.words.now →
      IsErrAnd told (λ x. x ≡ Fault f) → check_reply told ≡ check_of w
  check_faulty s f told o finds e = rw (error_told told e) (ap judged_reply finds ∙ check_opened s o)

  pub check_passes : (s : Store) → Opens w (Ok s) → Ok tt ≡ fault s.geometry s.words.now → check_reply (Ok tt) ≡ check_of w
  check_passes s o finds = ap judged_reply finds ∙ check_opened s o
