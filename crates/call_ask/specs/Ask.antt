-- Ask on any words: the paper's numbers for what src/lib.rt answers, and the answer as a total function of words and pair. Assumes nothing.
use Prim.Native.Nat.{ℕ, zero, suc}
use Rattle.std.proofs.Common.{arith, ap, ◌∙◌}
use Rattle.std.specs.Prelude.{◌≡◌, Bool, true, false, cond, List, [], ◌∷◌, Result, Ok, Err, IsErrAnd}
use Rattle.std.proofs.Math.Path.{refl}
use Rattle.std.proofs.Math.ListN.{get_or}
use Rattle.fault.specs.declared.Fault.{Fault as FaultOf}
use Rattle.fault.specs.declared.Part.{Part}
use Rattle.fault.specs.declared.Part.TheVariants.{Directory, Head, Page, Writing, Kinds}
use Rattle.fault.specs.Numbers.{number_of}
use Rattle.geometry.specs.declared.Store.{Store}
use Rattle.slot.specs.declared.Pair.{Pair}
use Rattle.geometry.specs.Directory.{geometry_of}
use Rattle.walk.specs.declared.Found.{Found}
use Rattle.walk.specs.Walked.{Walked, found}
use Rattle.walk.specs.Walk.{walked}
use Rattle.opening.specs.Reply.{Reply, replied, fault_number, fault_values, unless}
use Rattle.opening.specs.declared.Refusal.{Refusal}
use Rattle.opening.specs.declared.Refusal.TheVariants.{Fault}
use Rattle.opening.specs.declared.Unopened.{Unopened}
use Rattle.opening.specs.declared.Unopened.TheVariants.{Range, Length}
use Rattle.opening.specs.Refused.{refusal_of, refused_reply, error_told}
use Rattle.opening.specs.Opening.{opening, Opens}

-- Held is 1 or 0, then the deciding level; a refusal returns zeros, but a fault its place.
abbrev pub ask_reply : Result Found Refusal → Reply
ask_reply (Ok f) = record { number = 0; values = cond f.held 1 0 ∷ f.level ∷ 0 ∷ [] }
ask_reply (Err refusal) = refused_reply refusal

abbrev pub walk_reply : Walked → Reply
walk_reply (Ok f) = record { number = 0; values = cond f.held 1 0 ∷ f.level ∷ 0 ∷ [] }
walk_reply (Err fault) = record { number = fault_number fault; values = fault_values fault }

-- After the opening tests, the walk.
unfoldable pub ask_of : List ℕ → Pair → Reply
ask_of w pair = unless (opening w) (0 ∷ 0 ∷ 0 ∷ []) (walk_reply (walked (geometry_of w) w pair))

abbrev pub first_three : List ℕ → List ℕ
first_three values = get_or values 0 0 ∷ get_or values 1 0 ∷ get_or values 2 0 ∷ []

-- A fault's number is not 0.
not_zero : (part : Part) → number_of part ≡ 0 → ⊥
not_zero Directory z = omega (arith, z)
not_zero Head z = omega (arith, z)
not_zero Page z = omega (arith, z)
not_zero Writing z = omega (arith, z)
not_zero Kinds z = omega (arith, z)

-- The reply by what the opening tests gave.
module _ (w : List ℕ) (pair : Pair) where
  pub ask_refused_lem : (n : ℕ) → opening w ≡ suc n → record { number = suc n; values = 0 ∷ 0 ∷ 0 ∷ [] } ≡ ask_of w pair
  unfolding ask_of
  ask_refused_lem n e = rw e

  pub ask_walked : opening w ≡ 0 → walk_reply (walked (geometry_of w) w pair) ≡ ask_of w pair
  unfolding ask_of
  ask_walked e = rw e

  pub ask_opened : (s : Store) → Opens w (Ok s) → walk_reply (walked s.geometry s.words.now pair) ≡ ask_of w pair
  ask_opened s o = rw (o.1, o.2) (ask_walked o.0)

  -- By what the code's steps came to: words that are no store, a fault of the walk, and an answer.
  pub ask_unopened : (why : Unopened) (told : Result Found Refusal) → Opens w (Err why) → IsErrAnd told (λ x. x ≡ refusal_of why) → ask_reply told ≡ ask_of w pair
  ask_unopened Range told o e = rw (error_told told e) (ask_refused_lem 0 o)
  ask_unopened Length told o e = rw (error_told told e) (ask_refused_lem 4 o)

  pub ask_faulty : (s : Store) (f : FaultOf) (told : Result Found Refusal) → Opens w (Ok s) → Err f ≡ walked s.geometry s.words.now pair →
      IsErrAnd told (λ x. x ≡ Fault f) → ask_reply told ≡ ask_of w pair
  ask_faulty s f told o walks e = rw (error_told told e) (ap walk_reply walks ∙ ask_opened s o)

  pub ask_answers : (s : Store) (f : Found) → Opens w (Ok s) → Ok f ≡ walked s.geometry s.words.now pair → ask_reply (Ok f) ≡ ask_of w pair
  ask_answers s f o walks = ap walk_reply walks ∙ ask_opened s o

  -- A reply has three values.
  pub three_values : (ask_of w pair).values ≡ first_three (ask_of w pair).values
  unfolding ask_of
  three_values = by (opening w) (walked (geometry_of w) w pair)
    where
      by : (n : ℕ) (walk : Walked) → (unless n (0 ∷ 0 ∷ 0 ∷ []) (walk_reply walk)).values ≡ first_three (unless n (0 ∷ 0 ∷ 0 ∷ []) (walk_reply walk)).values
      by zero (Ok f) = refl
      by zero (Err fault) = refl
      by (suc n) walk = refl

  -- An answer's third is 0.
  pub answer_ends : (ask_of w pair).number ≡ 0 → get_or (ask_of w pair).values 2 0 ≡ 0
  unfolding ask_of
  answer_ends = by (opening w) (walked (geometry_of w) w pair)
    where
      by : (n : ℕ) (walk : Walked) → (unless n (0 ∷ 0 ∷ 0 ∷ []) (walk_reply walk)).number ≡ 0 → get_or (unless n (0 ∷ 0 ∷ 0 ∷ []) (walk_reply walk)).values 2 0 ≡ 0
      by zero (Ok f) e = refl
      by zero (Err fault) e = absurd (not_zero fault.part e)
      by (suc n) walk e = refl

  pub ask_values : (number : ℕ) (values : List ℕ) → replied number values ≡ ask_of w pair → values ≡ first_three values
  ask_values number values e = let v = ap (λ (r : Reply). r.values) e in rw v three_values

  -- An answer is the walk's.
  pub ask_found : (held : Bool) (level : ℕ) → ask_of w pair ≡ walk_reply (found held level) → (opening w ≡ 0) × (walked (geometry_of w) w pair ≡ found held level)
  unfolding ask_of
  ask_found held level e = by (opening w) refl (walked (geometry_of w) w pair) refl
    where
      not_done : (n : ℕ) → suc n ≡ 0 → ⊥
      not_done n z = omega (arith, z)

      same_held : (a b : Bool) → ◌≡◌ {A = ℕ} (cond a 1 0) (cond b 1 0) → a ≡ b
      same_held true true z = refl
      same_held true false z = absurd (omega (arith, z))
      same_held false true z = absurd (omega (arith, z))
      same_held false false z = refl

      same_found : (b : Bool) (i : ℕ) → walk_reply (found b i) ≡ walk_reply (found held level) → found b i ≡ found held level
      same_found b i z =
          let values = ap (λ (r : Reply). r.values) z in
          let one = same_held b held (ap (λ (l : List ℕ). get_or l 0 0) values) in
          let two : i ≡ level = ap (λ (l : List ℕ). get_or l 1 0) values in
          rw (one, two) refl

      by : (n : ℕ) → opening w ≡ n → (walk : Walked) → walked (geometry_of w) w pair ≡ walk →
          (opening w ≡ 0) × (walked (geometry_of w) w pair ≡ found held level)
      by zero o (Ok f) h = (o, h ∙ same_found f.held f.level (rw (o, h) at e))
      by zero o (Err fault) f = absurd (not_zero fault.part (ap (λ (r : Reply). r.number) (rw (o, f) at e)))
      by (suc n) o walk f = absurd (not_done n (ap (λ (r : Reply). r.number) (rw o at e)))
