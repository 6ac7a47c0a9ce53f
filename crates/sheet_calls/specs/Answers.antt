-- What the replies of the calls tell a sheet: numbers that are small, and the counts of entries as they stand. Assumes nothing.
use Rattle.std.specs.Prelude.{ℕ, suc, ◌≤◌, ◌≡◌, Bool, true, false, cond, List, [], ◌∷◌, get_or, drop, eqb, Result, Ok, Err}
use Rattle.std.proofs.Common.{arith, sym, ap, ◌∙◌}
use Rattle.std.proofs.Math.Path.{refl}
use borrow.Author.Tests.{ne_eqb}
use Rattle.geometry.specs.Directory.{geometry_of}
use Rattle.rules.specs.Merging.{entries}
use Rattle.rules.specs.Sound.{tree_of}
use Rattle.fault.specs.declared.Part.{Part}
use Rattle.fault.specs.declared.Part.TheVariants.{Directory, Head, Page, Writing, Kinds}
use Rattle.fault.specs.Numbers.{number_of}
use Rattle.opening.specs.Reply.{Reply, replied, fault_values}
use Rattle.walk.specs.declared.Found.{Found}
use Rattle.opening.specs.declared.Refusal.{Refusal}
use Rattle.opening.specs.declared.Refusal.TheVariants.{Range as RangeAsked, Length as LengthAsked, Fault as FaultAsked}
use Rattle.call_ask.specs.Ask.{ask_reply}
use Rattle.change.specs.declared.Done.{Done}
use Rattle.call_put.specs.declared.EditRefusal.{EditRefusal}
use Rattle.call_put.specs.declared.EditRefusal.TheVariants.{Range, Length, Fault, Held, Missing, Full}
use Rattle.call_put.specs.Edit.{Kept, edited_reply, edit_reply}
use Rattle.sheet_calls.specs.Calls.{held_number}
use Rattle.sheet_calls.specs.Counts.{Left, refused, accepted}

-- The counts after a put or drop: an accepted one tells them anew.
abbrev pub counts_after : Reply → List ℕ → List ℕ → List ℕ
counts_after r told before = cond (eqb r.number 0) told before

-- The number of a put's or drop's reply is 14 at most, and an ask tells 0 or 1.
pub number_small : (a : Result Done EditRefusal) (counts : List ℕ) → (edited_reply a counts).number ≤ 14
number_small (Ok done) counts = omega arith
number_small (Err Range) counts = omega arith
number_small (Err Held) counts = omega arith
number_small (Err Missing) counts = omega arith
number_small (Err Full) counts = omega arith
number_small (Err Length) counts = omega arith
number_small (Err (Fault fault)) counts = by fault.part
  where
    by : (part : Part) → number_of part ≤ 14
    by Directory = omega arith
    by Head = omega arith
    by Page = omega arith
    by Writing = omega arith
    by Kinds = omega arith

pub held_small : (a : Result Found Refusal) → held_number (ask_reply a) ≤ 1
unfolding held_number
held_small (Ok f) = by f.held
  where
    by : (b : Bool) → held_number (replied 0 (cond b 1 0 ∷ f.level ∷ 0 ∷ [])) ≤ 1
    by true = omega arith
    by false = omega arith
held_small (Err RangeAsked) = omega arith
held_small (Err LengthAsked) = omega arith
held_small (Err (FaultAsked fault)) = by fault.part
  where
    by : (part : Part) → held_number (replied (number_of part) (fault_values fault)) ≤ 1
    by Directory = omega arith
    by Head = omega arith
    by Page = omega arith
    by Writing = omega arith
    by Kinds = omega arith

-- A refusal's number is not 0, and a refused ask tells 0.
part_numbered : (part : Part) → number_of part ≡ 0 → ⊥
part_numbered Directory e = omega (arith, e)
part_numbered Head e = omega (arith, e)
part_numbered Page e = omega (arith, e)
part_numbered Writing e = omega (arith, e)
part_numbered Kinds e = omega (arith, e)

pub refusal_numbered : (refusal : EditRefusal) (counts : List ℕ) → (edited_reply (Err refusal) counts).number ≡ 0 → ⊥
refusal_numbered Range counts e = omega (arith, e)
refusal_numbered Length counts e = omega (arith, e)
refusal_numbered Held counts e = omega (arith, e)
refusal_numbered Missing counts e = omega (arith, e)
refusal_numbered Full counts e = omega (arith, e)
refusal_numbered (Fault fault) counts e = part_numbered fault.part e

pub refused_tells : (refusal : Refusal) → 0 ≡ held_number (ask_reply (Err refusal))
unfolding held_number
refused_tells RangeAsked = refl
refused_tells LengthAsked = refl
refused_tells (FaultAsked fault) = rw (ne_eqb (number_of fault.part) 0 (part_numbered fault.part)) refl

pub found_tells : (f : Found) → cond f.held 1 0 ≡ held_number (ask_reply (Ok f))
unfolding held_number
found_tells f = refl

-- What an ask tells, by its reply's number.
module _ (reply : Reply) (number : ℕ) (values : List ℕ) (told : replied number values ≡ reply) where
  pub held_refused : (number ≡ 0 → ⊥) → 0 ≡ held_number reply
  unfolding held_number
  held_refused z = rw (← told, ne_eqb number 0 z) refl

  pub held_told : number ≡ 0 → get_or values 0 0 ≡ held_number reply
  unfolding held_number
  held_told z = rw (← told, z) refl

-- The last four values of a put's or drop's reply are the counts.
counts_last : (a : Result Done EditRefusal) (counts : List ℕ) → drop 3 (edited_reply a counts).values ≡ counts
counts_last (Ok done) counts = refl
counts_last (Err Range) counts = refl
counts_last (Err Held) counts = refl
counts_last (Err Missing) counts = refl
counts_last (Err Full) counts = refl
counts_last (Err Length) counts = refl
counts_last (Err (Fault fault)) counts = refl

-- The counts told last are those of the store, whether a call is accepted or refused, and its geometry stays.
pub counts_stay : (w counts before store work : List ℕ) (k : Kept) → before ≡ entries (tree_of (geometry_of w) w) → (a : Result Done EditRefusal) → edit_reply a counts store work ≡ k → Left w k →
    (counts_after k.reply counts before ≡ entries (tree_of (geometry_of w) store)) × (geometry_of store ≡ geometry_of w)
counts_stay w counts before store work k counted a e (refused n p q) =
    let same : store ≡ w = ap (λ (r : Kept). r.store) e ∙ q in
    (rw (p, ne_eqb (suc n) 0 (λ h. omega (arith, h)), same) counted, ap geometry_of same)
counts_stay w counts before store work k counted a e (accepted p q s) =
    let same : store ≡ k.store = ap (λ (r : Kept). r.store) e in
    let told : counts ≡ drop 3 k.reply.values = sym (counts_last a counts) ∙ ap (λ (r : Kept). drop 3 r.reply.values) e in
    (rw (p, same) (told ∙ q), ap geometry_of same ∙ s)
