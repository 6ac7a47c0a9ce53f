-- Put and drop on any words: the paper's numbers for what src/lib.rt answers, with every word of the store and of the work area afterwards, as
-- total functions of both and of the pair. Assumes nothing.
use Rattle.std.specs.Prelude.{ℕ, zero, suc, ◌≡◌, refl, Bool, true, false, List, [], ◌∷◌, ◌++◌, get_or, drop, ltb, eqb, Result, Ok, Err}
use Rattle.std.proofs.Common.{◌∙◌, ap}
use Rattle.fault.specs.declared.Fault.{Fault as FaultOf}
use Rattle.fault.specs.declared.Part.TheVariants.{Kinds}
use Rattle.fault.specs.Numbers.{no_place}
use Rattle.geometry.specs.declared.Geometry.{Geometry}
use Rattle.geometry.specs.Geometry.{most}
use Rattle.geometry.specs.Places.{live_word}
use Rattle.slot.specs.declared.Pair.{Pair}
use Rattle.geometry.specs.Directory.{geometry_of}
use Rattle.fault.specs.Judged.{Judged}
use Rattle.walk.specs.Walked.{Walked, found}
use Rattle.walk.specs.Walk.{walked}
use Rattle.change.specs.declared.Done.{Done}
use Rattle.change.specs.declared.Report.{Report}
use Rattle.change.specs.Change.{Changed, change_of, told, outcome_fault, outcome_values}
use Rattle.call_put.specs.declared.Changed.{Changed as Answered}
use Rattle.call_put.specs.declared.EditRefusal.{EditRefusal}
use Rattle.call_put.specs.declared.EditRefusal.TheVariants.{Fault}
use Rattle.call_put.specs.Refused.{edit_refusal_of, edit_refused}
use Rattle.opening.specs.Reply.{Reply, replied, fault_number, fault_values}
use Rattle.geometry.specs.declared.Store.{Store}
use Rattle.opening.specs.declared.Unopened.{Unopened}
use Rattle.opening.specs.declared.Unopened.TheVariants.{Range, Length}
use Rattle.opening.specs.Opening.{opening_both, OpensBoth}

-- A reply with the words of the store and of the work area after it.
pub record Kept : Type 0 where
  pub reply : Reply
  pub store : List ℕ
  pub work : List ℕ

abbrev pub kept : ℕ → List ℕ → List ℕ → List ℕ → Kept
kept number values store work = record { reply = replied number values; store = store; work = work }

-- Live pairs, the deepest level merged into, pages written and the index entries in each level; a refusal returns zeros, but a fault its place.
abbrev pub edited_reply : Result Done EditRefusal → List ℕ → Reply
edited_reply (Ok d) counts = replied 0 (d.live ∷ d.deepest ∷ d.pages ∷ counts)
edited_reply (Err refusal) counts = replied (edit_refused refusal).number ((edit_refused refusal).values ++ counts)

abbrev pub edit_reply : Result Done EditRefusal → List ℕ → List ℕ → List ℕ → Kept
edit_reply answer counts store work = record { reply = edited_reply answer counts; store = store; work = work }

-- A refusal keeps every word.
abbrev pub zeros : List ℕ
zeros = 0 ∷ 0 ∷ 0 ∷ 0 ∷ 0 ∷ 0 ∷ 0 ∷ []

abbrev pub faulty : FaultOf → List ℕ
faulty f = fault_values f ++ 0 ∷ 0 ∷ 0 ∷ 0 ∷ []

-- A change that the whole-store test refuses before a merge, or that is done.
abbrev pub change_reply : Judged → List ℕ → List ℕ → List ℕ → Kept
change_reply (Ok tt) values store work = kept 0 values store work
change_reply (Err f) values store work = kept (fault_number f) (fault_values f ++ drop 3 values) store work

abbrev pub changed_reply : Changed → Kept
changed_reply c = change_reply c.fault c.values c.store c.work

module _ (w work : List ℕ) where
  abbrev g : Geometry
  g = geometry_of w

  abbrev live : ℕ
  live = get_or w live_word 0

  -- Put of a pair that the walk found held or not, decided by a level: 2 if it is held, then 4 if live = M.
  unfoldable pub put_found : Pair → Bool → ℕ → Kept
  put_found p held level =
      elim held [
        | true ↦ kept 2 zeros w work
        | false ↦
            elim (ltb live (most g)) [
              | true ↦ changed_reply (change_of g (record { pair = p; normal = true }) (eqb level 0) w work)
              | false ↦ kept 4 zeros w work
            ]
      ]

  -- Drop of such a pair: 3 if it is not held, then 14 without a place if live = 0.
  unfoldable pub drop_found : Pair → Bool → ℕ → Kept
  drop_found p held level =
      elim held [
        | true ↦
            elim (ltb 0 live) [
              | true ↦ changed_reply (change_of g (record { pair = p; normal = false }) (eqb level 0) w work)
              | false ↦ kept (fault_number (no_place Kinds)) (faulty (no_place Kinds)) w work
            ]
        | false ↦ kept 3 zeros w work
      ]

  -- The walk's own fault comes before both.
  abbrev pub after_walk : Walked → (Bool → ℕ → Kept) → Kept
  after_walk (Ok f) done = done f.held f.level
  after_walk (Err fault) done = kept (fault_number fault) (faulty fault) w work

  -- The opening tests come before all.
  abbrev pub after_opening : ℕ → Kept → Kept
  after_opening zero done = done
  after_opening (suc n) done = kept (suc n) zeros w work

  unfoldable pub found_of : Bool → Pair → Bool → ℕ → Kept
  found_of true p = put_found p
  found_of false p = drop_found p

  unfoldable pub edit_of : Bool → Pair → Kept
  edit_of normal p = after_opening (opening_both w work) (after_walk (walked g w p) (found_of normal p))

  abbrev pub put_of : Pair → Kept
  put_of p = edit_of true p

  abbrev pub drop_of : Pair → Kept
  drop_of p = edit_of false p

  -- The reply by what the opening tests and the walk gave.
  module _ (normal : Bool) (p : Pair) where
    pub edit_refused_lem : (n : ℕ) → opening_both w work ≡ suc n → kept (suc n) zeros w work ≡ edit_of normal p
    unfolding edit_of
    edit_refused_lem n e = rw e

    pub edit_walked : opening_both w work ≡ 0 → after_walk (walked g w p) (found_of normal p) ≡ edit_of normal p
    unfolding edit_of
    edit_walked e = rw e

    pub edit_opened : (s : Store) → OpensBoth w work (Ok s) → after_walk (walked s.geometry s.words.now p) (found_of normal p) ≡ edit_of normal p
    edit_opened s o = rw (o.2.1, o.2.2) (edit_walked o.0)

    pub walk_faulty : {walk : Walked} {f : FaultOf} → walk ≡ Err f → kept (fault_number f) (faulty f) w work ≡ after_walk walk (found_of normal p)
    walk_faulty e = rw e

    pub walk_found : {walk : Walked} {held : Bool} {level : ℕ} → walk ≡ found held level → found_of normal p held level ≡ after_walk walk (found_of normal p)
    walk_found e = rw e

  -- The reply by what was tested of a pair that was found.
  module _ (p : Pair) (level : ℕ) where
    pub put_held : (held : Bool) → held ≡ true → kept 2 zeros w work ≡ put_found p held level
    unfolding put_found
    put_held held h = rw (h, put_found)

    pub put_full : (held : Bool) → held ≡ false → ltb live (most g) ≡ false → kept 4 zeros w work ≡ put_found p held level
    unfolding put_found
    put_full held h f = rw (h, f, put_found)

    pub put_changes : (held : Bool) → held ≡ false → ltb live (most g) ≡ true →
        changed_reply (change_of g (record { pair = p; normal = true }) (eqb level 0) w work) ≡ put_found p held level
    unfolding put_found
    put_changes held h f = rw (h, f, put_found)

    pub drop_missing : (held : Bool) → held ≡ false → kept 3 zeros w work ≡ drop_found p held level
    unfolding drop_found
    drop_missing held h = rw (h, drop_found)

    pub drop_none : (held : Bool) → held ≡ true → ltb 0 live ≡ false → kept (fault_number (no_place Kinds)) (faulty (no_place Kinds)) w work ≡ drop_found p held level
    unfolding drop_found
    drop_none held h f = rw (h, f, drop_found)

    pub drop_changes : (held : Bool) → held ≡ true → ltb 0 live ≡ true →
        changed_reply (change_of g (record { pair = p; normal = false }) (eqb level 0) w work) ≡ drop_found p held level
    unfolding drop_found
    drop_changes held h f = rw (h, f, drop_found)

-- The answer that tells what a change reported.
abbrev pub answer_for : Result Done FaultOf → Result Done EditRefusal
answer_for (Ok done) = Ok done
answer_for (Err fault) = Err (Fault fault)

pub answer_tells : (r : Report) (store work : List ℕ) → edit_reply (answer_for r.outcome) r.entries store work ≡ changed_reply (told r store work)
answer_tells r store work = by r.outcome
  where
    by : (o : Result Done FaultOf) → edit_reply (answer_for o) r.entries store work ≡ change_reply (outcome_fault o) (outcome_values o r.entries) store work
    by (Ok done) = refl
    by (Err fault) = refl

-- An answer that was told of a change, and one of a call that changed nothing.
pub changed_told : (r : Answered) (report : Report) (store work : List ℕ) {c : Changed} {k : Kept} →
    (r.answer ≡ answer_for report.outcome) × (r.entries ≡ report.entries) → told report store work ≡ c → changed_reply c ≡ k →
    edit_reply r.answer r.entries store work ≡ k
changed_told r report store work e c k = rw (e.0, e.1) (answer_tells report store work ∙ ap changed_reply c ∙ k)

pub nothing_changed : (r : Answered) (a : Result Done EditRefusal) (store work : List ℕ) {k : Kept} → (r.answer ≡ a) × (r.entries ≡ 0 ∷ 0 ∷ 0 ∷ 0 ∷ []) →
    edit_reply a (0 ∷ 0 ∷ 0 ∷ 0 ∷ []) store work ≡ k → edit_reply r.answer r.entries store work ≡ k
nothing_changed r a store work e k = rw (e.0, e.1) k

-- What the tests before a change came to: its report, or a refusal, beside which the counts are zeros.
abbrev pub edit_answered : Result Report EditRefusal → List ℕ → List ℕ → Kept
edit_answered (Ok report) store work = changed_reply (told report store work)
edit_answered (Err refusal) store work = edit_reply (Err refusal) (0 ∷ 0 ∷ 0 ∷ 0 ∷ []) store work

-- By what the code's steps came to: words that are no store and work area, and a fault of the walk.
module _ (w work : List ℕ) (normal : Bool) (p : Pair) where
  pub edit_unopened : (why : Unopened) → OpensBoth w work (Err why) → edit_answered (Err (edit_refusal_of why)) w work ≡ edit_of w work normal p
  edit_unopened Range o = edit_refused_lem w work normal p 0 o
  edit_unopened Length o = edit_refused_lem w work normal p 4 o

  pub edit_faulty : (s : Store) (f : FaultOf) → OpensBoth w work (Ok s) → walked s.geometry s.words.now p ≡ Err f →
      edit_answered (Err (Fault f)) w work ≡ edit_of w work normal p
  edit_faulty s f o walks = walk_faulty w work normal p walks ∙ edit_opened w work normal p s o
