-- Condition 2 on the rules: after any requests from a formatted store the pairs held are those of the plain set after the same requests,
-- live is its size, and the replies are the same. Assumes nothing.
use Rattle.std.specs.Prelude.{ℕ, ◌≤◌, ◌≡◌, Bool, ◌&&◌, ◌||◌, length}
use Rattle.std.proofs.Common.{arith, ap₂, ◌∙◌, ltb-true}
use Rattle.std.proofs.Math.Path.{refl, sym, ap}
use Rattle.std.proofs.Math.Bool.{true, false, not}
use mathlib.Core.List.{List, [], ◌∷◌}
use Rattle.std.proofs.Math.Dec.{ltb}
use Rattle.geometry.specs.declared.Geometry.{Geometry}
use Rattle.geometry.specs.Geometry.{InRange, most}
use Rattle.slot.specs.declared.Pair.{Pair}
use Rattle.slot.specs.Pair.{same, Words}
use Rattle.rules.specs.Finding.{held}
use Rattle.rules.specs.Merging.{State, formatted, Outcome, refused, done, put, remove}
use Rattle.rules.specs.Store.{writing}
use Rattle.rules.specs.Requests.{Request, putting, dropping, step, run, final, pair_in, RequestsFit}
use Rattle.walk.specs.Walked.{found}
use Rattle.walk.specs.Walk.{walked}
use Rattle.finding.specs.Asked.{decider}
use Rattle.good.specs.Calls.{put_held, put_full, put_done, remove_missing, remove_done}
use Rattle.good.proofs.Calls.{put_good, remove_good, put_holds, remove_holds}
use Rattle.good.specs.Format.{formatted_good, formatted_holds}
use Rattle.promises.specs.Written.{good_walks}
use Rattle.promises.specs.Plain.{has, Rises, PairsFit, insert_rises, insert_has, insert_length, insert_fits, without_rises, without_has, without_length, without_fits}
use Rattle.promises.specs.Answers.{answer, answers, set_after}
use Rattle.promises.specs.Sets.{Agrees, Holds, plain_replies, replies}

module _ (g : Geometry) (fit : InRange g) where
  -- One request.
  module _ (p : Pair) (w : Words p) (s : State) (set : List Pair) (holds : Holds g s set) where
    put_agrees : Agrees g (put g p s) (answer (most g) (putting p) set)
    unfolding refused done answer
    put_agrees = told (held p s.tree) (ltb s.live (most g)) refl refl
      where
        told : (h l : Bool) → held p s.tree ≡ h → ltb s.live (most g) ≡ l → Agrees g (put g p s) (answer (most g) (putting p) set)
        told true l e k =
            let h : has p set ≡ true = sym (holds.members p) ∙ e in
            rw (put_held g p s e, h, answer) (record { reply = refl; after = holds })
        told false false e k =
            let h : has p set ≡ false = sym (holds.members p) ∙ e in
            let full : ltb (length set) (most g) ≡ false = rw holds.size at k in
            rw (put_full g p s e k, h, full, answer) (record { reply = refl; after = holds })
        told false true e k =
            let h : has p set ≡ false = sym (holds.members p) ∙ e in
            let room : ltb (length set) (most g) ≡ true = rw holds.size at k in
            rw (h, room, answer)
            (record {
              reply = ap (λ (o : Outcome). o.reply) (put_done g p s e k);
              after = record {
                good = put_good g fit p w s holds.good;
                members = λ q.
                    put_holds g fit p w s holds.good e (ltb-true s.live (most g) k) q ∙ ap (λ (b : Bool). same q p || b) (holds.members q) ∙
                    sym (insert_has p set q);
                size = ap (λ (o : Outcome). o.after.live) (put_done g p s e k) ∙ omega (arith, holds.size, insert_length p set h);
                rises = insert_rises 0 p set (omega arith) holds.rises;
                fit = insert_fits p set w holds.fit;
              };
            })

    drop_agrees : Agrees g (remove g p s) (answer (most g) (dropping p) set)
    unfolding refused done answer
    drop_agrees = told (held p s.tree) refl
      where
        told : (h : Bool) → held p s.tree ≡ h → Agrees g (remove g p s) (answer (most g) (dropping p) set)
        told false e =
            let h : has p set ≡ false = sym (holds.members p) ∙ e in
            rw (remove_missing g p s e, h, answer) (record { reply = refl; after = holds })
        told true e =
            let h : has p set ≡ true = sym (holds.members p) ∙ e in
            rw (h, answer)
            (record {
              reply = ap (λ (o : Outcome). o.reply) (remove_done g p s e);
              after = record {
                good = remove_good g fit p w s holds.good;
                members = λ q.
                    remove_holds g fit p w s holds.good e q ∙ ap (λ (b : Bool). b && not (same q p)) (holds.members q) ∙ sym (without_has p set q);
                size = ap (λ (o : Outcome). o.after.live) (remove_done g p s e) ∙ omega (arith, holds.size, without_length 0 p set holds.rises h);
                rises = without_rises 0 p set holds.rises;
                fit = without_fits p set holds.fit;
              };
            })

  pub step_agrees : (r : Request) (s : State) (set : List Pair) → Words (pair_in r) → Holds g s set → Agrees g (step g r s) (answer (most g) r set)
  unfolding step
  step_agrees (putting p) s set w holds = put_agrees p w s set holds
  step_agrees (dropping p) s set w holds = drop_agrees p w s set holds

  -- Any requests, from a good state and the set that it holds.
  requests_agree : (rs : List Request) (s : State) (set : List Pair) → RequestsFit rs → Holds g s set →
      (replies (run g s rs) ≡ plain_replies (answers (most g) set rs)) × Holds g (final s (run g s rs)) (set_after set (answers (most g) set rs))
  unfolding run final answers set_after RequestsFit
  requests_agree [] s set w holds = (refl, holds)
  requests_agree (r ∷ rs) s set w holds =
      let first = step_agrees r s set w.0 holds in
      let rest = requests_agree rs (step g r s).after (answer (most g) r set).after w.1 first.after in
      (ap₂ (λ (n : ℕ) (ns : List ℕ). n ∷ ns) first.reply rest.0, rest.1)

  -- A formatted store holds the empty set.
  formatted_empty : Holds g (formatted g) []
  unfolding has Rises PairsFit formatted
  formatted_empty = record { good = formatted_good g fit; members = formatted_holds g; size = refl; rises = tt; fit = tt }

  -- Any requests from a formatted store.
  module _ (rs : List Request) (w : RequestsFit rs) where
    abbrev reached : State
    reached = final (formatted g) (run g (formatted g) rs)

    abbrev set : List Pair
    set = set_after [] (answers (most g) [] rs)

    pub run_replies : replies (run g (formatted g) rs) ≡ plain_replies (answers (most g) [] rs)
    run_replies = (requests_agree rs (formatted g) [] w formatted_empty).0

    pub run_holds : Holds g reached set
    run_holds = (requests_agree rs (formatted g) [] w formatted_empty).1

    pub run_held : (p : Pair) → held p reached.tree ≡ has p set
    run_held = run_holds.members

    pub run_live : reached.live ≡ length set
    run_live = run_holds.size

    -- The set is no larger than the bottom level's capacity.
    pub run_most : length set ≤ most g
    run_most = omega (arith, run_holds.size, run_holds.good.few)

    -- On its writing the walk finds whether a pair is in the set.
    pub run_asks : (p : Pair) → walked g (writing g reached) p ≡ found (has p set) (decider p reached.tree)
    run_asks p = good_walks g reached fit run_holds.good p ∙ ap (λ (b : Bool). found b (decider p reached.tree)) (run_held p)
