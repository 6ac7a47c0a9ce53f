-- A put or drop on the writing of a good state, lent in exact lengths: what it comes to is what the rules give. Assumes nothing.
use Rattle.std.specs.Prelude.{ℕ, suc, ◌<◌, ◌≡◌, Bool, not, cond, List, [], ◌∷◌, length, get_or, take, eqb}
use Rattle.std.proofs.Common.{arith, ap, ◌∙◌, true≢false}
use Rattle.std.proofs.Math.Path.{refl, sym}
use Rattle.std.proofs.Math.Bool.{true, false}
use Rattle.std.proofs.Math.Dec.{ltb}
use borrow.Author.Tests.{eq-eqb, ne_eqb, lt-ltb, ltb-true}
use Rattle.geometry.specs.declared.Geometry.{Geometry}
use Rattle.geometry.specs.Geometry.{InRange, most}
use Rattle.geometry.specs.Places.{live_word, work_words}
use Rattle.slot.specs.declared.Pair.{Pair}
use Rattle.slot.specs.Pair.{Words}
use Rattle.rules.specs.Finding.{held}
use Rattle.rules.specs.Merging.{State, edit, entries, Outcome, refused, done, put, remove}
use Rattle.rules.specs.Store.{writing}
use Rattle.geometry.specs.Directory.{geometry_of}
use Rattle.rules.specs.Good.{Good}
use Rattle.rules.specs.Requests.{Request, putting, dropping, step, pair_in}
use Rattle.walk.specs.Walk.{walked}
use Rattle.finding.specs.Asked.{decider}
use Rattle.good.specs.Edit.{entry, live_after}
use Rattle.good.proofs.Edit.{held_live}
use Rattle.good.specs.Calls.{put_held as put-of-held, put_full as put-of-full, put_done, remove_missing, remove_done}
use Rattle.promises.specs.Calls.{ComesTo, refusal, edited}
use Rattle.promises.specs.Written.{good_reads, good_geometry, good_walks}
use Rattle.change.specs.Change.{change_of}
use Rattle.opening.specs.Opening.{opening_both, both_pass}
use Rattle.call_put.specs.Edit.{Kept, kept, zeros, changed_reply, put_found, drop_found, found_of, edit_of, edit_walked, put_held, put_full, put_changes, drop_missing, drop_changes}
use Rattle.conditions.specs.Calls.{change_on}
use Rattle.conditions.specs.Changed.{work_after, ruled_change}
use Rattle.conditions.specs.Opened.{opens}

-- What the rules' outcome is in the paper's numbers, with every word of store and work area.
unfoldable pub told_by : Outcome → List ℕ
told_by o = elim (eqb o.reply 0) [ true ↦ o.after.live ∷ o.deepest ∷ length o.written ∷ entries o.after.tree | false ↦ zeros ]

unfoldable pub kept_by : Geometry → Outcome → List ℕ → Kept
kept_by g o work = kept o.reply (told_by o) (writing g o.after) (work_after o.deepest work)

-- What a put or drop tells, by the rules: live pairs and pages where it is done, zeros where it is refused.
pub live_told : (o : Outcome) → take 1 (told_by o) ≡ cond (eqb o.reply 0) o.after.live 0 ∷ []
unfolding told_by
live_told o = by (eqb o.reply 0) refl
  where
    by : (b : Bool) → eqb o.reply 0 ≡ b → take 1 (told_by o) ≡ cond b o.after.live 0 ∷ []
    by true e = rw (e, told_by) refl
    by false e = rw (e, told_by) refl

pub pages_told : (g : Geometry) (s : State) (o : Outcome) → ComesTo g s o → get_or (told_by o) 2 0 ≡ length o.written
unfolding told_by refused done
pages_told g s o (refusal n e) = rw (e, ne_eqb (suc n) 0 (λ q. omega (arith, q)), told_by) refl
pages_told g s o (edited live e d c) = rw d refl
