-- Where a change fills the head of a sound store: the edited head is the rules' toggled one, and settling it gives the writing of the state that
-- the rules give. Assumes nothing.
use Rattle.std.specs.Prelude.{ℕ, suc, ◌-◌, ◌≤◌, ◌≡◌, ◌≢◌, Bool, true, not, List, length, replicate, leb}
use Rattle.std.proofs.Common.{zero-add, arith, sym, ◌∙◌, append-nil}
use Rattle.std.proofs.Math.Nat.{sub-zero}
use Rattle.std.proofs.Math.Path.{refl, ap}
use Rattle.std.proofs.Math.Bool.{false}
use Rattle.std.proofs.lemmas.List.{length-replicate}
use Rattle.std.proofs.lemmas.List.Edits.{sets, sets-eq}
use Rattle.std.proofs.Math.Seq.{drop-length}
use Rattle.std.proofs.Math.Dec.{eqb}
use borrow.Author.Tests.{eqb-false, ne_eqb, not-true}
use Rattle.laws.specs.Tests.{and_left}
use Rattle.geometry.specs.declared.Geometry.{Geometry}
use Rattle.geometry.specs.declared.Plan.{Plan}
use Rattle.geometry.specs.Geometry.{InRange, bottom}
use Rattle.geometry.specs.Places.{erased}
use Rattle.geometry.specs.Lent.{Lent, lent}
use Rattle.slot.specs.declared.Pair.{Pair}
use Rattle.slot.specs.Pair.{Words}
use Rattle.rules.specs.Tree.{Entry, Tree}
use Rattle.rules.specs.Level.{slots_of}
use Rattle.rules.specs.Finding.{held}
use Rattle.rules.specs.Merging.{State, edit}
use Rattle.rules.specs.Store.{writing}
use Rattle.std.specs.Prelude.{Ok}
use Rattle.rules.specs.Sound.{head_slots, entries_of}
use Rattle.rules.specs.Faults.{fault}
use Rattle.rules.specs.Good.{Good, Cascading}
use Rattle.walk.specs.declared.Found.{Found}
use Rattle.walk.specs.Walked.{found}
use Rattle.walk.specs.Walk.{walked}
use Rattle.entries.specs.Levels.{PagesWithin}
use Rattle.stored.specs.Fitting.{WordsFit}
use Rattle.stored.specs.Back.{state_of}
use Rattle.finding.specs.Asked.{decider}
use Rattle.good.specs.Edit.{entry, toggled_state}
use Rattle.good.proofs.Edit.{change_cascading}
use Rattle.good.specs.Settle.{settled_state}
use Rattle.good.proofs.Settle.{settle_good}
use Rattle.edited.specs.Reach.{reach}
use Rattle.merge.specs.Filling.{Outcome, outcome, settled, Settleable}
use Rattle.merge.specs.Laid.{within_laid}
use Rattle.merge.specs.Settled.{Settles, settled_to, settles}
use Rattle.good.proofs.Cascade.{good_fits}
use Rattle.promises.specs.Written.{sound_good, good_reads, good_walks}
use Rattle.change.specs.declared.Report.{Report}
use Rattle.change.specs.Change.{edited_behind, head_edited, fills_head, Changed, changed_tree, merged_change, told, done_on, merge_goes_on}
use Rattle.change.specs.Head.{Accepted, accepted_editable, added_fits, edited_lent}
use Rattle.change.specs.Toggled.{head_toggled}

-- What settling the head leaves, in words: told of the store as it stands then, and with the work area unused.
unfoldable pub settled_change : Geometry → List ℕ → List ℕ → Changed
settled_change g w work =
    let o = settled g (bottom g) 0 w in
    told (done_on g o.words o.deepest o.pages) o.words (replicate (length work) erased)

-- A head that can be settled.
pub record Settling (g : Geometry) (w : List ℕ) : Type 0 where
  pub asked : Settleable g (bottom g) 0 w
  pub within : PagesWithin g (settled g (bottom g) 0 w).words

-- All words erased.
all_erased : (work : List ℕ) (n : ℕ) → n ≡ length work → sets work 0 (replicate (n - 0) erased) ≡ replicate (length work) erased
all_erased work n e =
    let m : length (replicate (length work) erased) ≡ length work = length-replicate (length work) erased in
    rw (e, sub-zero (length work)) (
    sets-eq (replicate (length work) erased) work 0 (omega (arith, m)) ∙
    rw (zero-add (length (replicate (length work) erased)), m, drop-length work) (append-nil (replicate (length work) erased))
    )

-- What is asked of the store once its head is settled, and what is told of it.
module _ (g : Geometry) (w v : List ℕ) (deepest pages : ℕ) (settles : outcome v deepest pages ≡ settled g (bottom g - 0) 0 w) where
  words_told : v ≡ (settled g (bottom g) 0 w).words
  words_told = ap (λ (o : Outcome). o.words) settles ∙ rw (sub-zero (bottom g)) refl

  pub settled_ready : (plan : Plan) → Lent g plan w → length v ≡ length w → Settling g w → Lent g plan v × PagesWithin g v
  settled_ready plan lends same h = (lent g plan v lends.in_range_lem lends.planned (same ∙ lends.exact), rw words_told h.within)

  pub settled_told : (work now left : List ℕ) (n : ℕ) (r : Report) → length now ≡ length work → n ≡ length now → left ≡ sets now 0 (replicate (n - 0) erased) →
      r ≡ done_on g v deepest pages → told r v left ≡ settled_change g w work
  unfolding settled_change
  settled_told work now left n r same whole erases done =
      let o : outcome v deepest pages ≡ settled g (bottom g) 0 w = rw (sub-zero (bottom g)) at settles in
      rw (done, erases, all_erased now n whole, same, ← o) refl

-- A change whose pair has no entry of its own in the head.
pub record AcceptedAnew (g : Geometry) (w : List ℕ) (e : Entry) : Type 0 where
  pub level : ℕ
  pub below : 1 ≤ level
  pub accepted : Accepted g w e level

-- One that fills the head is such a change.
pub fills_anew : (g : Geometry) (w : List ℕ) (e : Entry) (n : ℕ) → fills_head g w (eqb n 0) ≡ true → Accepted g w e n → AcceptedAnew g w e
unfolding fills_head
fills_anew g w e n fills accepted =
    let other : eqb n 0 ≡ false = not-true (eqb n 0) (and_left (not (eqb n 0)) (leb g.head (suc (length (entries_of (head_slots g w))))) fills) in
    let apart : n ≢ 0 = eqb-false n 0 other in
    record { level = n; below = omega (arith, apart); accepted = accepted }

-- A sound store w, and the store v after the edit.
module _ (g : Geometry) (plan : Plan) (w v : List ℕ) (p : Pair) (normal : Bool) (behind : ℕ) (lends : Lent g plan w) (fits : WordsFit w) (fits_after : WordsFit v)
    (anew : AcceptedAnew g w (entry p normal)) (reached : behind ≡ reach p (head_slots g w)) (edits : v ≡ edited_behind (entry p normal) behind false w)
    (passes : fault g w ≡ Ok tt) where
  abbrev fit : InRange g
  fit = lends.in_range_lem

  abbrev s : State
  s = state_of g w

  abbrev t : Tree
  t = s.tree

  abbrev e : Entry
  e = entry p normal

  pair : Words p
  pair = added_fits e behind w v edits (accepted_editable g plan w e anew.level lends anew.accepted behind reached) fits_after

  written_good : (w ≡ writing g s) × Good g s
  written_good = sound_good g w fit anew.accepted.stored lends.exact fits passes

  abbrev good : Good g s
  good = written_good.1

  -- The walk found what the tree holds, at the level of the topmost entry: it is not in the head.
  walk_told : found (held p t) (decider p t) ≡ found (not normal) anew.level
  walk_told = sym (good_walks g s fit good p) ∙ sym (ap (λ (v : List ℕ). walked g v p) written_good.0) ∙ anew.accepted.walks

  told_alike : ◌≡◌ {A = Found} (record { held = held p t; level = decider p t }) (record { held = not normal; level = anew.level })
  told_alike = let z : found (held p t) (decider p t) ≡ found (not normal) anew.level = walk_told in cc

  pair_held : held p t ≡ not normal
  pair_held = ap (λ (f : Found). f.held) told_alike

  level_told : decider p t ≡ anew.level
  level_told = ap (λ (f : Found). f.level) told_alike

  -- So the edited store is the writing of the state with its head toggled, from where a cascade may begin.
  abbrev begun : State
  begun = toggled_state e s

  begins : v ≡ writing g begun
  unfolding head_edited
  begins =
      let other : eqb (decider p t) 0 ≡ false = ne_eqb (decider p t) 0 (λ q. omega (arith, q, level_told, anew.below)) in
      edits ∙ ap (λ (r : ℕ). edited_behind e r false w) reached ∙ ap (head_edited g e false) written_good.0 ∙ rw other at (head_toggled g fit s good e)

  cascades : Cascading g 0 begun
  unfolding state_of
  cascades = change_cascading g fit p normal s good pair pair_held anew.accepted.room

  -- The head is settled as the rules say, to the writing of a good state.
  abbrev ended : State
  ended = settled_state g (bottom g) 0 begun

  ended_good : Good g ended
  ended_good = settle_good g fit (bottom g) 0 begun cascades (omega arith)

  head_settles : Settles g (bottom g) 0 begun
  head_settles = settles g fit (bottom g) 0 begun cascades (omega arith)

  pub anew_ready : Lent g plan v × Settling g v
  unfolding settled_to writing
  anew_ready = (
    edited_lent g plan w e anew.level lends anew.accepted behind false v edits,
    rw begins
        (record { asked = head_settles.asked; within = rw head_settles.told (within_laid g begun.live fit (slots_of ended.tree) (good_fits g fit ended ended_good)) }),
  )

  pub anew_settled : (work : List ℕ) → settled_change g v work ≡ merged_change g e w work
  unfolding settled_change settled_to changed_tree edit done_on state_of
  anew_settled work = rw (begins, head_settles.told, (good_reads g ended fit ended_good).live_pairs) (merge_goes_on g e w work passes)
