-- An accepted put or drop on the writing of a good state: what it leaves is the writing of the state that the rules give, with their numbers.
-- Assumes nothing.
use Rattle.std.specs.Prelude.{ℕ, zero, suc, ◌≤◌, ◌<◌, ◌≡◌, Bool, false, not, List, [], ◌∷◌, get_or, replicate, leb, eqb}
use Rattle.std.proofs.Common.{arith, sym, ◌∙◌}
use Rattle.std.proofs.Math.Path.{refl, ap}
use Rattle.std.proofs.Math.Bool.{true}
use Rattle.std.proofs.Math.ListN.{length}
use Rattle.std.proofs.Math.Dec.{ltb}
use borrow.Author.Tests.{eq-eqb, ne_eqb, lt-ltb, le-ltb, leb-true, leb-false}
use Rattle.laws.specs.Lists.{all_at}
use Rattle.geometry.specs.declared.Geometry.{Geometry}
use Rattle.geometry.specs.Geometry.{InRange, bottom, capacity, most}
use Rattle.geometry.specs.Places.{live_word, erased}
use Rattle.geometry.specs.Bounds.{capacity_zero}
use Rattle.slot.specs.declared.Pair.{Pair}
use Rattle.slot.specs.Pair.{Words}
use Rattle.rules.specs.Tree.{Entry, Level, Tree, level}
use Rattle.rules.specs.Finding.{Met, absent, met, find, held}
use Rattle.rules.specs.Merging.{State, Settled, toggle, toggle_head, edit, entries}
use Rattle.rules.specs.Store.{writing}
use Rattle.std.specs.Prelude.{Ok}
use Rattle.rules.specs.Sound.{head_slots, entries_of, tree_of, ascending}
use Rattle.rules.specs.Good.{Good}
use Rattle.entries.specs.Ascending.{from_ascending}
use Rattle.finding.specs.Asked.{decider, head_decides, below_decides}
use Rattle.good.specs.Toggle.{toggle_adds, toggle_takes}
use Rattle.good.specs.Edit.{entry, live_after, toggled_state}
use Rattle.good.proofs.Edit.{change_cascading}
use Rattle.good.specs.Settle.{head_stays, head_merges}
use Rattle.good.proofs.Settle.{settle_good}
use Rattle.good.specs.Within.{head_few}
use Rattle.promises.specs.Written.{good_reads, good_tree, good_sound}
use Rattle.change.specs.Change.{fills_head, Changed, changed_head, changed_tree, change_of, change_merges, change_edits, merge_goes_on}
use Rattle.change.specs.Toggled.{head_toggled}
use Rattle.conditions.specs.Changed.{merged_work, ruled_change, toggled_head, work_after}

-- A pair that is held just if it is dropped, and room for it if it is put.
module _ (g : Geometry) (fit : InRange g) (s : State) (good : Good g s) (p : Pair) (normal : Bool) (pair : Words p) (h : held p s.tree ≡ not normal)
    (room : normal ≡ true → s.live < most g) where
  abbrev w : List ℕ
  w = writing g s

  abbrev t : Tree
  t = s.tree

  abbrev e : Entry
  e = entry p normal

  abbrev live : ℕ
  live = live_after normal s.live

  abbrev begun : State
  begun = toggled_state e s

  abbrev ended : State
  ended = record { live = live; tree = (edit g e t).tree }

  abbrev own : Bool
  own = eqb (decider p t) 0

  ended_good : Good g ended
  unfolding edit
  ended_good = settle_good g fit (bottom g) 0 begun (change_cascading g fit p normal s good pair h room) (omega arith)

  some_levels : 1 ≤ length t
  some_levels = omega (arith, good.levels, fit.levels_least)

  -- The head's own entries, as they are read and as there are.
  head_read : entries_of (head_slots g w) ≡ level 0 t
  unfolding tree_of
  head_read = ap (level 0) (good_tree g s fit good)

  live_read : get_or w live_word 0 ≡ s.live
  live_read = (good_reads g s fit good).live_pairs

  grown : find p (level 0 t) ≡ absent → length (level 0 (toggle_head e t)) ≡ suc (length (level 0 t))
  grown f = ap length (toggled_head e t some_levels) ∙ toggle_adds e (level 0 t) f

  -- A head that is full once the entry is in it is merged on, and the work area used.
  merged : (work : List ℕ) → find p (level 0 t) ≡ absent → g.head ≤ suc (length (level 0 t)) →
      changed_tree g e w work ≡ ruled_change g live (edit g e t) work
  unfolding changed_tree ruled_change edit
  merged work f full =
      let more : capacity g 0 ≤ length (level 0 (toggle_head e t)) = omega (arith, grown f, full, capacity_zero g) in
      let sinks =
      head_merges g (bottom g) (toggle_head e t) (omega (arith, fit.levels_least)) (le-ltb (length (level 0 (toggle_head e t))) (capacity g 0) more) in
      rw (live_read, good_tree g s fit good, good_tree g ended fit ended_good, merged_work (edit g e t).deepest work sinks) refl

  -- Any other is edited, and nothing else changes.
  module _ (stays : ltb (length (level 0 (toggle_head e t))) (capacity g 0) ≡ true) where
    edited_stays : edit g e t ≡ record { tree = toggle_head e t; deepest = 0; written = [] }
    unfolding edit
    edited_stays = head_stays g (bottom g) (toggle_head e t) (omega (arith, fit.levels_least)) stays

    begun_good : Good g begun
    begun_good = rw edited_stays at ended_good

    edited : (work : List ℕ) → changed_head g e own w work ≡ ruled_change g live (edit g e t) work
    unfolding changed_head ruled_change work_after
    edited work = rw (live_read, head_toggled g fit s good e, edited_stays, good_tree g begun fit begun_good) refl

  -- So in either case.
  pub change_written : (work : List ℕ) → change_of g e own w work ≡ ruled_change g live (edit g e t) work
  unfolding fills_head
  change_written work = by_entry (find p (level 0 t)) refl
    where
      shorter : length (level 0 (toggle_head e t)) < capacity g 0 → ltb (length (level 0 (toggle_head e t))) (capacity g 0) ≡ true
      shorter = lt-ltb (length (level 0 (toggle_head e t))) (capacity g 0)

      by_count : (b : Bool) → leb g.head (suc (length (level 0 t))) ≡ b → find p (level 0 t) ≡ absent → own ≡ false →
          change_of g e own w work ≡ ruled_change g live (edit g e t) work
      by_count true c f o =
          sym (change_merges g e w work own (rw (o, head_read, c) refl)) ∙ sym (merge_goes_on g e w work (good_sound g s fit good)) ∙
          merged work f (leb-true g.head (suc (length (level 0 t))) c)
      by_count false c f o =
          let less : suc (length (level 0 t)) < g.head = leb-false g.head (suc (length (level 0 t))) c in
          sym (change_edits g e w work own (rw (o, head_read, c) refl)) ∙
          edited (shorter (omega (arith, grown f, less, capacity_zero g))) work

      by_entry : (m : Met) → find p (level 0 t) ≡ m → change_of g e own w work ≡ ruled_change g live (edit g e t) work
      by_entry absent f =
          by_count (leb g.head (suc (length (level 0 t)))) refl f (ne_eqb (decider p t) 0 (λ q. omega (arith, q, below_decides p t some_levels f)))
      by_entry (met b) f =
          let o : own ≡ true = eq-eqb (decider p t) 0 (head_decides p t b f) in
          let rises = from_ascending (level 0 t) (all_at ascending t 0 [] good.ascends some_levels) in
          let lost : suc (length (level 0 (toggle_head e t))) ≡ length (level 0 t) =
          ap (λ (l : Level). suc (length l)) (toggled_head e t some_levels) ∙ toggle_takes e 0 (level 0 t) b rises f in
          sym (change_edits g e w work own (rw o refl)) ∙ edited (shorter (omega (arith, lost, head_few g fit s good))) work
