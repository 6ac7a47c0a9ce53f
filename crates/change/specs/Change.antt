-- What an accepted put or drop comes to, on words: the store, the work area and the numbers told. Assumes nothing.
use Rattle.std.specs.Prelude.{ℕ, suc, ◌-◌, ◌≡◌, Bool, true, false, not, cond, ◌&&◌, List, [], ◌∷◌, length, get_or, set, replicate, leb}
use Rattle.std.proofs.Math.Path.{refl}
use Rattle.fault.specs.declared.Fault.{Fault}
use Rattle.geometry.specs.declared.Geometry.{Geometry}
use Rattle.geometry.specs.Places.{live_word, erased}
use Rattle.rules.specs.Tree.{Entry}
use Rattle.rules.specs.Merging.{edit, entries}
use Rattle.rules.specs.Store.{writing}
use Rattle.fault.specs.Judged.{Judged}
use Rattle.std.specs.Prelude.{Result, Err, Ok}
use Rattle.rules.specs.Sound.{head_slots, entries_of, tree_of}
use Rattle.rules.specs.Faults.{fault}
use Rattle.edit.specs.Head.{entry_added, entry_removed}
use Rattle.good.specs.Edit.{live_after}
use Rattle.edited.specs.Reach.{reach}
use Rattle.change.specs.declared.Report.{Report}
use Rattle.change.specs.declared.Done.{Done}

-- The head edited after its first `behind` slots: the last of them goes where it is the pair's own entry, else the entry comes after them.
-- Live goes with it.
unfoldable pub toggled_behind : Entry → ℕ → Bool → List ℕ → List ℕ
toggled_behind e behind own w = cond own (entry_removed (behind - 1) w) (entry_added e behind w)

unfoldable pub edited_behind : Entry → ℕ → Bool → List ℕ → List ℕ
edited_behind e behind own w = set (toggled_behind e behind own w) live_word (live_after e.normal (get_or w live_word 0))

-- Those first slots are the ones at most the pair.
unfoldable pub head_edited : Geometry → Entry → Bool → List ℕ → List ℕ
head_edited g e own w = edited_behind e (reach e.pair (head_slots g w)) own w

-- Whether the head has its capacity of entries with one more.
unfoldable pub fills_head : Geometry → List ℕ → Bool → Bool
fills_head g w own = not own && leb g.head (suc (length (entries_of (head_slots g w))))

-- What a change leaves: its fault or none; the live pairs, the deepest level merged into, the pages written and the four counts of entries;
-- the words of the store and of the work area.
pub record Changed : Type 0 where
  pub fault : Judged
  pub values : List ℕ
  pub store : List ℕ
  pub work : List ℕ

-- The head stays below its capacity: it is edited, and nothing else is.
unfoldable pub changed_head : Geometry → Entry → Bool → List ℕ → List ℕ → Changed
changed_head g e own w work =
    let v = head_edited g e own w in
    record { fault = (Ok tt); values = live_after e.normal (get_or w live_word 0) ∷ 0 ∷ 0 ∷ entries (tree_of g v); store = v; work = work }

-- It is full: a store with a fault stays as it is, and a sound one is the writing of the state that the rules give. The work area is unused then.
unfoldable pub stayed : Fault → List ℕ → List ℕ → Changed
stayed f w work = record { fault = Err f; values = 0 ∷ 0 ∷ 0 ∷ 0 ∷ 0 ∷ 0 ∷ 0 ∷ []; store = w; work = work }

unfoldable pub changed_tree : Geometry → Entry → List ℕ → List ℕ → Changed
changed_tree g e w work =
    let live = live_after e.normal (get_or w live_word 0) in
    let s = edit g e (tree_of g w) in
    let v = writing g (record { live = live; tree = s.tree }) in
    record { fault = (Ok tt); values = live ∷ s.deepest ∷ length s.written ∷ entries (tree_of g v); store = v; work = replicate (length work) erased }

unfoldable pub merged_change : Geometry → Entry → List ℕ → List ℕ → Changed
merged_change g e w work = elim (fault g w) [ (Ok tt) ↦ changed_tree g e w work | Err f ↦ stayed f w work ]

unfoldable pub change_of : Geometry → Entry → Bool → List ℕ → List ℕ → Changed
change_of g e own w work = elim (fills_head g w own) [ true ↦ merged_change g e w work | false ↦ changed_head g e own w work ]

-- What the code returns, with the words that it leaves.
abbrev pub outcome_fault : Result Done Fault → Judged
outcome_fault (Ok d) = Ok tt
outcome_fault (Err f) = Err f

abbrev pub outcome_values : Result Done Fault → List ℕ → List ℕ
outcome_values (Ok d) counts = d.live ∷ d.deepest ∷ d.pages ∷ counts
outcome_values (Err f) counts = 0 ∷ 0 ∷ 0 ∷ counts

abbrev pub told : Report → List ℕ → List ℕ → Changed
told c w work = record { fault = outcome_fault c.outcome; values = outcome_values c.outcome c.entries; store = w; work = work }

-- A change that is done, told of the words as they stand; one that found a fault.
unfoldable pub done_on : Geometry → List ℕ → ℕ → ℕ → Report
done_on g w deepest pages = record { outcome = Ok (record { live = get_or w live_word 0; deepest = deepest; pages = pages }); entries = entries (tree_of g w) }

unfoldable pub fault_on : Fault → Report
fault_on f = record { outcome = Err f; entries = 0 ∷ 0 ∷ 0 ∷ 0 ∷ [] }

module _ (g : Geometry) (e : Entry) (w work : List ℕ) where
  pub change_merges : (own : Bool) → fills_head g w own ≡ true → merged_change g e w work ≡ change_of g e own w work
  unfolding change_of
  change_merges own h = rw (h, change_of) refl

  pub change_edits : (own : Bool) → fills_head g w own ≡ false → changed_head g e own w work ≡ change_of g e own w work
  unfolding change_of
  change_edits own h = rw (h, change_of) refl

  pub merge_stays : (f : Fault) → fault g w ≡ Err f → told (fault_on f) w work ≡ merged_change g e w work
  unfolding merged_change stayed fault_on
  merge_stays f h = rw (h, merged_change) refl

  pub merge_goes_on : fault g w ≡ Ok tt → changed_tree g e w work ≡ merged_change g e w work
  unfolding merged_change
  merge_goes_on h = rw (h, merged_change) refl
