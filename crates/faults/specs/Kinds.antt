-- 14: the first entry, from the top down, whose kind is wrong over the levels below it; or none, and live is wrong. Assumes nothing.
use Prim.Native.Nat.{ℕ, zero, suc, ◌+◌, ◌<◌}
use Rattle.std.proofs.Common.{zero-add, add-zero, arith, sym, subst, ◌∙◌}
use Rattle.std.proofs.Math.Path.{◌≡◌, refl, ap}
use Rattle.std.specs.Prelude.{Bool, true, false, ◌⊎◌, drop, Err, Ok}
use Rattle.std.proofs.lemmas.Bool.{false≢true}
use Rattle.std.proofs.Math.Logic.◌⊎◌.{inl, inr}
use mathlib.Core.List.{List, [], ◌∷◌, ◌++◌}
use Rattle.std.proofs.Math.ListN.{length, get_or, length-append}
use Rattle.std.proofs.Math.Seq.{get_or-append_seam}
use Rattle.laws.specs.Lists.{all, length_span, get_d_span}
use Rattle.laws.specs.Flat.{all_join}
use Rattle.fault.specs.declared.Fault.{Fault}
use Rattle.fault.specs.Judged.{Judged}
use Rattle.fault.specs.declared.Part.TheVariants.{Kinds}
use Rattle.fault.specs.Numbers.{no_place}
use Rattle.geometry.specs.declared.Geometry.{Geometry}
use Rattle.geometry.specs.Geometry.{InRange, bottom}
use Rattle.geometry.specs.Places.{live_word}
use Rattle.rules.specs.Tree.{Entry, Level, Tree, level}
use Rattle.rules.specs.Sound.{level_slots, entries_of, tree_of, right_over, alternating, live_right}
use Rattle.rules.specs.Faults.{unless, first_fault, page_size, placed, entry_places, wrong_entry, kinds_faults, across_fault}
use Rattle.rules.specs.Faultless.{unless_sound, kinds_sound}
use Rattle.faults.specs.Found.{first_found, joined_found, only_found, unless_found}
use Rattle.faults.specs.Places.{slot_number, slot_numbered, number_placed, slot_placed}
use Rattle.faults.specs.Standing.{entry_place, head_stands, level_stands}

-- The levels below level i.
abbrev pub below : Geometry → List ℕ → ℕ → Tree
below g w i = drop (suc i) (tree_of g w)

-- Slot n of level i holds an entry that is wrong over the levels below it; the entries before it in its level are right, and so are all those of
-- the levels above.
pub record FirstWrong (g : Geometry) (w : List ℕ) (i n : ℕ) : Type 0 where
  pub level_exists : i < g.levels
  pub above : (j : ℕ) → j < i → all (right_over (below g w j)) (level j (tree_of g w)) ≡ true
  pub front : Level
  pub entry : Entry
  pub back : Level
  pub entries : level i (tree_of g w) ≡ front ++ entry ∷ back
  pub before : all (right_over (below g w i)) front ≡ true
  pub wrong : right_over (below g w i) entry ≡ false
  pub stands : entry_place g w i (length front) ≡ n
  pub holds : entries_of (slot_numbered g w i n ∷ []) ≡ entry ∷ []

-- Where a fault across levels stands: at the first such entry, or nowhere, where every entry is right and live is wrong.
pub data WrongAcross (g : Geometry) (w : List ℕ) (f : Fault) : Type 0 where
  kind_wrong : f.slot < page_size g f.level → FirstWrong g w f.level (slot_number g f) → WrongAcross g w f
  live_wrong : alternating (tree_of g w) ≡ true → live_right (get_or w live_word 0) (tree_of g w) ≡ false → f ≡ no_place Kinds → WrongAcross g w f

-- Entries that are not all right, split at the first that is wrong.
record Split (t : Tree) (es : Level) : Type 0 where
  front : Level
  entry : Entry
  back : Level
  entries : es ≡ front ++ entry ∷ back
  before : all (right_over t) front ≡ true
  wrong : right_over t entry ≡ false
  number : wrong_entry es t ≡ length front

split : (t : Tree) (es : Level) → all (right_over t) es ≡ false → Split t es
unfolding all wrong_entry
split t [] e = absurd (false≢true (sym e))
split t (f ∷ es) e = chosen (right_over t f) refl e (split t es)
  where
    chosen : (b : Bool) → right_over t f ≡ b → elim b as (λ _. Bool) [ true ↦ all (right_over t) es | false ↦ false ] ≡ false →
        (all (right_over t) es ≡ false → Split t es) → Split t (f ∷ es)
    chosen true q r later =
        let rest = later r in
        record {
          front = f ∷ rest.front;
          entry = rest.entry;
          back = rest.back;
          entries = ap (λ (l : Level). f ∷ l) rest.entries;
          before = all_join (right_over t) f rest.front q rest.before;
          wrong = rest.wrong;
          number = rw (q, wrong_entry) (ap suc rest.number);
        }
    chosen false q r later = record { front = []; entry = f; back = es; entries = refl; before = refl; wrong = q; number = rw (q, wrong_entry) refl }

module _ (g : Geometry) (w : List ℕ) where
  -- The first level of a tree from level i on that has a wrong entry.
  record FoundIn (i : ℕ) (t : Tree) (f : Fault) : Type 0 where
    at : ℕ
    upper : at < length t
    above : (j : ℕ) → j < at → all (right_over (drop (suc j) t)) (level j t) ≡ true
    unright : all (right_over (drop (suc at) t)) (level at t) ≡ false
    tells : placed Kinds g (i + at) (get_or (entry_places g w (i + at)) (wrong_entry (level at t) (drop (suc at) t)) 0) ≡ f

  kinds_found : (i : ℕ) (t : Tree) (f : Fault) → first_fault (kinds_faults g w i t) ≡ Err f → FoundIn i t f
  unfolding kinds_faults first_fault
  kinds_found i [] f e = let z : ◌≡◌ {A = ℕ} 0 1 = cc in absurd (omega arith)
  kinds_found i (es ∷ t) f e = chosen (first_found (unless (all (right_over t) es) own) (kinds_faults g w (suc i) t) f e) (kinds_found (suc i) t f)
    where
      own : Fault
      own = placed Kinds g i (get_or (entry_places g w i) (wrong_entry es t) 0)

      above : all (right_over t) es ≡ true → (n : ℕ) → ((j : ℕ) → j < n → all (right_over (drop (suc j) t)) (level j t) ≡ true) →
          (j : ℕ) → j < suc n → all (right_over (drop (suc j) (es ∷ t))) (level j (es ∷ t)) ≡ true
      above here n rest zero u = here
      above here n rest (suc j) u = rest j (omega arith)

      chosen : (unless (all (right_over t) es) own ≡ Err f) ⊎ ((unless (all (right_over t) es) own ≡ Ok tt) × (first_fault (kinds_faults g w (suc i) t) ≡ Err f)) →
          (first_fault (kinds_faults g w (suc i) t) ≡ Err f → FoundIn (suc i) t f) → FoundIn i (es ∷ t) f
      chosen (inl q) later =
          let told = unless_found (all (right_over t) es) own f q in
          record { at = 0; upper = omega arith; above = λ j u. absurd (omega arith); unright = told.0; tells = rw (add-zero i) told.1 }
      chosen (inr (s, r)) later =
          let rest = later r in
          let next : i + suc rest.at ≡ suc i + rest.at = omega arith in
          record {
            at = suc rest.at;
            upper = omega (arith, rest.upper);
            above = above (unless_sound (all (right_over t) es) own s) rest.at rest.above;
            unright = rest.unright;
            tells = rw next rest.tells;
          }

  -- The entries of each level of the tree stand where their places say.
  tree_long : InRange g → length (tree_of g w) ≡ g.levels
  unfolding tree_of
  tree_long fit = omega (arith, length_span (λ i. entries_of (level_slots g w i)) 1 (bottom g), fit.levels_least)

  pub level_read : (i : ℕ) → i < bottom g → level (suc i) (tree_of g w) ≡ entries_of (level_slots g w (suc i))
  unfolding tree_of
  level_read i h = get_d_span (λ j. entries_of (level_slots g w j)) 1 (bottom g) i [] h ∙ ap (λ (j : ℕ). entries_of (level_slots g w j)) (omega arith)

  entry_held : (i m n : ℕ) (e : Entry) → i < g.levels → m < length (level i (tree_of g w)) → entry_place g w i m ≡ n → get_or (level i (tree_of g w)) m e ≡ e →
      entries_of (slot_numbered g w i n ∷ []) ≡ e ∷ []
  unfolding entry_place tree_of
  entry_held zero m n e u h p q = rw (← p) ((head_stands g w).holds m 0 e h ∙ ap (λ (x : Entry). x ∷ []) q)
  entry_held (suc i) m n e u h p q =
      let r = level_read i (omega arith) in
      let inside : m < length (entries_of (level_slots g w (suc i))) = rw r at h in
      let this : get_or (entries_of (level_slots g w (suc i))) m e ≡ e = rw r at q in
      rw (← p) ((level_stands g w (suc i) (omega arith)).holds m 0 e inside ∙ ap (λ (x : Entry). x ∷ []) this)

  first_wrong : InRange g → (i : ℕ) → i < length (tree_of g w) → ((j : ℕ) → j < i → all (right_over (below g w j)) (level j (tree_of g w)) ≡ true) →
      all (right_over (below g w i)) (level i (tree_of g w)) ≡ false → FirstWrong g w i (get_or (entry_places g w i) (wrong_entry (level i (tree_of g w)) (below g w i)) 0)
  unfolding entry_place
  first_wrong fit i u above unright =
      let es = level i (tree_of g w) in
      let s = split (below g w i) es unright in
      let exists : i < g.levels = omega (arith, tree_long fit) in
      let inside : length s.front < length es = omega (arith, ap length s.entries, length-append s.front (s.entry ∷ s.back)) in
      let stands : get_or (entry_places g w i) (length s.front) 0 ≡ get_or (entry_places g w i) (wrong_entry es (below g w i)) 0 = rw s.number refl in
      record {
        level_exists = exists;
        above = above;
        front = s.front;
        entry = s.entry;
        back = s.back;
        entries = s.entries;
        before = s.before;
        wrong = s.wrong;
        stands = stands;
        holds =
            entry_held i (length s.front) _ s.entry exists inside stands
            (ap (λ (l : Level). get_or l (length s.front) s.entry) s.entries ∙ get_or-append_seam s.front s.entry s.back s.entry);
      }

  -- What acrossFault tells.
  abbrev live : Judged
  live = unless (live_right (get_or w live_word 0) (tree_of g w)) (no_place Kinds)

  data Across (f : Fault) : Type 0 where
    of_kinds : FoundIn 0 (tree_of g w) f → Across f
    of_live : alternating (tree_of g w) ≡ true → live_right (get_or w live_word 0) (tree_of g w) ≡ false → no_place Kinds ≡ f → Across f

  across : (f : Fault) → across_fault g w ≡ Err f → Across f
  unfolding across_fault
  across f e = chosen (joined_found (kinds_faults g w 0 (tree_of g w)) (live ∷ []) f e)
    where
      chosen : (first_fault (kinds_faults g w 0 (tree_of g w)) ≡ Err f) ⊎
          ((first_fault (kinds_faults g w 0 (tree_of g w)) ≡ Ok tt) × (first_fault (live ∷ []) ≡ Err f)) → Across f
      chosen (inl q) = of_kinds (kinds_found 0 (tree_of g w) f q)
      chosen (inr (s, r)) =
          let told = unless_found (live_right (get_or w live_word 0) (tree_of g w)) (no_place Kinds) f (only_found live f r) in
          of_live (kinds_sound g w 0 (tree_of g w) s) told.0 told.1

  pub across_part : (f : Fault) → across_fault g w ≡ Err f → f.part ≡ Kinds
  across_part f e = chosen (across f e)
    where
      chosen : Across f → f.part ≡ Kinds
      chosen (of_kinds found) = ap (λ (x : Fault). x.part) (sym found.tells)
      chosen (of_live alternates wrong own) = ap (λ (x : Fault). x.part) (sym own)

  pub across_first : InRange g → (f : Fault) → across_fault g w ≡ Err f → WrongAcross g w f
  across_first fit f e = chosen (across f e)
    where
      chosen : Across f → WrongAcross g w f
      chosen (of_kinds found) =
          let i = found.at in
          let z : 0 + i ≡ i = zero-add i in
          subst (WrongAcross g w) (rw z at found.tells)
          (kind_wrong (slot_placed Kinds g fit i _) (rw (number_placed Kinds g i _) (first_wrong fit i found.upper found.above found.unright)))
      chosen (of_live alternates wrong own) = live_wrong alternates wrong (sym own)
