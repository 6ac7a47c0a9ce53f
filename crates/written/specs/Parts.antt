-- What is decided here of the head and of each level is what the whole-store test asks of their writing. Assumes nothing.
use Rattle.std.specs.Prelude.{ℕ, suc, ◌+◌, ◌*◌, ◌≤◌, min, ◌≡◌, refl, Bool, true, false, not, ◌&&◌, List, [], ◌∷◌, map, length, get_or, take, drop, leb, eqb}
use Rattle.std.proofs.Common.{arith, sym, ap, ◌∙◌, eqb-true, leb-true}
use Rattle.std.proofs.Math.Path.{fun_ext}
use Rattle.laws.specs.Lists.{span, concat, equal, all}
use Rattle.laws.specs.Flat.{span_agree}
use Rattle.geometry.specs.declared.Geometry.{Geometry}
use Rattle.geometry.specs.Geometry.{bottom, room}
use Rattle.geometry.specs.Places.{head_count_word, head_start, head_room, level_start, page_place, slot_place}
use Rattle.slot.specs.declared.Pair.{Pair}
use Rattle.slot.specs.declared.Slot.{Slot}
use Rattle.slot.specs.Slot.{slot_at}
use Rattle.rules.specs.Tree.{Level}
use Rattle.rules.specs.Level.{index, fences, place, weave, paged}
use Rattle.rules.specs.Store.{run_words}
use Rattle.rules.specs.Sound.{slots_from, head_slots, count_at, page_slots, level_slots, entries_of, first_at, head_right, page_formed, level_laid, within_capacity, level_sound, head_sound}
use Rattle.geometry.specs.Directory.{pages_of, pages_none}
use Rattle.entries.specs.Ready.{head_ascends}
use Rattle.written.specs.Written.{level_written, head_written}
use Rattle.layout.specs.Words.{first_pair, laid_over, count_of, page_run, level_run}

-- The places of a level's words by its geometry are those by its start.
slot_place_lem : (g : Geometry) (i p : ℕ) → slot_place g i p 0 ≡ level_start g i + 64 * p + 1
unfolding slot_place page_place
slot_place_lem g i p = omega arith

pub first_at_lem : (g : Geometry) (w : List ℕ) (i : ℕ) → first_at g w i ≡ first_pair w (level_start g i)
unfolding first_at first_pair
first_at_lem g w i = fun_ext λ p. ap (λ (n : ℕ). (slot_at w n).pair) (slot_place_lem g i p)

pub level_own : (g : Geometry) (w : List ℕ) (i : ℕ) → level_slots g w i ≡ level_run w (level_start g i) (pages_of g w i)
unfolding level_slots level_run page_slots page_run count_at count_of page_place
level_own g w i =
    ap concat (span_agree (page_slots g w i) (page_run w (level_start g i)) 0 0 (pages_of g w i) (λ k b. rw (slot_place_lem g i (0 + k)) refl))

-- With no fence the entries alone are woven.
weave_none : (es : Level) → weave es [] ≡ map index es
unfolding weave place
weave_none [] = refl
weave_none (e ∷ es) = rw (weave_none es) refl

no_fences : (first : ℕ → Pair) → fences first 0 ≡ []
unfolding fences span
no_fences first = refl

none_below : (g : Geometry) (w : List ℕ) (i : ℕ) → i ≡ bottom g → pages_of g w (suc i) ≡ 0
none_below g w i e = pages_none g w (suc i) (omega arith)

pub level_laid_lem : (g : Geometry) (w : List ℕ) (i : ℕ) (es : Level) →
    level_laid g w i es ≡ laid_over (not (eqb i (bottom g))) (first_pair w (level_start g (suc i))) (pages_of g w (suc i)) es
unfolding level_laid laid_over
level_laid_lem g w i es = chosen (eqb i (bottom g)) refl
  where
    bare : i ≡ bottom g → map index es ≡ weave es (fences (first_pair w (level_start g (suc i))) (pages_of g w (suc i)))
    bare e = rw (none_below g w i e, no_fences (first_pair w (level_start g (suc i)))) (sym (weave_none es))

    chosen : (b : Bool) → eqb i (bottom g) ≡ b →
        ◌≡◌ {A = List Slot} (elim b [ true ↦ map index es | false ↦ paged 0 0 (weave es (fences (first_at g w (suc i)) (pages_of g w (suc i)))) ])
        (laid_over (not b) (first_pair w (level_start g (suc i))) (pages_of g w (suc i)) es)
    chosen true e = bare (eqb-true i (bottom g) e)
    chosen false e = rw (first_at_lem g w (suc i)) refl

-- A level is sound exactly if its pages are formed, it is its writing, and it is within its capacity.
regrouped : (a b c d e : Bool) → (a && b && c && d && e) ≡ (a && (b && c && d) && e)
regrouped true b c d e = refl
regrouped false b c d e = refl

pub level_sound_parts : (g : Geometry) (w : List ℕ) (i : ℕ) → level_sound g w i ≡
    (all (page_formed g w i) (span (λ p. p) 0 (pages_of g w i)) &&
    level_written w (level_start g i) (room g i) (pages_of g w i) (not (eqb i (bottom g))) (level_start g (suc i)) (pages_of g w (suc i)) &&
    within_capacity g i (length (entries_of (level_run w (level_start g i) (pages_of g w i)))))
unfolding level_sound level_written
level_sound_parts g w i =
    rw (level_own g w i, level_laid_lem g w i (entries_of (level_run w (level_start g i) (pages_of g w i))))
    (regrouped (all (page_formed g w i) (span (λ p. p) 0 (pages_of g w i))) _ _ _ _)

-- So what a call told of its writing, and of the number of its entries, decides it where its pages are formed.
pub level_sound_told : (g : Geometry) (w : List ℕ) (i : ℕ) (ok : Bool) (entries : ℕ) → all (page_formed g w i) (span (λ p. p) 0 (pages_of g w i)) ≡ true →
    ok ≡ level_written w (level_start g i) (room g i) (pages_of g w i) (not (eqb i (bottom g))) (level_start g (suc i)) (pages_of g w (suc i)) →
    (ok ≡ true → entries ≡ length (entries_of (level_run w (level_start g i) (pages_of g w i)))) → level_sound g w i ≡ (ok && within_capacity g i entries)
level_sound_told g w i ok entries formed e n = level_sound_parts g w i ∙ rw (formed, ← e) (counted ok n)
  where
    counted : (b : Bool) → (b ≡ true → entries ≡ length (entries_of (level_run w (level_start g i) (pages_of g w i)))) →
        (b && within_capacity g i (length (entries_of (level_run w (level_start g i) (pages_of g w i))))) ≡ (b && within_capacity g i entries)
    counted true h = rw (h refl) refl
    counted false h = refl

-- The head is sound exactly if it is right as put, drop and ask ask, and is its writing.
count_fits : (a b c d e f : Bool) → (a && b && c && d && e && f) ≡ true → a ≡ true
count_fits true b c d e f h = refl
count_fits false b c d e f h = h

pub head_fits : (g : Geometry) (w : List ℕ) → head_right g w ≡ true → get_or w head_count_word 0 ≤ head_room g
unfolding head_right
head_fits g w e = leb-true _ _ (count_fits (leb (get_or w head_count_word 0) (head_room g)) _ _ _ _ _ e)

head_own_lem : (g : Geometry) (w : List ℕ) → head_right g w ≡ true → head_slots g w ≡ slots_from w head_start (get_or w head_count_word 0)
unfolding head_slots
head_own_lem g w e =
    let m : min (get_or w head_count_word 0) (head_room g) ≡ get_or w head_count_word 0 = omega (arith, head_fits g w e) in
    rw m refl

pub head_sound_parts : (g : Geometry) (w : List ℕ) → head_sound g w ≡
    (head_right g w && head_written w head_start (head_room g) (get_or w head_count_word 0) (level_start g 1) (pages_of g w 1))
unfolding head_sound head_written laid_over
head_sound_parts g w = chosen (head_right g w) refl
  where
    slots : List Slot
    slots = weave (entries_of (head_slots g w)) (fences (first_at g w 1) (pages_of g w 1))

    chosen : (b : Bool) → head_right g w ≡ b → (head_right g w && eqb (length slots) (get_or w head_count_word 0) &&
        equal (take (3 * head_room g) (drop head_start w)) (run_words slots (head_room g))) ≡
        (head_right g w && head_written w head_start (head_room g) (get_or w head_count_word 0) (level_start g 1) (pages_of g w 1))
    chosen true e = rw (e, first_at_lem g w 1) (rw (← head_own_lem g w e, head_ascends g w e) refl)
    chosen false e = rw e refl
