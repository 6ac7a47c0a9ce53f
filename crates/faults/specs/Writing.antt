-- 13: what the faults of writing tell. Assumes nothing.
use Rattle.std.specs.Prelude.{ℕ, ◌≤◌, ◌<◌, ◌≡◌, true, false, ◌⊎◌, List, length, Err, Ok}
use Rattle.std.proofs.Math.Nat.{div-eq_of_lt}
use Rattle.std.proofs.Common.{mod-eq_of_lt, arith, sym, ap, subst}
use Rattle.std.proofs.Math.Path.{refl}
use Rattle.std.proofs.Math.Logic.◌⊎◌.{inl, inr}
use Rattle.laws.specs.Lists.{span}
use Rattle.fault.specs.declared.Fault.{Fault}
use Rattle.fault.specs.Judged.{Judged}
use Rattle.fault.specs.declared.Part.TheVariants.{Writing}
use Rattle.geometry.specs.declared.Geometry.{Geometry}
use Rattle.geometry.specs.Geometry.{InRange, bottom}
use Rattle.geometry.specs.Places.{store_words}
use Rattle.geometry.specs.Directory.{pages_of}
use Rattle.rules.specs.Sound.{directory_right, head_right, page_formed, level_sound, head_sound}
use Rattle.rules.specs.Faults.{unless, first_fault, page_size, head_leaves, level_wrong, writing_fault, writing_faults, placed}
use Rattle.rules.specs.Faultless.{unless_sound}
use Rattle.faults.specs.Found.{span_found, unless_found, first_found}
use Rattle.faults.specs.Places.{number_placed, slot_placed}
use Rattle.faults.specs.Miswritten.{Miswritten}
use Rattle.faults.specs.Miswritten.Miswritten.{in_head, in_level}
use Rattle.faults.specs.HeadWriting.{head_miswritten}
use Rattle.faults.specs.LevelWriting.{words_before, entries_before, level_breaks}

-- What writingFaults tells: the fault of the head, or of a level under which those above are sound.
data Unwritten (g : Geometry) (w : List ℕ) (f : Fault) : Type 0 where
  of_head_lem : head_sound g w ≡ false → placed Writing g 0 (head_leaves g w) ≡ f → Unwritten g w f
  of_level_lem : head_sound g w ≡ true → (i : ℕ) → 1 ≤ i → i < g.levels → ((j : ℕ) → 1 ≤ j → j < i → level_sound g w j ≡ true) → level_sound g w i ≡ false →
      placed Writing g i (level_wrong g w i) ≡ f → Unwritten g w f

found_first : (g : Geometry) (w : List ℕ) (f : Fault) → writing_faults g w ≡ Err f → Unwritten g w f
unfolding writing_faults writing_fault
found_first g w f e = chosen (first_found own (span (writing_fault g w) 1 (bottom g)) f e)
  where
    own : Judged
    own = unless (head_sound g w) (placed Writing g 0 (head_leaves g w))

    chosen : (own ≡ Err f) ⊎ ((own ≡ Ok tt) × (first_fault (span (writing_fault g w) 1 (bottom g)) ≡ Err f)) → Unwritten g w f
    chosen (inl q) =
        let told = unless_found (head_sound g w) (placed Writing g 0 (head_leaves g w)) f q in
        of_head_lem told.0 told.1
    chosen (inr (s, r)) =
        let level = span_found (writing_fault g w) 1 (bottom g) f r in
        let i = level.at in
        let told = unless_found (level_sound g w i) (placed Writing g i (level_wrong g w i)) f level.finds in
        of_level_lem (unless_sound (head_sound g w) _ s) i level.lower (omega (arith, level.lower, level.upper))
        (λ j l u. unless_sound (level_sound g w j) _ (level.before j l u)) told.0 told.1

pub writings_part : (g : Geometry) (w : List ℕ) (f : Fault) → writing_faults g w ≡ Err f → f.part ≡ Writing
writings_part g w f e = chosen (found_first g w f e)
  where
    chosen : Unwritten g w f → f.part ≡ Writing
    chosen (of_head_lem wrong own) = ap (λ (x : Fault). x.part) (sym own)
    chosen (of_level_lem head i l u above wrong own) = ap (λ (x : Fault). x.part) (sym own)

module _ (g : Geometry) (w : List ℕ) (fit : InRange g) (whole : length w ≡ store_words g) (right : directory_right g w ≡ true) (head : head_right g w ≡ true)
    (formed : (i p : ℕ) → 1 ≤ i → i < g.levels → p < pages_of g w i → page_formed g w i p ≡ true) where
  told_in_head : head_sound g w ≡ false → Miswritten g w (placed Writing g 0 (head_leaves g w))
  unfolding page_size
  told_in_head wrong =
      let told = head_miswritten g w fit whole right head wrong in
      in_head refl (div-eq_of_lt told.within) (rw (mod-eq_of_lt told.within) told)

  told_in_level : head_sound g w ≡ true → (i : ℕ) → 1 ≤ i → i < g.levels → ((j : ℕ) → 1 ≤ j → j < i → level_sound g w j ≡ true) → level_sound g w i ≡ false →
      Miswritten g w (placed Writing g i (level_wrong g w i))
  told_in_level sound i l u above wrong =
      in_level (slot_placed Writing g fit i (level_wrong g w i))
      (rw (number_placed Writing g i (level_wrong g w i))
      (record {
        below_head = l;
        level_exists = u;
        head = sound;
        above = above;
        unsound = wrong;
        words_before = words_before g w fit whole right i l u (λ p. formed i p l u);
        entries_before = entries_before g w fit whole right i l u (λ p. formed i p l u);
        breaks = level_breaks g w fit whole right i l u (λ p. formed i p l u) wrong;
      }))

  pub writings_first : (f : Fault) → writing_faults g w ≡ Err f → Miswritten g w f
  writings_first f e = chosen (found_first g w f e)
    where
      chosen : Unwritten g w f → Miswritten g w f
      chosen (of_head_lem wrong own) = subst (Miswritten g w) own (told_in_head wrong)
      chosen (of_level_lem sound i l u above wrong own) = subst (Miswritten g w) own (told_in_level sound i l u above wrong)
