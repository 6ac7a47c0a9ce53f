-- The texts of a level by the way that the code takes to each. Assumes nothing.
use Rattle.std.specs.Prelude.{ℕ, zero, suc, ◌-◌, ◌≡◌, refl, List, [], ◌++◌}
use Rattle.std.proofs.Common.{arith}
use borrow.Author.Tests.{eq-eqb, ne_eqb}
use Rattle.trail_words.specs.Places.{read_in, page_in, reach_in, entry_in, followed_in, normal_word, filter_word}
use Rattle.printing.specs.Text.{bytes_of}
use Rattle.printing.specs.Line.{named}
use Rattle.why_levels.specs.Lines.{if_any, entry_text, place_text, step_text, level_text}

-- A number that 0 stands for none of.
module _ (name : List ℕ) where
  pub any_none : (n : ℕ) → n ≡ 0 → [] ≡ if_any name n
  any_none n e = rw e

  pub any_told : (n : ℕ) → (n ≡ 0 → ⊥) → named name (n - 1) ≡ if_any name n
  any_told zero e = absurd (e refl)
  any_told (suc n) e =
      let less : suc n - 1 ≡ n = omega arith in
      rw less

-- An entry.
module _ (entry : ℕ) where
  pub entry_normal : entry ≡ normal_word → bytes_of " entry=normal" ≡ entry_text entry
  unfolding entry_text
  entry_normal e = rw e

  pub entry_filter : entry ≡ filter_word → bytes_of " entry=filter" ≡ entry_text entry
  unfolding entry_text
  entry_filter e = rw e

  pub entry_none : (entry ≡ normal_word → ⊥) → (entry ≡ filter_word → ⊥) → [] ≡ entry_text entry
  unfolding entry_text
  entry_none n f = rw (ne_eqb entry normal_word n, ne_eqb entry filter_word f)

-- A level, read or not.
module _ (trail : List ℕ) (i : ℕ) where
  pub level_unread : read_in trail i ≡ 0 → [] ≡ level_text trail i
  unfolding level_text
  level_unread e = rw (eq-eqb (read_in trail i) 0 e)

  pub level_read : (read_in trail i ≡ 0 → ⊥) → place_text i (page_in trail i) (reach_in trail i) ++ step_text (entry_in trail i) (followed_in trail i) ≡ level_text trail i
  unfolding level_text
  level_read e = rw (ne_eqb (read_in trail i) 0 e)
