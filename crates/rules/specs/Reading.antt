-- What reading a store gives where it is laid out in slots: those slots, level by level and page by page. Assumes nothing.
use Rattle.std.specs.Prelude.{ℕ, ◌*◌, ◌≤◌, ◌<◌, ◌≡◌, List, [], length, get_or}
use Rattle.geometry.specs.declared.Geometry.{Geometry}
use Rattle.geometry.specs.Places.{live_word, pages_word, mode_word, open_mode, head_count_word, store_words, slots_in_page}
use Rattle.slot.specs.declared.Slot.{Slot}
use Rattle.rules.specs.Level.{pages_for, page_of, first_among}
use Rattle.rules.specs.Sound.{head_slots, count_at, page_slots, level_slots, first_at}
use Rattle.geometry.specs.Directory.{geometry_of, pages_of}

pub record Reads (g : Geometry) (live : ℕ) (ss : List (List Slot)) (w : List ℕ) : Type 0 where
  pub whole : length w ≡ store_words g
  pub geometry : geometry_of w ≡ g
  pub live_pairs : get_or w live_word 0 ≡ live
  pub reserved : get_or w mode_word 0 ≡ open_mode
  pub pages : (i : ℕ) → 1 ≤ i → i < g.levels → pages_of g w i ≡ pages_for (length (get_or ss i []))
  pub no_pages : (i : ℕ) → g.levels ≤ i → i ≤ 3 → get_or w (pages_word i) 0 ≡ 0
  pub head_count_lem : get_or w head_count_word 0 ≡ length (get_or ss 0 [])
  pub head_slots_lem : head_slots g w ≡ get_or ss 0 []
  pub counts : (i p : ℕ) → 1 ≤ i → i < g.levels → p < pages_for (length (get_or ss i [])) → count_at g w i p ≡ length (page_of (get_or ss i []) p)
  pub page_slots_lem : (i p : ℕ) → 1 ≤ i → i < g.levels → p < pages_for (length (get_or ss i [])) → page_slots g w i p ≡ page_of (get_or ss i []) p
  pub level_slots_lem : (i : ℕ) → 1 ≤ i → i < g.levels → level_slots g w i ≡ get_or ss i []
  pub firsts : (i p : ℕ) → 1 ≤ i → i < g.levels → slots_in_page * p < length (get_or ss i []) → first_at g w i p ≡ first_among (get_or ss i []) p
