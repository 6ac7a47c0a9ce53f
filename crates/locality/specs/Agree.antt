-- Two stores that agree on the words that a test or a step of the walk reads give it the same answer. Assumes nothing.
use Prim.Native.Nat.{ℕ, zero, suc, ◌+◌, ◌*◌, ◌≤◌, ◌<◌, min}
use Rattle.std.proofs.Math.Nat.{min-le_right}
use Rattle.std.proofs.Common.{arith, ltb-true}
use Rattle.std.specs.Prelude.{◌≡◌, ◌&&◌, List, [], ◌∷◌, get_or, ltb}
use Rattle.std.proofs.Math.Path.{refl, ap, fun_ext}
use Rattle.std.proofs.Math.Bool.{Bool, true, false}
use Rattle.std.proofs.Math.Dec.{leb, eqb}
use Rattle.laws.specs.Lists.{span, all_three}
use Rattle.geometry.specs.declared.Geometry.{Geometry}
use Rattle.geometry.specs.Geometry.{room}
use Rattle.geometry.specs.Places.{words_in_page, head_room, page_place, head_word, ratio_word, levels_word, live_word, pages_word, mode_word, head_count_word, head_start, directory_words}
use Rattle.geometry.specs.Apart.{first_slot}
use Rattle.slot.specs.declared.Pair.{Pair}
use Rattle.slot.specs.Slot.{slot_at}
use Rattle.rules.specs.Sound.{slots_from, head_slots, count_at, page_slots, pages_right, directory_right, head_right, count_right, page_formed, page_right}
use Rattle.rules.specs.Faults.{head_rule, head_slot, head_fault, page_rule, page_slot, page_fault, walk_fault}
use Rattle.geometry.specs.Directory.{geometry_of, pages_of}
use Rattle.form.specs.Passes.{head_scanned, page_scanned}
use Rattle.walk.specs.Step.{head_step, page_step}
use Rattle.walk.specs.Trail.{head_line, page_line}

-- Two stores agree on the n words from a place on.
abbrev pub Same : List ℕ → List ℕ → ℕ → ℕ → Type 0
Same w v from n = (i : ℕ) → from ≤ i → i < from + n → get_or w i 0 ≡ get_or v i 0

-- They agree on pages, the first one of level i, each further one of the level below.
abbrev pub SamePages : Geometry → List ℕ → List ℕ → ℕ → List ℕ → Type 0
SamePages g w v i [] = Unit {0}
SamePages g w v i (p ∷ ps) = Same w v (page_place g i p) words_in_page × SamePages g w v (suc i) ps

-- A run of slots.
module _ (w v : List ℕ) where
  same_slot_lem : (at : ℕ) → Same w v at 3 → slot_at w at ≡ slot_at v at
  unfolding slot_at
  same_slot_lem at same = rw (same at (omega arith) (omega arith), same (at + 1) (omega arith) (omega arith), same (at + 2) (omega arith) (omega arith))

  same_span : (from count i n : ℕ) → Same w v from (3 * count) → i + n ≤ count →
      span (λ j. slot_at w (from + 3 * j)) i n ≡ span (λ j. slot_at v (from + 3 * j)) i n
  unfolding span
  same_span from count i zero same h = refl
  same_span from count i (suc n) same h =
      rw (same_slot_lem (from + 3 * i) (λ k a b. same k (omega arith) (omega arith)), same_span from count (suc i) n same (omega arith))

  same_slots : (from count n : ℕ) → Same w v from (3 * count) → n ≤ count → slots_from w from n ≡ slots_from v from n
  unfolding slots_from
  same_slots from count n same h = same_span from count 0 n same (omega arith)

-- The directory, words 0..8.
module _ (w v : List ℕ) (same : Same w v 0 directory_words) where
  same_word : (i : ℕ) → i < directory_words → get_or w i 0 ≡ get_or v i 0
  same_word i h = same i (omega arith) (omega arith)

  pub same_geometry : geometry_of w ≡ geometry_of v
  unfolding geometry_of
  same_geometry = rw (same_word head_word (omega arith), same_word ratio_word (omega arith), same_word levels_word (omega arith))

  module _ (g : Geometry) where
    same_pages_right : (i : ℕ) → i ≤ 3 → pages_right g w i ≡ pages_right g v i
    unfolding pages_right
    same_pages_right i h = ap counted (same_word (pages_word i) (omega arith))
      where
        counted : ℕ → Bool
        counted n = elim (ltb i g.levels) [ true ↦ leb 1 n && leb n (room g i) | false ↦ eqb n 0 ]

    pub same_directory : directory_right g w ≡ directory_right g v
    unfolding directory_right
    same_directory =
        rw (
          all_three (pages_right g w) 1 2 3,
          all_three (pages_right g v) 1 2 3,
          same_pages_right 1 (omega arith),
          same_pages_right 2 (omega arith),
          same_pages_right 3 (omega arith),
          same_word live_word (omega arith),
          same_word mode_word (omega arith),
        )

    -- Page counts of levels that exist.
    module _ (four : g.levels ≤ 4) where
      same_count : (i : ℕ) → pages_of g w i ≡ pages_of g v i
      unfolding pages_of
      same_count i = by (ltb i g.levels) refl
        where
          counted : Bool → ℕ → ℕ
          counted b n = elim b [ true ↦ n | false ↦ 0 ]

          by : (b : Bool) → ltb i g.levels ≡ b → counted b (get_or w (pages_word i) 0) ≡ counted b (get_or v (pages_word i) 0)
          by true e = same_word (pages_word i) (omega (arith, ltb-true i g.levels e))
          by false e = refl

      -- The head.
      module _ (head : Same w v head_start (3 * head_room g)) (asked : Pair) where
        same_head : head_slots g w ≡ head_slots g v
        unfolding head_slots
        same_head =
            rw (same_word head_count_word (omega arith)) (same_slots w v head_start (head_room g) (min (get_or v head_count_word 0) (head_room g)) head (min-le_right (get_or v head_count_word 0) (head_room g)))

        same_head_rule : head_rule g w ≡ head_rule g v
        unfolding head_rule
        same_head_rule = fun_ext (λ ss. rw (same_count 1))

        pub same_head_step : head_step g w asked ≡ head_step g v asked
        unfolding head_step head_right head_fault head_slot
        same_head_step = rw (same_head_rule, same_head, same_word head_count_word (omega arith), same_count 1)

        pub same_head_line : head_line g w asked ≡ head_line g v asked
        unfolding head_line head_scanned
        same_head_line = rw (same_head_step, same_head)

      -- A page of level i, 64 words.
      module _ (asked : Pair) (i p : ℕ) (page : Same w v (page_place g i p) 64) where
        same_page_count : count_at g w i p ≡ count_at g v i p
        unfolding count_at
        same_page_count = page (page_place g i p) (omega arith) (omega arith)

        same_page : page_slots g w i p ≡ page_slots g v i p
        unfolding page_slots
        same_page =
            rw (same_page_count, first_slot g i p)
            (same_slots w v (page_place g i p + 1) 21 (min (count_at g v i p) 21) (λ k a b. page k (omega arith) (omega arith)) (min-le_right (count_at g v i p) 21))

        same_page_rule : page_rule g w i ≡ page_rule g v i
        unfolding page_rule
        same_page_rule = fun_ext (λ ss. rw (same_count (suc i)))

        pub same_page_step : page_step g w asked i p ≡ page_step g v asked i p
        unfolding page_step page_right page_formed count_right walk_fault page_fault page_slot
        same_page_step = rw (same_page_rule, same_page, same_page_count, same_count i, same_count (suc i))

        pub same_page_line : page_line g w asked i p ≡ page_line g v asked i p
        unfolding page_line page_scanned
        same_page_line = rw (same_page_step, same_page)
