-- A run of pages in words and its index entries from a cursor on, as the clauses of src/lib.rt cite them. Assumes nothing.
use Prim.Native.Nat.{ℕ, zero, suc, ◌+◌, ◌-◌, ◌*◌, ◌≤◌, ◌<◌, min}
use Rattle.std.proofs.Math.Nat.{sub-zero, min-le_right}
use Rattle.std.proofs.Math.Numerals.{add-one}
use native.Mathlib.Omega.{arith}
use Rattle.std.specs.Prelude.{◌≡◌, Bool, true, false, List, [], ◌∷◌, ◌++◌, length, get_or}
use Rattle.std.proofs.Math.Path.{refl}
use Rattle.std.proofs.Common.{ap, sym, ◌∙◌, append_assoc, length-append}
use Rattle.laws.specs.Lists.{span, concat}
use Rattle.geometry.specs.Places.{words_in_slot, words_in_page}
use Rattle.slot.specs.declared.Slot.{Slot}
use Rattle.slot.specs.Slot.{slot_at}
use Rattle.rules.specs.Tree.{Level}
use Rattle.rules.specs.Tree.{Entry as Indexed}
use Rattle.rules.specs.Level.{fence_kind}
use Rattle.rules.specs.Finding.{normal_kind}
use Rattle.rules.specs.Sound.{entries_of}
use Rattle.entries.specs.declared.Run.{Run}
use Rattle.entries.specs.declared.Cursor.{Cursor}
use Rattle.entries.specs.declared.Entry.{Entry}

-- The rules' entry of one that was read.
abbrev pub entry : Entry → Indexed
entry e = record { pair = e.pair; normal = e.normal }

-- The slots of every page lie inside a slice of `words` words, and they are few.
pub record Inside (run : Run) (words : ℕ) : Type 0 where
  pub ends : run.start + words_in_page * run.pages + words_in_slot * run.most ≤ words + 63
  pub few_pages : run.pages ≤ 2000
  pub few_slots : run.most ≤ 4000

-- The slot count of page p, and the first word of its slot j.
unfoldable pub count_in : List ℕ → Run → ℕ → ℕ
count_in w run p = min (get_or w (run.start + words_in_page * p) 0) run.most

unfoldable pub place_in : Run → ℕ → ℕ → ℕ
place_in run p j = run.start + words_in_page * p + 1 + words_in_slot * j

-- What one slot shows, as entries: one or none.
unfoldable pub shown_at : List ℕ → ℕ → Level
shown_at w place = entries_of (slot_at w place ∷ [])

-- The slots of page p, and the index entries of the whole run.
unfoldable pub page_in : List ℕ → Run → ℕ → List Slot
page_in w run p = span (λ j. slot_at w (place_in run p j)) 0 (count_in w run p)

unfoldable pub entries_in : List ℕ → Run → Level
entries_in w run = entries_of (concat (span (page_in w run) 0 run.pages))

-- The index entries from slot j of page p on, in n pages.
unfoldable pub rest_from : List ℕ → Run → ℕ → ℕ → ℕ → Level
rest_from w run p j zero = []
rest_from w run p j (suc n) = entries_of (span (λ k. slot_at w (place_in run p k)) j (count_in w run p - j)) ++ rest_from w run (suc p) 0 n

-- Those from a cursor on.
unfoldable pub rest : List ℕ → Run → Cursor → Level
rest w run c = rest_from w run c.page.0 c.slot.0 (run.pages - c.page.0)

-- Entries of slots joined end to end.
pub entries_joined : (xs ys : List Slot) → entries_of (xs ++ ys) ≡ entries_of xs ++ entries_of ys
unfolding entries_of
entries_joined [] ys = refl
entries_joined (s ∷ xs) ys = kept (fence_kind s.kind) (entries_joined xs ys)
  where
    kept : (fence : Bool) → entries_of (xs ++ ys) ≡ entries_of xs ++ entries_of ys →
        elim fence [ true ↦ entries_of (xs ++ ys) | false ↦ record { pair = s.pair; normal = normal_kind s.kind } ∷ entries_of (xs ++ ys) ] ≡
        elim fence [ true ↦ entries_of xs | false ↦ record { pair = s.pair; normal = normal_kind s.kind } ∷ entries_of xs ] ++ entries_of ys
    kept true ih = ih
    kept false ih = rw ih

-- What a slot that is an index entry shows.
pub index_first : (s : Slot) (ss : List Slot) → fence_kind s.kind ≡ false → entries_of (s ∷ ss) ≡ record { pair = s.pair; normal = normal_kind s.kind } ∷ entries_of ss
unfolding entries_of
index_first s ss k = rw (k, entries_of)

pub shown_index : (w : List ℕ) (place : ℕ) (s : Slot) → s ≡ slot_at w place → fence_kind s.kind ≡ false →
    record { pair = s.pair; normal = normal_kind s.kind } ∷ [] ≡ shown_at w place
unfolding shown_at entries_of
shown_index w place s e k = sym (index_first s [] k) ∙ ap (λ (u : Slot). entries_of (u ∷ [])) e

module _ (w : List ℕ) (run : Run) where
  -- A slot of a page lies inside the words.
  pub slot_inside : (words p j n place : ℕ) → Inside run words → p < run.pages → n ≡ count_in w run p → j < n → place ≡ place_in run p j → place + 3 ≤ words
  unfolding count_in place_in
  slot_inside words p j n place i h e k at =
      omega (arith, i.ends, min-le_right (get_or w (run.start + 64 * p) 0) run.most, e, at)

  -- From a slot on there is what that slot shows, and then what follows it.
  rest_shown : (p j : ℕ) → p < run.pages → j < count_in w run p →
      rest_from w run p j (run.pages - p) ≡ shown_at w (place_in run p j) ++ rest_from w run p (j + 1) (run.pages - p)
  unfolding rest_from shown_at span
  rest_shown p j h b =
      let left : run.pages - p ≡ suc (run.pages - suc p) = omega arith in
      let slots : count_in w run p - j ≡ suc (count_in w run p - suc j) = omega arith in
      let at : ℕ → Slot = λ k. slot_at w (place_in run p k) in
      rw (left, slots, add-one j, entries_joined (at j ∷ []) (span at (suc j) (count_in w run p - suc j)))
      (append_assoc (entries_of (at j ∷ [])) _ _)

  pub rest_found : (p j place : ℕ) (e : Entry) → p < run.pages → j < count_in w run p → place ≡ place_in run p j → entry e ∷ [] ≡ shown_at w place →
      entry e ∷ rest_from w run p (j + 1) (run.pages - p) ≡ rest_from w run p j (run.pages - p)
  rest_found p j place e h b at found = sym (rest_shown p j h b ∙ rw (← at, ← found))

  -- Past the last page there is nothing.
  pub rest_none : (p j : ℕ) → run.pages ≤ p → rest_from w run p j (run.pages - p) ≡ []
  unfolding rest_from
  rest_none p j h =
      let left : run.pages - p ≡ 0 = omega arith in
      rw left

  -- From the beginning on there are all the entries.
  pages_on : (n p : ℕ) → rest_from w run p 0 n ≡ entries_of (concat (span (page_in w run) p n))
  unfolding rest_from concat span entries_of page_in
  pages_on zero p = refl
  pages_on (suc n) p = rw (entries_joined (page_in w run p) (concat (span (page_in w run) (suc p) n)), ← pages_on n (suc p), sub-zero)

  pub rest_all : rest w run (record { page = record { 0 = 0 }; slot = record { 0 = 0 } }) ≡ entries_in w run
  unfolding rest entries_in
  rest_all = rw sub-zero (pages_on run.pages 0)

-- A run has few entries --------------------------------------------------------------------------------------------------------------------

entries_length : (ss : List Slot) → length (entries_of ss) ≤ length ss
unfolding entries_of
entries_length [] = omega arith
entries_length (s ∷ ss) = kept (fence_kind s.kind) (entries_length ss)
  where
    kept : (fence : Bool) → length (entries_of ss) ≤ length ss →
        length {A = Indexed} (elim fence [ true ↦ entries_of ss | false ↦ record { pair = s.pair; normal = normal_kind s.kind } ∷ entries_of ss ]) ≤ suc (length ss)
    kept true ih = omega arith
    kept false ih = omega arith

span_length : (f : ℕ → Slot) (i n : ℕ) → length (span f i n) ≡ n
unfolding span
span_length f i zero = refl
span_length f i (suc n) = ap suc (span_length f (suc i) n)

pages_length : (w : List ℕ) (run : Run) → run.most ≤ 4000 → (p n : ℕ) → length (concat (span (page_in w run) p n)) ≤ n * 4000
unfolding concat span page_in count_in
pages_length w run h p zero = omega arith
pages_length w run h p (suc n) =
    omega (arith, length-append (page_in w run p) (concat (span (page_in w run) (suc p) n)), span_length (λ j. slot_at w (place_in run p j)) 0 (count_in w run p), pages_length w run h (suc p) n)

pub few_in : (w : List ℕ) (run : Run) (n : ℕ) → Inside run n → length (entries_in w run) ≤ 8000000
unfolding entries_in
few_in w run n i =
    omega (arith, i.few_pages, entries_length (concat (span (page_in w run) 0 run.pages)), pages_length w run i.few_slots 0 run.pages)
