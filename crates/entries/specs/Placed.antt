-- Where the index entries of a run stand: the numbers of their slots, numbered through the pages of the run. An entry's number follows from how
-- many entries come from it on. Assumes nothing.
use Prim.Native.Nat.{ℕ, zero, suc, ◌+◌, ◌-◌, ◌*◌, ◌/◌, ◌%◌, ◌<◌}
use Rattle.std.proofs.Math.Nat.{add-zero, add-suc, zero-add, sub-zero, mul-add-div, mul-add-mod_self_left, div-eq_of_lt}
use Rattle.std.proofs.Common.{suc-add, mul-zero, mod-eq_of_lt, ◌∙◌, append_assoc, append-nil}
use native.Mathlib.Omega.{arith}
use Rattle.std.specs.Prelude.{◌≡◌, Bool, true, false, List, [], ◌∷◌, ◌++◌, get_or}
use Rattle.std.proofs.Math.Path.{refl, ap, ap₂, sym, fun_ext}
use Rattle.std.proofs.Math.ListN.{length, length-append}
use Rattle.std.proofs.lemmas.List.{get_or_at}
use Rattle.laws.specs.Lists.{span, concat}
use Rattle.geometry.specs.declared.Geometry.{Geometry}
use Rattle.geometry.specs.Places.{slots_in_page}
use Rattle.geometry.specs.Directory.{pages_of}
use Rattle.slot.specs.declared.Slot.{Slot}
use Rattle.rules.specs.Tree.{Entry as Indexed}
use Rattle.rules.specs.Level.{fence_kind}
use Rattle.rules.specs.Finding.{normal_kind}
use Rattle.rules.specs.Sound.{slots_from, head_slots, entries_of}
use Rattle.rules.specs.Faults.{entry_numbers, entry_places}
use Rattle.entries.specs.declared.Run.{Run}
use Rattle.entries.specs.Run.{count_in, place_in, page_in, rest_from, rest, entries_in, rest_all}
use Rattle.entries.specs.Levels.{head_run, level_run, page_slots_lem}
use Rattle.entries.specs.Skip.{slot_in}
use Rattle.entries.specs.Spot.{page_at, slot_number, upcoming, Standing}

-- The numbers of the slots of a run that are index entries.
unfoldable pub places_in : List ℕ → Run → List ℕ
places_in w run = concat (span (λ p. entry_numbers (run.most * p) (page_in w run p)) 0 run.pages)

-- Those from slot j of page p on, in the page and in n pages.
unfoldable page_places : List ℕ → Run → ℕ → ℕ → List ℕ
page_places w run p j = entry_numbers (run.most * p + j) (span (slot_in w run p) j (count_in w run p - j))

unfoldable places_from : List ℕ → Run → ℕ → ℕ → ℕ → List ℕ
places_from w run p j zero = []
places_from w run p j (suc n) = page_places w run p j ++ places_from w run (suc p) 0 n

-- Slots ---------------------------------------------------------------------------------------------------------------------------------------

numbers_length : (n : ℕ) (ss : List Slot) → length (entry_numbers n ss) ≡ length (entries_of ss)
unfolding entry_numbers entries_of
numbers_length n [] = refl
numbers_length n (s ∷ ss) = by_kind (fence_kind s.kind) (numbers_length (suc n) ss)
  where
    by_kind : (fence : Bool) → length (entry_numbers (suc n) ss) ≡ length (entries_of ss) →
        length {A = ℕ} (elim fence [ true ↦ entry_numbers (suc n) ss | false ↦ n ∷ entry_numbers (suc n) ss ]) ≡
        length {A = Indexed} (elim fence [ true ↦ entries_of ss | false ↦ record { pair = s.pair; normal = normal_kind s.kind } ∷ entries_of ss ])
    by_kind true ih = ih
    by_kind false ih = ap suc ih

-- An index entry has the first number.
number_first : (n : ℕ) (s : Slot) (ss : List Slot) → fence_kind s.kind ≡ false → entry_numbers n (s ∷ ss) ≡ n ∷ entry_numbers (suc n) ss
unfolding entry_numbers
number_first n s ss k = rw (k, entry_numbers)

-- Numbers with which others end.
record Ending (xs ys : List ℕ) : Type 0 where
  before : List ℕ
  joined : before ++ xs ≡ ys

ending_all : (xs : List ℕ) → Ending xs xs
ending_all xs = record { before = []; joined = refl }

ending_after : (zs xs ys : List ℕ) → Ending xs ys → Ending xs (zs ++ ys)
ending_after zs xs ys e = record { before = zs ++ e.before; joined = append_assoc zs e.before xs ∙ ap (λ (l : List ℕ). zs ++ l) e.joined }

ending_joined : (xs ys zs : List ℕ) → Ending xs ys → Ending (xs ++ zs) (ys ++ zs)
ending_joined xs ys zs e = record { before = e.before; joined = sym (append_assoc e.before xs zs) ∙ ap (λ (l : List ℕ). l ++ zs) e.joined }

ending_through : (xs ys zs : List ℕ) → Ending xs ys → Ending ys zs → Ending xs zs
ending_through xs ys zs e f = record { before = f.before ++ e.before; joined = append_assoc f.before e.before xs ∙ ap (λ (l : List ℕ). f.before ++ l) e.joined ∙ f.joined }

ending_first : (x : ℕ) (xs ys : List ℕ) (m d : ℕ) → Ending (x ∷ xs) ys → length (x ∷ xs) + m ≡ length ys → get_or ys m d ≡ x
ending_first x xs ys m d e h =
    let q : length e.before ≡ m = omega (arith, ap length e.joined, length-append e.before (x ∷ xs)) in
    rw (← e.joined) (get_or_at e.before x xs d m q)

-- The numbers of the last r slots are the last of those of all.
numbers_ending : (f : ℕ → Slot) (r k n j : ℕ) → Ending (entry_numbers (n + k) (span f (j + k) r)) (entry_numbers n (span f j (r + k)))
unfolding entry_numbers span
numbers_ending f r zero n j = rw (add-zero n, add-zero j, add-zero r) (ending_all _)
numbers_ending f r (suc k) n j =
    rw (add-suc n k, add-suc j k, add-suc r k) (by_kind (fence_kind (f j).kind) (rw (suc-add n k, suc-add j k) at (numbers_ending f r k (suc n) (suc j))))
  where
    by_kind : (fence : Bool) → Ending (entry_numbers (suc (n + k)) (span f (suc (j + k)) r)) (entry_numbers (suc n) (span f (suc j) (r + k))) →
        Ending (entry_numbers (suc (n + k)) (span f (suc (j + k)) r))
        (elim fence [ true ↦ entry_numbers (suc n) (span f (suc j) (r + k)) | false ↦ n ∷ entry_numbers (suc n) (span f (suc j) (r + k)) ])
    by_kind true ih = ih
    by_kind false ih = ending_after (n ∷ []) _ _ ih

-- Pages ---------------------------------------------------------------------------------------------------------------------------------------

module _ (w : List ℕ) (run : Run) where
  from_length : (n p j : ℕ) → length (places_from w run p j n) ≡ length (rest_from w run p j n)
  unfolding places_from page_places rest_from slot_in
  from_length zero p j = refl
  from_length (suc n) p j =
      let ss = span (slot_in w run p) j (count_in w run p - j) in
      length-append (page_places w run p j) (places_from w run (suc p) 0 n) ∙
      ap₂ (λ (a b : ℕ). a + b) (numbers_length (run.most * p + j) ss) (from_length n (suc p) 0) ∙
      sym (length-append (entries_of ss) (rest_from w run (suc p) 0 n))

  pages_on : (n p : ℕ) → places_from w run p 0 n ≡ concat (span (λ p. entry_numbers (run.most * p) (page_in w run p)) p n)
  unfolding places_from page_places concat span page_in slot_in
  pages_on zero p = refl
  pages_on (suc n) p = rw (pages_on n (suc p), sub-zero, add-zero)

  from_all : places_from w run 0 0 run.pages ≡ places_in w run
  unfolding places_in
  from_all = pages_on run.pages 0

  pub places_length : length (places_in w run) ≡ length (entries_in w run)
  unfolding rest
  places_length = rw (← from_all) (from_length run.pages 0 0 ∙ ap length (rw sub-zero at (rest_all w run)))

  pages_ending : (n k p : ℕ) → Ending (places_from w run (p + k) 0 n) (places_from w run p 0 (n + k))
  unfolding places_from
  pages_ending n zero p = rw (add-zero n, add-zero p) (ending_all _)
  pages_ending n (suc k) p = rw (add-suc n k, add-suc p k) (ending_after (page_places w run p 0) _ _ (rw (suc-add p k) at (pages_ending n k (suc p))))

  -- Those from a slot on are the last of all.
  page_ending : (p j : ℕ) → j < count_in w run p → Ending (page_places w run p j) (page_places w run p 0)
  unfolding page_places
  page_ending p j b =
      let slots : count_in w run p - j + j ≡ count_in w run p = omega arith in
      rw (add-zero (run.most * p), sub-zero) (rw (zero-add, slots) at (numbers_ending (slot_in w run p) (count_in w run p - j) j (run.most * p) 0))

  slot_ending : (p j : ℕ) → p < run.pages → j < count_in w run p → Ending (places_from w run p j (run.pages - p)) (places_in w run)
  unfolding places_from
  slot_ending p j h b =
      let n = run.pages - suc p in
      let left : run.pages - p ≡ suc n = omega arith in
      let all : suc n + p ≡ run.pages = omega arith in
      rw left
      (ending_through _ _ _ (ending_joined _ _ (places_from w run (suc p) 0 n) (page_ending p j b)) (rw (all, zero-add, from_all) at (pages_ending (suc n) p 0)))

  -- An index entry has the first of them.
  slot_first : (p j : ℕ) → j < count_in w run p → fence_kind (slot_in w run p j).kind ≡ false →
      page_places w run p j ≡ (run.most * p + j) ∷ entry_numbers (suc (run.most * p + j)) (span (slot_in w run p) (suc j) (count_in w run p - suc j))
  unfolding page_places span
  slot_first p j b k =
      let slots : count_in w run p - j ≡ suc (count_in w run p - suc j) = omega arith in
      rw slots (number_first (run.most * p + j) (slot_in w run p j) _ k)

  slot_placed : (p j m d : ℕ) → p < run.pages → j < count_in w run p → fence_kind (slot_in w run p j).kind ≡ false →
      length (rest_from w run p j (run.pages - p)) + m ≡ length (entries_in w run) → get_or (places_in w run) m d ≡ run.most * p + j
  unfolding places_from
  slot_placed p j m d h b k e =
      let left : run.pages - p ≡ suc (run.pages - suc p) = omega arith in
      ending_first (run.most * p + j) _ (places_in w run) m d (rw (left, places_from, slot_first p j b k) at (slot_ending p j h b))
      (rw (left, places_from, slot_first p j b k) at (ap (λ (n : ℕ). n + m) (from_length (run.pages - p) p j) ∙ e ∙ sym places_length))

-- A slot's number gives its page, and its number in the page.
module _ (most p j : ℕ) (h : j < most) where
  pub page_of_number : (most * p + j) / most ≡ p
  page_of_number =
      let some : 0 < most = omega arith in
      rw (mul-add-div some p j, div-eq_of_lt h) (add-zero p)

  pub slot_of_number : (most * p + j) % most ≡ j
  slot_of_number = rw (mul-add-mod_self_left most p j) (mod-eq_of_lt h)

-- The entry at a spot -------------------------------------------------------------------------------------------------------------------------

module _ (w : List ℕ) (run : Run) (spot : ℕ) where
  pub spot_inside : Standing w run spot → page_at spot < run.pages → slot_number spot < run.most
  unfolding count_in
  spot_inside stands h = omega (arith, stands.in_page h)

  pub spot_placed : (m d : ℕ) → Standing w run spot → page_at spot < run.pages → length (upcoming w run spot) + m ≡ length (entries_in w run) →
      get_or (places_in w run) m d ≡ run.most * page_at spot + slot_number spot
  unfolding upcoming rest
  spot_placed m d stands h = slot_placed w run (page_at spot) (slot_number spot) m d h (stands.in_page h) (stands.index_there h)

-- The levels of a store -----------------------------------------------------------------------------------------------------------------------

pub level_places : (g : Geometry) (w : List ℕ) (i : ℕ) → places_in w (level_run g w (suc i)) ≡ entry_places g w (suc i)
unfolding places_in level_run entry_places
level_places g w i =
    ap (λ (f : ℕ → List Slot). concat (span (λ p. entry_numbers (slots_in_page * p) (f p)) 0 (pages_of g w (suc i)))) (fun_ext (page_slots_lem g w (suc i)))

pub head_places : (g : Geometry) (w : List ℕ) → places_in w (head_run g) ≡ entry_places g w 0
unfolding places_in head_run page_in count_in place_in entry_places head_slots slots_from span concat
head_places g w = rw mul-zero (append-nil _)
