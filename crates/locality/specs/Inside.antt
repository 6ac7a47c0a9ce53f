-- The pages that an ask reads lie in the rooms of their levels, and so inside the store. Assumes nothing.
use Prim.Native.Nat.{ℕ, zero, suc, ◌+◌, ◌≤◌, ◌<◌}
use Rattle.std.proofs.Common.{arith}
use Rattle.std.specs.Prelude.{◌≡◌, refl, Bool, true, false, cond, List, [], ◌∷◌, length, Err}
use Rattle.geometry.specs.declared.Geometry.{Geometry}
use Rattle.geometry.specs.Geometry.{bottom, room}
use Rattle.geometry.specs.Places.{page_place, store_words, words_in_page}
use Rattle.geometry.specs.Apart.{level_inside}
use Rattle.geometry.proofs.Apart.{page_inside}
use Rattle.slot.specs.declared.Pair.{Pair}
use Rattle.slot.specs.Slot.{slot_at}
use Rattle.rules.specs.Sound.{directory_right, head_right, page_formed}
use Rattle.rules.specs.Faults.{head_slot, page_slot}
use Rattle.geometry.specs.Directory.{geometry_of, pages_of}
use Rattle.walk.specs.Stepping.{Step}
use Rattle.walk.specs.Stepping.{Decided, Follow, Nothing, Broken}
use Rattle.form.specs.Passes.{fence_up_to, head_scanned, page_scanned}
use Rattle.walk.specs.Step.{head_step, page_step, StepWithin}
use Rattle.walk.specs.Read.{head_broken, head_tells, head_within, page_broken, page_first_broken, page_tells, page_within}
use Rattle.walk.specs.Trail.{page_line, lines_on, line_pages}
use Rattle.rules.specs.Directed.{pages_most}
use Rattle.opening.specs.Reply.{by_first}
use Rattle.opening.specs.Opening.{opening, opened_range, opened_length}
use Rattle.locality.specs.Reads.{pages_read, pages_read_lem, walk_reads_lem}

-- Pages of level i and of the levels below it, each in its level's room and inside n words.
abbrev pub PagesInside : Geometry → ℕ → ℕ → List ℕ → Type 0
PagesInside g n i [] = Unit {0}
PagesInside g n i (p ∷ ps) = (p < room g i) × (page_place g i p + words_in_page ≤ n) × PagesInside g n (suc i) ps

-- A page that a level tells to follow is one that the level below has.
module _ (g : Geometry) (w : List ℕ) (asked : Pair) where
  head_flawed : head_right g w ≡ false → (head_scanned g w asked).formed ≡ Err (head_slot g w)
  unfolding head_scanned
  head_flawed e = rw e

  page_flawed : (i p : ℕ) → page_formed g w i p ≡ false → (page_scanned g w asked i p).formed ≡ Err (page_slot g w i p)
  unfolding page_scanned
  page_flawed i p e = rw e

  head_follows : StepWithin (pages_of g w 1) (head_step g w asked)
  head_follows = by (head_right g w) refl
    where
      by : (b : Bool) → head_right g w ≡ b → StepWithin (pages_of g w 1) (head_step g w asked)
      by true e = rw (head_tells g w asked e) at (head_within g w asked e)
      by false e = rw (← (head_broken g w asked refl (head_flawed e))) tt

  page_follows : (i p : ℕ) → suc i < g.levels → StepWithin (pages_of g w (suc i)) (page_step g w asked i p)
  page_follows i p above = by (page_formed g w i p) refl (fence_up_to asked (slot_at w (page_place g i p + 1))) refl
    where
      by : (b : Bool) → page_formed g w i p ≡ b → (f : Bool) → fence_up_to asked (slot_at w (page_place g i p + 1)) ≡ f →
          StepWithin (pages_of g w (suc i)) (page_step g w asked i p)
      by true e true h = rw (page_tells g w asked i p e above h) at (page_within g w asked i p e above h)
      by true e false h = rw (← (page_first_broken g w asked i p e above h)) tt
      by false e f h = rw (← (page_broken g w asked i p refl (page_flawed i p e))) tt

  -- The pages read from a level on.
  module _ (n : ℕ) (four : g.levels ≤ 4) (exact : n ≡ store_words g) (right : directory_right g w ≡ true) where
    read_inside : (i p : ℕ) → suc i < g.levels → p < pages_of g w (suc i) → (p < room g (suc i)) × (page_place g (suc i) p + 64 ≤ n)
    unfolding page_place
    read_inside i p h k =
        let fits : p < room g (suc i) = omega (arith, k, pages_most g w right (suc i) (omega arith) (omega arith) h) in
        (fits, omega (arith, exact, page_inside g (suc i) p fits, level_inside g (suc i) (omega arith)))

    reads_inside : (m i : ℕ) (s : Step) → i + m < g.levels → (1 ≤ m → StepWithin (pages_of g w (suc i)) s) → PagesInside g n (suc i) (line_pages (lines_on g w asked m i s))
    unfolding lines_on line_pages page_line
    reads_inside zero i s h k = tt
    reads_inside (suc m) i (Decided held) h k = tt
    reads_inside (suc m) i (Follow page) h k =
        let here = read_inside i page.0 (omega arith) (k (omega arith)) in
        (here.0, here.1, reads_inside m (suc i) (page_step g w asked (suc i) page.0) (omega arith) (λ l. page_follows (suc i) page.0 (omega arith)))
    reads_inside (suc m) i Nothing h k = tt
    reads_inside (suc m) i (Broken f) h k = tt

pub reads_lie_inside : (w : List ℕ) (asked : Pair) → PagesInside (geometry_of w) (length w) 1 (pages_read w asked)
reads_lie_inside w asked = rw (pages_read_lem w asked, walk_reads_lem (geometry_of w) w asked) (by (opening w) refl (directory_right (geometry_of w) w) refl)
  where
    g : Geometry
    g = geometry_of w

    by : (n : ℕ) → opening w ≡ n → (b : Bool) → directory_right g w ≡ b →
        PagesInside g (length w) 1 (by_first n (cond b (line_pages (lines_on g w asked (bottom g) 0 (head_step g w asked))) []) (λ n. []))
    by zero o true e =
        reads_inside g w asked (length w) (opened_range w o).levels_most (opened_length w o) e (bottom g) 0 (head_step g w asked)
        (omega (arith, (opened_range w o).levels_least)) (λ m. head_follows g w asked)
    by zero o false e = tt
    by (suc n) o b e = tt
