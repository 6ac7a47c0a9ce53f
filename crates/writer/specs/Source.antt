-- What a level is written from, as the clauses of src/lib.rt cite it. Assumes nothing.
use Rattle.std.specs.Prelude.{ℕ, ◌+◌, ◌*◌, ◌^◌, ◌≤◌, ◌≡◌, refl, true, List, [], length}
use Rattle.std.proofs.Common.{arith}
use Rattle.laws.specs.Lists.{span, concat}
use Rattle.slot.specs.declared.Pair.{Pair}
use Rattle.slot.specs.declared.Slot.{Slot}
use Rattle.rules.specs.Merging.{join}
use Rattle.rules.specs.Sound.{entries_of, ascending}
use Rattle.entries.specs.declared.Run.{Run}
use Rattle.entries.specs.Run.{Inside, entries_in}
use Rattle.layout.specs.Words.{first_pair, laid_over}
use Rattle.writer.specs.declared.Source.{Source}
use Rattle.geometry.specs.Places.{words_in_page}

-- The two runs and the pages below lie inside the words, and a fence's tag has room for its page number.
pub record SourceInside (w : List ℕ) (source : Source) : Type 0 where
  pub upper_inside : Inside source.upper (length w)
  pub lower_inside : Inside source.lower (length w)
  pub below_inside : source.below_start + words_in_page * source.below ≤ length w
  pub below_few : source.below ≤ 2 ^ 30

-- The entries of both runs ascend.
pub record SourceAscends (w : List ℕ) (source : Source) : Type 0 where
  pub upper_ascends : ascending (entries_in w source.upper) ≡ true
  pub lower_ascends : ascending (entries_in w source.lower) ≡ true

-- The pair in the first slot of a page below, as it stands.
abbrev pub first_below : List ℕ → Source → ℕ → Pair
first_below w source = first_pair w source.below_start

-- The slots of the level that is written: the two levels' entries joined, over the pages below as they stand.
unfoldable pub level_from : List ℕ → Source → List Slot
level_from w source =
    laid_over source.fenced (first_below w source) source.below (join (entries_in w source.upper) (entries_in w source.lower))

-- A run that has no entries: a level of fences alone is written from two of them.
unfoldable pub empty_run : Run
empty_run = record { start = 0; pages = 0; most = 0 }

pub empty_entries : (w : List ℕ) → entries_in w empty_run ≡ []
unfolding empty_run entries_in span concat entries_of
empty_entries w = refl

pub empty_inside : (n : ℕ) → Inside empty_run n
unfolding empty_run
empty_inside n = record { ends = omega arith; few_pages = omega arith; few_slots = omega arith }
