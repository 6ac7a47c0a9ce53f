-- How far a listing has come, as the loop of src/lib.rt carries it: what the levels ahead still give completes the rules' list.
-- Assumes nothing.
use Rattle.std.specs.Prelude.{ℕ, ◌+◌, ◌/◌, ◌≤◌, ◌≡◌, Bool, false, List, length}
use Rattle.std.proofs.Common.{arith}
use Rattle.laws.specs.Tests.{and_true}
use Rattle.slot.specs.declared.Pair.{Pair}
use Rattle.slot.specs.Pair.{before, least, least_first}
use Rattle.slot.specs.Order.{above_not_before}
use Rattle.rules.specs.Tree.{Entry, Tree}
use Rattle.rules.specs.Listing.{held_between, Listed, list}
use Rattle.entries.specs.Ascending.{AllFrom}
use Rattle.listing.specs.Merge.{entry_count, wanted}
use Rattle.listing.specs.Writing.{list_from, list_begins}

-- After n pairs a tree is ahead whose held pairs up to the second complete what is to be listed.
pub record Going (second : Pair) (n : ℕ) (t : Tree) (slice : List ℕ) (whole : Listed) : Type 0 where
  pub reaches : list_from n (held_between least second t) slice ≡ whole
  pub ascends : AllFrom 0 t
  pub few : n + entry_count t ≤ 32000000
  pub fits : n ≤ length slice / 2

pub going_begins : (second : Pair) (t : Tree) (slice : List ℕ) → AllFrom 0 t → entry_count t ≤ 32000000 → Going second 0 t slice (list least second t slice)
going_begins second t slice a h = record { reaches = list_begins least second t slice; ascends = a; few = omega arith; fits = omega arith }

-- From the least pair on an entry is listed that is normal and not past the second.
pub wanted_by_kind : (second : Pair) (f : Entry) (b : Bool) → f.normal ≡ b → before second f.pair ≡ false → wanted least second f ≡ b
unfolding wanted
wanted_by_kind second f b k o = rw (k, above_not_before f.pair least (omega (arith, least_first)), o) (and_true b)
