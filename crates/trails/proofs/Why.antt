-- What the lines of a why show, on any words: the entry that decides, and that no page read before it has one. Assumes nothing.
use Rattle.std.specs.Prelude.{ℕ, ◌≡◌, Bool, List}
use Rattle.std.proofs.Common.{arith}
use Rattle.geometry.specs.declared.Geometry.{Geometry}
use Rattle.geometry.specs.Directory.{geometry_of}
use Rattle.slot.specs.declared.Pair.{Pair}
use Rattle.walk.specs.Walked.{found}
use Rattle.walk.specs.Trail.{trail}
use Rattle.opening.specs.Opening.{opened_range}
use Rattle.call_ask.specs.Ask.{walk_reply, ask_of, ask_found}
use Rattle.call_why.specs.Why.{why_lines}
use Rattle.trails.proofs.Decides.{found_lines, deciding_line, no_entry_above}
use Rattle.trails.proofs.NoneDecides.{none_decides}
use Rattle.trails.specs.Why.{WhyShows}

module _ (w : List ℕ) (pair : Pair) (held : Bool) (level : ℕ) (told : ask_of w pair ≡ walk_reply (found held level)) where
  abbrev g : Geometry
  g = geometry_of w

  why_lines_lem : why_lines w pair ≡ trail (geometry_of w) w pair
  unfolding why_lines
  why_lines_lem = let finds = ask_found w pair held level told in rw finds.0 (found_lines g w pair held level finds.1)

  pub why_shows : WhyShows w pair held level
  why_shows =
      let finds = ask_found w pair held level told in
      let walk = finds.1 in record {
        lines = why_lines_lem;
        decides = λ h. rw why_lines_lem (deciding_line g w pair held level walk h);
        none_above = λ i h b. no_entry_above g w pair held level walk i (rw why_lines_lem at h) b;
        none_decides_here = λ h.
            let none = none_decides g w pair held level walk (omega (arith, (opened_range w finds.0).levels_least)) h in
            (none.0, λ i b. none.1 i (rw why_lines_lem at b));
      }
