-- From what the calls of a function told to what the function tells: the first three lines, the requests one after another, the sheet. Assumes nothing.
use Rattle.std.specs.Prelude.{ℕ, ◌+◌, ◌≤◌, ◌<◌, ◌≡◌, Bool, true, false, cond, length, leb, Some, None, Ok, Err}
use Rattle.std.proofs.Common.{arith, ◌∙◌, drop_of_length-le}
use Rattle.std.proofs.Math.Path.{refl, ap}
use mathlib.Core.List.{List, [], ◌∷◌}
use Rattle.std.proofs.Math.Option.{Option, some, none}
use borrow.Author.Tests.{le-leb, lt-leb, leb-true}
use Rattle.laws.specs.Tests.{and_left, and_right}
use Rattle.geometry.specs.declared.Geometry.{Geometry}
use Rattle.geometry.specs.Geometry.{between, InRange}
use Rattle.geometry.specs.Places.{store_words}
use Rattle.lines.specs.Lines.{lines_of, first_among, rest_of}
use Rattle.lines.specs.Number.{value}
use Rattle.lines.specs.Judged.{Judged, faulty}
use Rattle.lines.specs.Told.{ahead, ReadAs}
use Rattle.reading.specs.declared.Request.{Request}
use Rattle.reading.specs.Sheet.{head_name, ratio_name, levels_name, inside, ranged, sheet_for, joined, heading, requests_from, judged_lines, judged, most_bytes, most_words}
use Rattle.reading.specs.Told.{Requested, GroupAs, Faultless, RequestsAs, Headed, GeometryAs, Ready, Judges}

-- What a number inside a range tells.
module _ (least most : ℕ) where
  inside_between : (o : Option ℕ) (n : ℕ) → inside least most o ≡ some n → between least most n ≡ true
  inside_between none n e = let z : ◌≡◌ {A = ℕ} 0 1 = cc in absurd (omega arith)
  inside_between (some m) n e = by (between least most m) refl e
    where
      by : (b : Bool) → between least most m ≡ b → cond b (some m) none ≡ some n → between least most n ≡ true
      by true f q = let same : m ≡ n = cc in rw (← same) f
      by false f q = let z : ◌≡◌ {A = ℕ} 0 1 = cc in absurd (omega arith)

  inside_least : (o : Option ℕ) (n : ℕ) → inside least most o ≡ some n → least ≤ n
  unfolding between
  inside_least o n e = leb-true least n (and_left (leb least n) (leb n most) (inside_between o n e))

  inside_most : (o : Option ℕ) (n : ℕ) → inside least most o ≡ some n → n ≤ most
  unfolding between
  inside_most o n e = leb-true n most (and_right (leb least n) (leb n most) (inside_between o n e))

-- The first three lines.
module _ (w : List ℕ) where
  heads : judged_lines (lines_of w) ≡ heading (ranged 1 64 head_name (first_among (ahead w 0))) (ranged 2 8 ratio_name (first_among (rest_of (ahead w 0))))
      (ranged 2 4 levels_name (first_among (rest_of (rest_of (ahead w 0))))) (requests_from 4 (rest_of (rest_of (rest_of (ahead w 0)))))
  unfolding judged_lines
  heads = refl

  pub headless : ReadAs w 0 5 (ranged 1 64 head_name) None → GeometryAs w (Err 1)
  headless e = heads ∙ rw e

  module _ (head ratio-at : ℕ) (p : ReadAs w 0 5 (ranged 1 64 head_name) (Some (head, ratio-at))) where
    pub ratioless : ReadAs w ratio-at 6 (ranged 2 8 ratio_name) None → GeometryAs w (Err 2)
    ratioless e = heads ∙ rw (p.0, p.1.follows, e)

    module _ (ratio levels-at : ℕ) (q : ReadAs w ratio-at 6 (ranged 2 8 ratio_name) (Some (ratio, levels-at))) where
      pub levelless : ReadAs w levels-at 7 (ranged 2 4 levels_name) None → GeometryAs w (Err 3)
      levelless e = heads ∙ rw (p.0, p.1.follows, q.0, q.1.follows, e)

      module _ (levels next : ℕ) (r : ReadAs w levels-at 7 (ranged 2 4 levels_name) (Some (levels, next))) where
        abbrev read : Geometry
        read = record { head = head; ratio = ratio; levels = levels }

        all_read : judged_lines (lines_of w) ≡ heading (some head) (some ratio) (some levels) (requests_from 4 (ahead w next))
        all_read = heads ∙ rw (p.0, p.1.follows, q.0, q.1.follows, r.0, r.1.follows)

        pub read_in_range : InRange read
        read_in_range = record {
          head_least = inside_least 1 64 (value head_name (first_among (ahead w 0))) head p.0;
          head_most = inside_most 1 64 (value head_name (first_among (ahead w 0))) head p.0;
          ratio_least = inside_least 2 8 (value ratio_name (first_among (ahead w ratio-at))) ratio q.0;
          ratio_most = inside_most 2 8 (value ratio_name (first_among (ahead w ratio-at))) ratio q.0;
          levels_least = inside_least 2 4 (value levels_name (first_among (ahead w levels-at))) levels r.0;
          levels_most = inside_most 2 4 (value levels_name (first_among (ahead w levels-at))) levels r.0;
        }

        pub too_long : most_words < store_words read → GeometryAs w (Err 3)
        too_long h = all_read ∙ rw (lt-leb (store_words read) most_words h, heading)

        pub headed : store_words read ≤ most_words → Headed w read next
        headed h = record {
          sheet = all_read ∙ rw (le-leb (store_words read) most_words h, heading);
          in_range_lem = read_in_range;
          short = h;
          within = r.1.within;
        }

-- The whole sheet.
module _ (w : List ℕ) where
  pub too_much : most_bytes < length w → Judges w (Err 0)
  unfolding judged
  too_much h = rw (lt-leb (length w) most_bytes h, judged)

  module _ (few : length w ≤ most_bytes) where
    by_lines : judged w ≡ judged_lines (lines_of w)
    unfolding judged
    by_lines = rw (le-leb (length w) most_bytes few, judged)

    pub faulty_heading : (n : ℕ) → GeometryAs w (Err n) → Judges w (Err n)
    faulty_heading n e = by_lines ∙ e

    module _ (g : Geometry) (at : ℕ) (h : Headed w g at) where
      pub faulty_request : (n : ℕ) → RequestsAs w at (Err n) → Judges w (Err n)
      faulty_request n e = by_lines ∙ h.sheet ∙ ap (sheet_for g) e

      pub ready : RequestsAs w at (Ok tt) → Ready w g at
      ready f = record {
        requests = f.requests;
        sheet = by_lines ∙ h.sheet ∙ ap (sheet_for g) f.are;
        follow = f.are;
        in_range_lem = h.in_range_lem;
        short = h.short;
        within = h.within;
        few = few;
      }

-- Requests one after another: a fault of those left is one of all, and where there is none among them, there is none at all.
pub record Leads (all left : Judged (List Request)) : Type 0 where
  pub faults : (n : ℕ) → left ≡ faulty n → all ≡ faulty n
  pub fine : Faultless left → Faultless all

module _ (w : List ℕ) (start : ℕ) where
  abbrev Whole : Judged (List Request)
  Whole = requests_from 4 (ahead w start)

  -- The requests up to a place, and the number of the line there.
  pub record Judging (at line : ℕ) : Type 0 where
    pub leads : Leads Whole (requests_from line (ahead w at))
    pub few : line ≤ at + 4
    pub within : at ≤ length w

  pub judge_begins : start ≤ length w → Judging start 4
  judge_begins h = record { leads = record { faults = λ n e. e; fine = λ f. f }; few = omega arith; within = h }

  module _ (at line : ℕ) (j : Judging at line) where
    pub judge_faulty : (k : ℕ) → GroupAs w at (Err k) → RequestsAs w start (Err (line + k))
    judge_faulty k e = j.leads.faults (line + k) (e.1 line)

    pub judge_goes_on : (r : Request) (next : ℕ) → Requested w at r next → Judging next (line + 3)
    judge_goes_on r next q = record {
      leads = record {
        faults = λ n e. j.leads.faults n (q.joins line ∙ ap (joined r) e);
        fine = λ f. j.leads.fine (record { requests = r ∷ f.requests; are = q.joins line ∙ ap (joined r) f.are });
      };
      few = omega (arith, j.few, q.passes);
      within = q.within;
    }

    pub judge_ends : length w ≤ at → RequestsAs w start (Ok tt)
    unfolding requests_from lines_of
    judge_ends h = j.leads.fine (record { requests = []; are = ap (λ (l : List ℕ). requests_from line (lines_of l)) (drop_of_length-le w h) })
