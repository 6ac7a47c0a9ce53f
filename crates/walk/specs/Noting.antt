-- A walk and the trail that it notes, step by step: what the loop over the levels keeps. Assumes nothing.
use Rattle.std.specs.Prelude.{ℕ, ◌+◌, ◌-◌, ◌≤◌, ◌<◌, ◌≡◌, refl, Bool, true, false, List, leb, Result, Ok, Err}
use Rattle.std.proofs.Math.Numerals.{add-one}
use Rattle.std.proofs.Common.{arith, leb-true, leb-false}
use Rattle.geometry.specs.declared.Geometry.{Geometry}
use Rattle.geometry.specs.Geometry.{InRange}
use Rattle.geometry.specs.Bounds.{room_small}
use Rattle.geometry.specs.Directory.{pages_of, pages_none}
use Rattle.slot.specs.declared.Pair.{Pair}
use Rattle.slot.specs.declared.Pid.{Pid}
use Rattle.fault.specs.declared.Fault.{Fault}
use Rattle.fault.specs.declared.Part.TheVariants.{Directory, Head, Page}
use Rattle.fault.specs.Numbers.{no_place}
use Rattle.rules.specs.Sound.{directory_right}
use Rattle.rules.specs.Directed.{pages_fit}
use Rattle.form.specs.Passes.{head_scanned, page_scanned}
use Rattle.walk.specs.Stepping.{Step}
use Rattle.walk.specs.Stepping.{Decided, Follow, Nothing, Broken}
use Rattle.walk.specs.declared.Look.{Look}
use Rattle.walk.specs.declared.Seen.{Seen}
use Rattle.walk.specs.declared.Seen.TheVariants.{Decided as Decided-seen, Follow as Follow-seen, Nothing as Nothing-seen}
use Rattle.walk.specs.declared.Flaw.{Flaw}
use Rattle.fault.specs.declared.Part.{Part}
use Rattle.walk.specs.Stepping.{seen_in}
use Rattle.walk.specs.Walked.{Walked, found}
use Rattle.walk.specs.Step.{head_step, page_step, StepWithin}
use Rattle.walk.specs.Walk.{walk_on, walk_from, walked, walk_decided, walk_nothing, walk_broken, walk_into, walk_follows, walk_ends}
use Rattle.walk.specs.Trail.{head_line, page_line, lines_on, lines_from, trail, walk_lines, lines_decided, lines_nothing, lines_broken, lines_into, lines_follow, lines_end}
use Rattle.walk.specs.Lines.{line_told, note_at, noted}

-- What a walk comes to, and the words that it has noted.
pub record Noted : Type 0 where
  pub outcome : Walked
  pub words : List ℕ

module _ (g : Geometry) (w : List ℕ) (asked : Pair) where
  -- From what level i told on, from a page of level i on, and in all.
  unfoldable pub noted_on : List ℕ → ℕ → Step → Noted
  noted_on t i step = record {
    outcome = walk_on g w asked (g.levels - (i + 1)) i step;
    words = noted t (i + 1) (lines_on g w asked (g.levels - (i + 1)) i step);
  }

  abbrev pub noted_from : List ℕ → ℕ → ℕ → Noted
  noted_from t i page = record { outcome = walk_from g w asked i page; words = noted t i (lines_from g w asked i page) }

  abbrev pub noted_all : List ℕ → Noted
  noted_all t = record { outcome = walked g w asked; words = noted t 0 (walk_lines g w asked) }

  -- The walk ends where a level decides, tells nothing or is broken, and past the bottom.
  module _ (t : List ℕ) (i : ℕ) (step : Step) {whole : Noted} (on : noted_on t i step ≡ whole) where
    pub ends_decided : {held : Bool} → step ≡ Decided held → record { outcome = found held i; words = t } ≡ whole
    unfolding noted_on noted
    ends_decided {held} e =
        rw (e, walk_decided g w asked (g.levels - (i + 1)) i held, lines_decided g w asked (g.levels - (i + 1)) i held) at on

    pub ends_nothing : step ≡ Nothing → record { outcome = found false g.levels; words = t } ≡ whole
    unfolding noted_on noted
    ends_nothing e = rw (e, walk_nothing g w asked (g.levels - (i + 1)) i, lines_nothing g w asked (g.levels - (i + 1)) i) at on

    pub ends_broken : {f : Fault} → step ≡ Broken f → record { outcome = Err f; words = t } ≡ whole
    unfolding noted_on noted
    ends_broken {f} e = rw (e, walk_broken g w asked (g.levels - (i + 1)) i f, lines_broken g w asked (g.levels - (i + 1)) i f) at on

    pub goes_on : {page : Pid} → step ≡ Follow page → noted_from t (i + 1) page.0 ≡ whole
    unfolding noted_on
    goes_on {page} e = rw (e, walk_follows g w asked i page, lines_follow g w asked i page) at on

  pub ends_past : (t : List ℕ) (i page : ℕ) {whole : Noted} → g.levels ≤ i → noted_from t i page ≡ whole →
      record { outcome = found false g.levels; words = t } ≡ whole
  unfolding noted
  ends_past t i page h e = rw (walk_ends g w asked i page h, lines_end g w asked i page h) at e

  -- A level's line is noted, and the walk goes on by what the level told.
  module _ (t later : List ℕ) (page : Pid) (look : Look) where
    pub level_noted : (i : ℕ) → 1 ≤ i → i < g.levels → later ≡ note_at t i (line_told Page i page look) →
        seen_in Page i page.0 look.step ≡ page_step g w asked i page.0 → look.reach ≡ (page_scanned g w asked i page.0).reach →
        noted_on later i (seen_in Page i page.0 look.step) ≡ noted_from t i page.0
    unfolding noted_on noted page_line
    level_noted i least below e step reach =
        rw (e, step, reach, walk_into g w asked i page.0 least below, lines_into g w asked i page.0 least below, add-one i)

    pub head_noted : directory_right g w ≡ true → page.0 ≡ 0 → later ≡ note_at t 0 (line_told Head 0 page look) →
        seen_in Head 0 page.0 look.step ≡ head_step g w asked → look.reach ≡ (head_scanned g w asked).reach → noted_on later 0 (seen_in Head 0 page.0 look.step) ≡ noted_all t
    unfolding noted_on noted walked walk_lines trail head_line
    head_noted right first e step reach = rw (e, step, reach, right, first)

  pub directory_noted : (t : List ℕ) → directory_right g w ≡ false → record { outcome = Err (no_place Directory); words = t } ≡ noted_all t
  unfolding noted walked walk_lines
  directory_noted t e = rw e

-- A page to follow is a small number.
pub follow_small : (g : Geometry) (w : List ℕ) → InRange g → directory_right g w ≡ true → (i : ℕ) (s : Step) → 1 ≤ i → StepWithin (pages_of g w i) s →
    StepWithin 4294967295 s
follow_small g w fit right i (Decided held) least within = tt
follow_small g w fit right i Nothing least within = tt
follow_small g w fit right i (Broken f) least within = tt
follow_small g w fit right i (Follow page) least within = omega (arith, within, pages_few (leb i 3) refl)
  where
    pages_few : (b : Bool) → leb i 3 ≡ b → pages_of g w i ≤ 2000
    pages_few true e = omega (arith, pages_fit g w right i least (leb-true i 3 e), room_small g fit i)
    pages_few false e = omega (arith, pages_none g w i (omega (arith, leb-false i 3 e, fit.levels_most)))

-- Wherever it stands.
pub seen_small : (n : ℕ) (part other : Part) (i j p q : ℕ) (seen : Result Seen Flaw) → StepWithin n (seen_in part i p seen) → StepWithin n (seen_in other j q seen)
seen_small n part other i j p q (Ok (Decided-seen held)) h = tt
seen_small n part other i j p q (Ok (Follow-seen page)) h = h
seen_small n part other i j p q (Ok Nothing-seen) h = tt
seen_small n part other i j p q (Err flaw) h = tt
