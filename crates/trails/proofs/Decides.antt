-- Of a walk over any words that finds an answer: its trail ends in the line that decides, where an index entry of the pair stands, normal exactly if
-- the pair is held; and no line that does not decide has one among its slots. Assumes nothing.
use Prim.Native.Nat.{ℕ, zero, suc, ◌+◌, ◌≤◌, ◌<◌}
use native.Mathlib.Omega.{arith}
use Rattle.std.specs.Prelude.{◌≡◌, refl, Bool, true, List, ◌∷◌, length, get_or, Err}
use Rattle.std.proofs.Math.Path.{sym, ap}
use Rattle.std.proofs.Common.{◌∙◌}
use Rattle.std.proofs.Math.Bool.{false}
use Rattle.geometry.specs.declared.Geometry.{Geometry}
use Rattle.geometry.specs.Geometry.{bottom}
use Rattle.slot.specs.declared.Pair.{Pair}
use Rattle.slot.specs.declared.Slot.{Slot}
use Rattle.walk.specs.Stepping.{Step}
use Rattle.fault.specs.declared.Fault.{Fault}
use Rattle.walk.specs.Stepping.{Decided, Follow, Nothing, Broken}
use Rattle.walk.specs.declared.Found.{Found}
use Rattle.walk.specs.Walked.{Walked, found}
use Rattle.walk.specs.Step.{head_step, page_step}
use Rattle.walk.specs.Walk.{walk_on, walked, walk_decided, walk_nothing, walk_broken, found_directory}
use Rattle.walk.specs.Trail.{Line, head_line, page_line, lines_on, trail, walk_lines, lines_decided, directory_lines}
use Rattle.trails.specs.Entry.{no_entry_of, ReachesEntry}
use Rattle.trails.specs.Shown.{run_of, Shows}
use Rattle.trails.proofs.Shown.{head_shows, page_shows}
use Rattle.trails.specs.Decides.{line_at, run_at}

module _ (g : Geometry) (w : List ℕ) (asked : Pair) (held : Bool) (level : ℕ) where
  abbrev FoundOn : ℕ → ℕ → Step → Type 0
  FoundOn n i s = walk_on g w asked n i s ≡ found held level

  -- What is found where a level decides is its own; where none does, it is no answer and l.
  found_own : (b : Bool) (i : ℕ) → found b i ≡ found held level → (b ≡ held) × (i ≡ level)
  found_own b i e =
      let own : ◌≡◌ {A = Found} (record { held = b; level = i }) (record { held = held; level = level }) = cc in
      (ap (λ (f : Found). f.held) own, ap (λ (f : Found). f.level) own)

  found_here : (n i : ℕ) (b : Bool) → FoundOn n i (Decided b) → (b ≡ held) × (i ≡ level)
  found_here n i b finds = found_own b i (sym (walk_decided g w asked n i b) ∙ finds)

  found_nothing : (n i : ℕ) → FoundOn n i Nothing → (false ≡ held) × (g.levels ≡ level)
  found_nothing n i finds = found_own false g.levels (sym (walk_nothing g w asked n i) ∙ finds)

  not_broken : (n i : ℕ) (f : Fault) → FoundOn n i (Broken f) → ⊥
  not_broken n i f finds =
      let e : ◌≡◌ {A = Walked} (Err f) (found held level) = sym (walk_broken g w asked n i f) ∙ finds in
      let z : ◌≡◌ {A = ℕ} 0 1 = cc in omega arith

  -- Lines from level i on, of which the last is of the level found and decides.
  record EndsDeciding (i : ℕ) (lines : List Line) : Type 0 where
    earlier : ℕ
    level_is : i + earlier ≡ level
    many : length lines ≡ suc earlier
    decides : ReachesEntry asked (run_of g w level (get_or lines earlier (head_line g w asked)).page) (get_or lines earlier (head_line g w asked)).reach held

  ends_here : (n i : ℕ) (line : Line) (b : Bool) → ReachesEntry asked (run_of g w i line.page) line.reach b → FoundOn n i (Decided b) →
      EndsDeciding i (line ∷ lines_on g w asked n i (Decided b))
  ends_here n i line b shown finds =
      let own = found_here n i b finds in
      rw (lines_decided g w asked n i b) (record { earlier = 0; level_is = omega (arith, own.1); many = refl; decides = rw (← own.0, ← own.1) shown })

  ends_deciding : level < g.levels → (n i : ℕ) (line : Line) (s : Step) → Shows asked (run_of g w i line.page) line.reach s → FoundOn n i s →
      EndsDeciding i (line ∷ lines_on g w asked n i s)
  unfolding walk_on lines_on page_line
  ends_deciding h zero i line (Decided b) shown finds = ends_here 0 i line b shown finds
  ends_deciding h zero i line (Follow page) shown finds = absurd (omega (arith, h, (found_own false g.levels finds).1))
  ends_deciding h zero i line Nothing shown finds = absurd (omega (arith, h, (found_nothing 0 i finds).1))
  ends_deciding h zero i line (Broken f) shown finds = absurd (not_broken 0 i f finds)
  ends_deciding h (suc n) i line (Decided b) shown finds = ends_here (suc n) i line b shown finds
  ends_deciding h (suc n) i line (Follow page) shown finds =
      let rest = ends_deciding h n (suc i) (page_line g w asked (suc i) page.0) (page_step g w asked (suc i) page.0) (page_shows g w asked i page.0) finds in
      record { earlier = suc rest.earlier; level_is = omega (arith, rest.level_is); many = ap suc rest.many; decides = rest.decides }
  ends_deciding h (suc n) i line Nothing shown finds = absurd (omega (arith, h, (found_nothing (suc n) i finds).1))
  ends_deciding h (suc n) i line (Broken f) shown finds = absurd (not_broken (suc n) i f finds)

  -- A level above the one found told no answer, so its slots have no entry of the pair.
  undecided_here : (n i : ℕ) (run : List Slot) (reach : ℕ) (s : Step) → Shows asked run reach s → FoundOn n i s → i < level → no_entry_of asked run ≡ true
  undecided_here n i run reach (Decided b) shown finds h = absurd (omega (arith, h, (found_here n i b finds).1))
  undecided_here n i run reach (Follow page) shown finds h = shown
  undecided_here n i run reach Nothing shown finds h = shown
  undecided_here n i run reach (Broken f) shown finds h = absurd (not_broken n i f finds)

  undecided_below : (n i k : ℕ) (s : Step) → FoundOn n i s → k < length (lines_on g w asked n i s) → suc i + k < level →
      no_entry_of asked (run_of g w (suc i + k) (get_or (lines_on g w asked n i s) k (head_line g w asked)).page) ≡ true
  unfolding walk_on lines_on page_line
  undecided_below zero i k s finds b h = absurd (omega arith)
  undecided_below (suc n) i k (Decided x) finds b h = absurd (omega arith)
  undecided_below (suc n) i zero (Follow page) finds b h =
      let here : suc i + 0 ≡ suc i = omega arith in
      rw here (undecided_here n (suc i) _ _ (page_step g w asked (suc i) page.0) (page_shows g w asked i page.0) finds (omega (arith, h)))
  undecided_below (suc n) i (suc k) (Follow page) finds b h =
      let next : suc i + suc k ≡ suc (suc i) + k = omega arith in
      rw next (undecided_below n (suc i) k (page_step g w asked (suc i) page.0) finds (omega (arith, b)) (omega (arith, h)))
  undecided_below (suc n) i k Nothing finds b h = absurd (omega arith)
  undecided_below (suc n) i k (Broken f) finds b h = absurd (omega arith)

  -- Where no level decides, the pair is not held.
  pub none_held : (n i : ℕ) (s : Step) → i + n < g.levels → g.levels ≤ level → FoundOn n i s → held ≡ false
  unfolding walk_on
  none_held zero i (Decided b) k h finds = absurd (omega (arith, k, h, (found_here 0 i b finds).1))
  none_held zero i (Follow page) k h finds = sym (found_own false g.levels finds).0
  none_held zero i Nothing k h finds = sym (found_nothing 0 i finds).0
  none_held zero i (Broken f) k h finds = absurd (not_broken 0 i f finds)
  none_held (suc n) i (Decided b) k h finds = absurd (omega (arith, k, h, (found_here (suc n) i b finds).1))
  none_held (suc n) i (Follow page) k h finds = none_held n (suc i) (page_step g w asked (suc i) page.0) (omega (arith, k)) h finds
  none_held (suc n) i Nothing k h finds = sym (found_nothing (suc n) i finds).0
  none_held (suc n) i (Broken f) k h finds = absurd (not_broken (suc n) i f finds)

  module _ (finds : walked g w asked ≡ found held level) where
    -- The lines of the walk are its trail.
    pub found_lines : walk_lines g w asked ≡ trail g w asked
    found_lines = directory_lines g w asked (found_directory g w asked held level finds)

    pub found_on : FoundOn (bottom g) 0 (head_step g w asked)
    unfolding walked
    found_on = rw (found_directory g w asked held level finds) at finds

    -- Where a level decides, the trail ends in its line, which reached an index entry of the pair, normal exactly if the pair is held.
    pub deciding_line : level < g.levels →
        (length (trail g w asked) ≡ suc level) × ReachesEntry asked (run_at g w asked level) (line_at g w asked level).reach held
    unfolding line_at run_at trail head_line
    deciding_line h =
        let ends = ends_deciding h (bottom g) 0 (head_line g w asked) (head_step g w asked) (head_shows g w asked) found_on in
        let e : ends.earlier ≡ level = omega (arith, ends.level_is) in
        (rw (← e) ends.many, rw e at ends.decides)

    -- No slot of a line above it is one.
    pub no_entry_above : (i : ℕ) → i < length (trail g w asked) → i < level → no_entry_of asked (run_at g w asked i) ≡ true
    unfolding line_at run_at trail head_line
    no_entry_above zero b h = undecided_here (bottom g) 0 _ _ (head_step g w asked) (head_shows g w asked) found_on h
    no_entry_above (suc i) b h =
        let here : suc 0 + i ≡ suc i = omega arith in
        rw here at (undecided_below (bottom g) 0 i (head_step g w asked) found_on (omega (arith, b)) (omega (arith, h)))
