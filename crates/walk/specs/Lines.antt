-- A trail as 22 words: the values of ask's reply, then five words for each of the levels 0 to 3. Assumes nothing.
use Rattle.std.specs.Prelude.{ℕ, zero, suc, ◌+◌, ◌*◌, ◌≤◌, ◌≡◌, refl, Bool, true, false, cond, List, [], ◌∷◌, ◌++◌, length, replicate, leb, Result, Ok, Err}
use Rattle.std.proofs.Common.{arith, length-append}
use Rattle.std.proofs.lemmas.List.Edits.{sets}
use Rattle.std.proofs.Math.Seq.{length-sets}
use Rattle.slot.specs.declared.Pid.{Pid}
use Rattle.trail_words.specs.Places.{trail_words, trail_levels, words_in_line, line_start, normal_word, filter_word}
use Rattle.walk.specs.Stepping.{Step}
use Rattle.walk.specs.Stepping.{Decided, Follow, Nothing, Broken}
use Rattle.fault.specs.declared.Part.{Part}
use Rattle.walk.specs.declared.Look.{Look}
use Rattle.walk.specs.declared.Seen.{Seen}
use Rattle.walk.specs.declared.Seen.TheVariants.{Decided as Decided-seen, Follow as Follow-seen, Nothing as Nothing-seen}
use Rattle.walk.specs.declared.Flaw.{Flaw}
use Rattle.walk.specs.Stepping.{seen_in}
use Rattle.walk.specs.Trail.{Line}

-- The entry of the pair, 0 for none.
abbrev pub entry_number : Step → ℕ
entry_number (Decided normal) = cond normal normal_word filter_word
entry_number (Follow page) = 0
entry_number Nothing = 0
entry_number (Broken f) = 0

-- The page followed and one more, 0 for none.
abbrev pub follow_number : Step → ℕ
follow_number (Decided normal) = 0
follow_number (Follow page) = page.0 + 1
follow_number Nothing = 0
follow_number (Broken f) = 0

-- The same of what was seen, wherever it stands.
abbrev pub entry_seen : Result Seen Flaw → ℕ
entry_seen (Ok (Decided-seen normal)) = cond normal normal_word filter_word
entry_seen (Ok (Follow-seen page)) = 0
entry_seen (Ok Nothing-seen) = 0
entry_seen (Err flaw) = 0

abbrev pub follow_seen : Result Seen Flaw → ℕ
follow_seen (Ok (Decided-seen normal)) = 0
follow_seen (Ok (Follow-seen page)) = page.0 + 1
follow_seen (Ok Nothing-seen) = 0
follow_seen (Err flaw) = 0

pub numbers_seen : (part : Part) (i p : ℕ) (seen : Result Seen Flaw) →
    (entry_number (seen_in part i p seen) ≡ entry_seen seen) × (follow_number (seen_in part i p seen) ≡ follow_seen seen)
numbers_seen part i p (Ok (Decided-seen normal)) = (refl, refl)
numbers_seen part i p (Ok (Follow-seen page)) = (refl, refl)
numbers_seen part i p (Ok Nothing-seen) = (refl, refl)
numbers_seen part i p (Err flaw) = (refl, refl)

-- A level that was read: 1, its page, the number of its slots at most the pair (the last of them is where the walk stopped), the entry
-- there, and the page followed.
unfoldable pub line_words : Line → List ℕ
line_words line = 1 ∷ line.page ∷ line.reach ∷ entry_number line.step ∷ follow_number line.step ∷ []

-- The lines of n levels. A level that was not read has zeros.
unfoldable pub lines_words : ℕ → List Line → List ℕ
lines_words zero lines = []
lines_words (suc n) [] = replicate words_in_line 0 ++ lines_words n []
lines_words (suc n) (line ∷ lines) = line_words line ++ lines_words n lines

pub length_lines_words : (n : ℕ) (lines : List Line) → length (lines_words n lines) ≡ words_in_line * n
unfolding lines_words line_words
length_lines_words zero lines = refl
length_lines_words (suc n) [] = omega (arith, length-append (replicate words_in_line 0) (lines_words n []), length_lines_words n [])
length_lines_words (suc n) (line ∷ lines) = omega (arith, length-append (line_words line) (lines_words n lines), length_lines_words n lines)

-- The same as the walk notes them, line after line from level i on, as far as the trail has room.
unfoldable pub note_at : List ℕ → ℕ → Line → List ℕ
note_at trail i line = cond (leb (line_start i + words_in_line) (length trail)) (sets trail (line_start i) (line_words line)) trail

pub length_note : (trail : List ℕ) (i : ℕ) (line : Line) → length (note_at trail i line) ≡ length trail
unfolding note_at
length_note trail i line = by (leb (line_start i + words_in_line) (length trail))
  where
    by : (b : Bool) → length (cond b (sets trail (line_start i) (line_words line)) trail) ≡ length trail
    by true = length-sets trail (line_start i) (line_words line)
    by false = refl

unfoldable pub noted : List ℕ → ℕ → List Line → List ℕ
noted trail i [] = trail
noted trail i (line ∷ lines) = noted (note_at trail i line) (suc i) lines

abbrev pub line_told : Part → ℕ → Pid → Look → Line
line_told part i page look = record { page = page.0; reach = look.reach; step = seen_in part i page.0 look.step }

-- What is noted of a look, whichever part its form is.
abbrev pub NotesLine : List ℕ → ℕ → Pid → Look → List ℕ → Type 0
NotesLine trail level page look later = (part : Part) → later ≡ note_at trail level (line_told part level page look)

pub noted_words : (lines : List Line) → length lines ≤ trail_levels → noted (replicate trail_words 0) 0 lines ≡ 0 ∷ 0 ∷ lines_words trail_levels lines
unfolding noted note_at lines_words line_words line_start
noted_words [] h = refl
noted_words (a ∷ []) h = refl
noted_words (a ∷ b ∷ []) h = refl
noted_words (a ∷ b ∷ c ∷ []) h = refl
noted_words (a ∷ b ∷ c ∷ d ∷ []) h = refl
noted_words (a ∷ b ∷ c ∷ d ∷ e ∷ lines) h = absurd (omega arith)
