-- The calls of a sheet made one after another: the text so far, and the text of what is left behind it, are the text of the sheet. Assumes nothing.
use Prim.Native.Nat.{ℕ, ◌+◌, ◌*◌, ◌≤◌}
use Rattle.std.proofs.Math.Nat.{zero-add}
use Rattle.std.proofs.Common.{arith, ◌∙◌, length-append, drop_of_length-le}
use Rattle.std.specs.Prelude.{◌≡◌, get_or, Err}
use Rattle.std.proofs.Math.Path.{refl, sym, ap}
use mathlib.Core.List.{List, [], ◌∷◌, ◌++◌}
use Rattle.std.proofs.Math.ListN.{length}
use Rattle.std.proofs.lemmas.List.Edits.{sets}
use Rattle.std.proofs.Math.Seq.{length-sets}
use Rattle.laws.specs.Sets.{sets_behind}
use Rattle.geometry.specs.declared.Geometry.{Geometry}
use Rattle.geometry.specs.Places.{live_word}
use Rattle.geometry.specs.Directory.{geometry_of}
use Rattle.printing.specs.Printed.{Printed}
use Rattle.printing.specs.Line.{line}
use Rattle.lines.specs.Lines.{lines_of}
use Rattle.lines.specs.Judged.{Judged, faulty, good}
use Rattle.lines.specs.Told.{ahead}
use Rattle.reading.specs.declared.Request.{Request}
use Rattle.reading.specs.Sheet.{joined, requests_from}
use Rattle.reading.specs.Told.{Requested, GroupAs, Ready}
use Rattle.sheet_lines.specs.Lines.{name_of, last_lines}
use Rattle.sheet_calls.specs.declared.Progress.{Progress}
use Rattle.sheet_calls.specs.Calls.{made, first_work}
use Rattle.sheet_calls.specs.Stepping.{Counted, Calling}
use Rattle.sheet_calls.specs.First.{Begun}
use Rattle.sheet_text.specs.Text.{ending, text_from, judged_text, sheet_of}

-- A text at the start of a buffer that it fits into.
pub record Within (w text v : List ℕ) (end : ℕ) : Type 0 where
  pub printed : Printed w 0 text v end
  pub fits : end ≤ length w

-- The requests left, from a line on, and what they add to the buffer.
pub record Playing (input : List ℕ) (g : Geometry) (start : List ℕ) (at end : ℕ) (progress : Progress) (store work out : List ℕ) : Type 0 where
  pub requests : List Request
  pub number : ℕ
  pub follow : requests_from number (ahead input at) ≡ good requests
  pub stands : sets out end (text_from g store work progress.pages requests) ≡ sets start 0 (sheet_of input)
  pub ends : end + length (text_from g store work progress.pages requests) ≡ length (sheet_of input)
  pub short : end ≤ at
  pub few : progress.pages ≤ 4294967296 * at
  pub within : at ≤ length input
  pub geometry : geometry_of store ≡ g
  pub counted : Counted progress store
  pub long : length out ≡ length start

module _ (input : List ℕ) (g : Geometry) (start : List ℕ) where
  pub play_begins : (at : ℕ) (progress : Progress) (store work : List ℕ) → Ready input g at → Begun g store progress → work ≡ first_work g →
      Playing input g start at 0 progress store work start
  unfolding sheet_of
  play_begins at progress store work r b q =
      let text : text_from g store work progress.pages r.requests ≡ sheet_of input = rw (b.formatted, b.none_written, q) (sym (ap judged_text r.sheet)) in
      record {
        requests = r.requests;
        number = 4;
        follow = r.follow;
        stands = ap (sets start 0) text;
        ends = zero-add (length (text_from g store work progress.pages r.requests)) ∙ ap length text;
        short = omega arith;
        few = omega (arith, b.none_written);
        within = r.within;
        geometry = b.geometry;
        counted = b.counted;
        long = refl;
      }

  module _ (at end : ℕ) (progress : Progress) (store work out : List ℕ) (c : Playing input g start at end progress store work out) where
    -- No group of a sheet without fault is faulty.
    pub play_faultless : (k : ℕ) → GroupAs input at (Err k) → ⊥
    play_faultless k e =
        let apart : good c.requests ≡ faulty (c.number + k) = sym c.follow ∙ e.1 c.number in let z : ◌≡◌ {A = ℕ} 0 1 = cc in omega arith

    pub play_goes_on : (r : Request) (next : ℕ) → Requested input at r next → (progress' : Progress) (store' work' out' : List ℕ) (end' : ℕ) →
        Calling (made r store work) store progress store' work' progress' → Printed out end (line (name_of r.operation) progress'.told) out' end' →
        end' ≤ end + 8 → Playing input g start next end' progress' store' work' out'
    unfolding text_from
    play_goes_on r next q progress' store' work' out' end' called p h = onward (requests_from (c.number + 3) (ahead input next)) refl
      where
        own : List ℕ
        own = line (name_of r.operation) progress'.told

        onward : (left : Judged (List Request)) → requests_from (c.number + 3) (ahead input next) ≡ left → Playing input g start next end' progress' store' work' out'
        onward (faulty n) e =
            let apart : good c.requests ≡ faulty n = sym c.follow ∙ q.joins c.number ∙ ap (joined r) e in
            let z : ◌≡◌ {A = ℕ} 0 1 = cc in
            absurd (omega arith)
        onward (good rs) e =
            let all : good c.requests ≡ good (r ∷ rs) = sym c.follow ∙ q.joins c.number ∙ ap (joined r) e in
            let are : c.requests ≡ r ∷ rs = cc in
            let text : text_from g store work progress.pages c.requests ≡ own ++ text_from g store' work' progress'.pages rs = step are in
            record {
              requests = rs;
              number = c.number + 3;
              follow = e;
              stands =
                  rw (p.stands, p.ends) (sets_behind out end own (text_from g store' work' progress'.pages rs)) ∙ ap (sets out end) (sym text) ∙ c.stands;
              ends = omega (arith, p.ends, c.ends, ap length text, length-append own (text_from g store' work' progress'.pages rs));
              short = omega (arith, h, c.short, q.passes);
              few = omega (arith, called.few, c.few, q.passes);
              within = q.within;
              geometry = called.geometry ∙ c.geometry;
              counted = called.counted;
              long = ap length p.stands ∙ length-sets out end own ∙ c.long;
            }
          where
            step : c.requests ≡ r ∷ rs → text_from g store work progress.pages c.requests ≡ own ++ text_from g store' work' progress'.pages rs
            step are = rw (are, text_from) (rw (called.store_left, called.work_left, called.pages, called.told) refl)

    -- Where no bytes are left, no requests are, and the last lines end the text.
    pub play_ends : length input ≤ at → (out' : List ℕ) (last : ℕ) → last ≤ length out →
        Printed out end (last_lines g.levels (get_or store live_word 0) progress.entries progress.pages) out' last → Within start (sheet_of input) out' last
    unfolding text_from ending requests_from lines_of
    play_ends h out' last fits p =
        let none : requests_from c.number (ahead input at) ≡ good [] = ap (λ (l : List ℕ). requests_from c.number (lines_of l)) (drop_of_length-le input h) in
        let are : good c.requests ≡ good [] = sym c.follow ∙ none in
        let text : text_from g store work progress.pages c.requests ≡ last_lines g.levels (get_or store live_word 0) progress.entries progress.pages =
        end_text (cc) in
        record {
          printed = record { ends = p.ends ∙ omega (arith, c.ends, ap length text); stands = p.stands ∙ ap (sets out end) (sym text) ∙ c.stands };
          fits = omega (arith, fits, c.long);
        }
      where
        end_text : c.requests ≡ [] → text_from g store work progress.pages c.requests ≡ last_lines g.levels (get_or store live_word 0) progress.entries progress.pages
        end_text are = rw (are, text_from, c.counted, c.geometry) refl
