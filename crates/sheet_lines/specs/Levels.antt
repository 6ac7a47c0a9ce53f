-- The lines of the levels, put into a buffer one by one. Assumes nothing.
use Rattle.std.specs.Prelude.{ℕ, zero, suc, ◌+◌, ◌*◌, ◌≤◌, ◌<◌, ◌≡◌, List, [], ◌∷◌, ◌++◌, length, get_or, take}
use Rattle.std.proofs.Common.{add-one, arith, sym, ap, ◌∙◌, append-nil, append_assoc, take-suc}
use Rattle.std.proofs.Math.Path.{refl}
use Rattle.laws.specs.Lists.{concat}
use Rattle.printing.specs.declared.Text.{Text}
use Rattle.printing.specs.Printed.{Printed, printed_none, printed_then}
use Rattle.printing.specs.Grown.{Grown, grown_then}
use Rattle.printing.specs.Line.{line}
use Rattle.sheet_lines.specs.Lines.{live_name, pages_name, level_name, all_levels, level_lines, last_lines}

concat_last : (ls : List (List ℕ)) (l : List ℕ) → concat (ls ++ l ∷ []) ≡ concat ls ++ l
unfolding concat
concat_last [] l = append-nil l
concat_last (m ∷ ls) l = ap (λ (r : List ℕ). m ++ r) (concat_last ls l) ∙ sym (append_assoc m (concat ls) l)

-- One level more adds its line.
level_at : (counts : List ℕ) (i : ℕ) → i < 4 → get_or (all_levels counts) i [] ≡ line (level_name i) (get_or counts i 0)
unfolding all_levels
level_at counts zero h = refl
level_at counts (suc zero) h = refl
level_at counts (suc (suc zero)) h = refl
level_at counts (suc (suc (suc zero))) h = refl
level_at counts (suc (suc (suc (suc i)))) h = absurd (omega arith)

lines_more : (counts : List ℕ) (i : ℕ) → i < 4 → level_lines (i + 1) counts ≡ level_lines i counts ++ line (level_name i) (get_or counts i 0)
unfolding level_lines all_levels
lines_more counts i h =
    rw (add-one i, take-suc (all_levels counts) i [] h, concat_last (take i (all_levels counts)) (get_or (all_levels counts) i []), level_at counts i h) refl

-- The lines of the levels before `level` stand in the buffer, up to `end`.
pub record Levelling (w : List ℕ) (at levels : ℕ) (counts v : List ℕ) (end level : ℕ) : Type 0 where
  pub printed : Printed w at (level_lines level counts) v end
  pub short : end ≤ at + 28 * level
  pub not_past : level ≤ levels
  pub long : length v ≡ length w

module _ (w : List ℕ) (at levels : ℕ) (counts : List ℕ) where
  pub levels_begin : Levelling w at levels counts w at 0
  unfolding level_lines concat
  levels_begin = record { printed = printed_none; short = omega arith; not_past = omega arith; long = refl }

  module _ (v : List ℕ) (end level : ℕ) (c : Levelling w at levels counts v end level) where
    pub levels_go_on : levels ≤ 4 → level < levels → (u : List ℕ) (next : ℕ) → Printed v end (line (level_name level) (get_or counts level 0)) u next →
        next ≤ end + 28 → length u ≡ length v → Levelling w at levels counts u next (level + 1)
    levels_go_on few more u next p h l = record {
      printed = rw (lines_more counts level (omega arith)) (printed_then c.printed p);
      short = omega (arith, c.short);
      not_past = omega arith;
      long = l ∙ c.long;
    }

    pub levels_end : levels ≤ level → Printed w at (level_lines levels counts) v end
    levels_end h = let all : levels ≡ level = omega (arith, c.not_past) in rw all c.printed

-- Live pairs, the levels and the pages written, one behind the other.
pub last_printed : (w : List ℕ) (at levels live : ℕ) (counts : List ℕ) (pages : ℕ) {v u x : List ℕ} {a b c : ℕ} → Printed w at (line live_name live) v a →
    Printed v a (level_lines levels counts) u b → Printed u b (line pages_name pages) x c → Printed w at (last_lines levels live counts pages) x c
unfolding last_lines
last_printed w at levels live counts pages p q r = printed_then p (printed_then q r)

pub last_grown : {t u v x : Text} (levels live : ℕ) (counts : List ℕ) (pages : ℕ) → Grown t (line live_name live) u → Grown u (level_lines levels counts) v →
    Grown v (line pages_name pages) x → Grown t (last_lines levels live counts pages) x
unfolding last_lines
last_grown levels live counts pages p q r = grown_then p (grown_then q r)
