-- The lines of the levels, put behind a text one by one. Assumes nothing.
use Rattle.std.specs.Prelude.{ℕ, ◌+◌, ◌*◌, ◌≤◌, ◌<◌, ◌≡◌, List}
use Rattle.std.proofs.Common.{add-one, arith}
use Rattle.trail_words.specs.Places.{trail_levels}
use Rattle.printing.specs.declared.Text.{Text}
use Rattle.printing.specs.Grown.{Grown, grown_none, grown_then}
use Rattle.why_levels.specs.Lines.{level_text, level_texts}

-- The lines of the levels before `level` were put.
pub record Levelling (t : Text) (trail : List ℕ) (u : Text) (level : ℕ) : Type 0 where
  pub grown : Grown t (level_texts trail level) u
  pub short : u.end ≤ t.end + 81 * level
  pub not_past : level ≤ trail_levels

module _ (t : Text) (trail : List ℕ) where
  pub levels_begin : Levelling t trail t 0
  unfolding level_texts
  levels_begin = record { grown = grown_none; short = omega arith; not_past = omega arith }

  module _ (u : Text) (level : ℕ) (c : Levelling t trail u level) where
    pub levels_go_on : level < trail_levels → (v : Text) → Grown u (level_text trail level) v → v.end ≤ u.end + 81 → Levelling t trail v (level + 1)
    unfolding level_texts
    levels_go_on h v p k = record {
      grown = rw (add-one level) (grown_then c.grown p);
      short = omega (arith, c.short);
      not_past = omega arith;
    }

    pub levels_end : trail_levels ≤ level → Grown t (level_texts trail trail_levels) u
    levels_end h =
        let all : level ≡ trail_levels = omega (arith, c.not_past) in
        rw (← all) c.grown
