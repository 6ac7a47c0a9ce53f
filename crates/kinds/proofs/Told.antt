-- What is told of four runs: the place of the first entry that is wrong over the runs below its own, or nothing. Of a store's runs it is what
-- the rules find. Assumes nothing.
use Prim.Native.Nat.{ℕ, ◌+◌}
use Rattle.std.proofs.Common.{◌∙◌}
use Rattle.std.specs.Prelude.{◌≡◌, get_or, eqb}
use Rattle.std.proofs.Math.Path.{refl, ap, ap₂, sym}
use mathlib.Core.List.{List, [], ◌∷◌}
use Rattle.laws.specs.Lists.{span, concat, all}
use Rattle.fault.specs.declared.Fault.{Fault}
use Rattle.fault.specs.Judged.{Judged}
use Rattle.std.specs.Prelude.{Err, Ok}
use Rattle.fault.specs.declared.Part.TheVariants.{Kinds}
use Rattle.fault.specs.Numbers.{no_place}
use Rattle.geometry.specs.declared.Geometry.{Geometry}
use Rattle.geometry.specs.Geometry.{InRange}
use Rattle.geometry.specs.Places.{live_word}
use Rattle.rules.specs.Tree.{Entry, Level, Tree}
use Rattle.rules.specs.Finding.{find, held}
use Rattle.rules.specs.Sound.{right_over, entries_of, tree_of}
use Rattle.rules.specs.Faults.{unless, first_fault, page_size, entry_places, kinds_faults, across_fault}
use Rattle.rules.specs.Found.{only_one, none_joined, fault_joined}
use Rattle.entries.specs.Four.{Runs}
use Rattle.entries.specs.Run.{entries_in}
use Rattle.entries.specs.Levels.{head_run, level_run, runs_of, tree_in, by_levels}
use Rattle.entries.specs.Placed.{head_places, level_places}
use Rattle.kinds.specs.Standing.{stands_over}
use Rattle.kinds.specs.declared.KindCounts.{KindCounts}
use Rattle.kinds.specs.KindCounts.{tree_counts}
use Rattle.kinds.specs.Below.{below_of, live_told}
use Rattle.kinds.specs.Told.{faults_from, level_agree, level_fault, run_fault, sound_behind, top_fault}

-- The four runs of a store tell what the rules find: levels without entries below tell nothing.
module _ (g : Geometry) (w : List ℕ) where
  abbrev at_level : ℕ → Level → Tree → Judged
  at_level i es t = level_fault i (page_size g i) (entry_places g w i) es t

  agree_at : (i : ℕ) (es : Level) (t u : Tree) → ((e : Entry) → right_over t e ≡ right_over u e) → at_level i es t ≡ at_level i es u
  agree_at i = level_agree i (page_size g i) (entry_places g w i)

  four_found : (a b c d : Level) → at_level 0 a (b ∷ c ∷ d ∷ [] ∷ []) ∷ at_level 1 b (c ∷ d ∷ [] ∷ [] ∷ []) ∷ at_level 2 c (d ∷ [] ∷ [] ∷ [] ∷ []) ∷
      at_level 3 d ([] ∷ [] ∷ [] ∷ [] ∷ []) ∷ [] ≡ kinds_faults g w 0 (a ∷ b ∷ c ∷ d ∷ [])
  unfolding kinds_faults level_fault stands_over held find
  four_found a b c d =
      rw (
        agree_at 0 a (b ∷ c ∷ d ∷ [] ∷ []) (b ∷ c ∷ d ∷ []) (λ e. refl),
        agree_at 1 b (c ∷ d ∷ [] ∷ [] ∷ []) (c ∷ d ∷ []) (λ e. refl),
        agree_at 2 c (d ∷ [] ∷ [] ∷ [] ∷ []) (d ∷ []) (λ e. refl),
        agree_at 3 d ([] ∷ [] ∷ [] ∷ [] ∷ []) [] (λ e. refl),
      ) refl

  runs_found : faults_from w 0 (runs_of g w) 4 ≡ kinds_faults g w 0 (tree_in w (runs_of g w))
  unfolding faults_from top_fault run_fault tree_in runs_of below_of entries_in span concat entries_of head_run level_run page_size
  runs_found = rw (head_places g w, level_places g w 0, level_places g w 1, level_places g w 2) (four_found _ _ _ _)

  two_found : (a b : Level) → first_fault (kinds_faults g w 0 (a ∷ b ∷ [] ∷ [] ∷ [])) ≡ first_fault (kinds_faults g w 0 (a ∷ b ∷ []))
  unfolding first_fault kinds_faults level_fault stands_over all held find
  two_found a b =
      ap₂ (λ (x y : Judged). first_fault (x ∷ y ∷ (Ok tt) ∷ (Ok tt) ∷ [])) (agree_at 0 a (b ∷ [] ∷ [] ∷ []) (b ∷ []) (λ e. refl))
      (agree_at 1 b ([] ∷ [] ∷ []) [] (λ e. refl)) ∙
      sound_behind (at_level 0 a (b ∷ []) ∷ at_level 1 b [] ∷ (Ok tt) ∷ []) ∙
      sound_behind (at_level 0 a (b ∷ []) ∷ at_level 1 b [] ∷ [])

  three_found : (a b c : Level) → first_fault (kinds_faults g w 0 (a ∷ b ∷ c ∷ [] ∷ [])) ≡ first_fault (kinds_faults g w 0 (a ∷ b ∷ c ∷ []))
  unfolding first_fault kinds_faults level_fault stands_over all held find
  three_found a b c =
      ap₂ (λ (x y : Judged). first_fault (x ∷ y ∷ at_level 2 c ([] ∷ []) ∷ (Ok tt) ∷ [])) (agree_at 0 a (b ∷ c ∷ [] ∷ []) (b ∷ c ∷ []) (λ e. refl))
      (agree_at 1 b (c ∷ [] ∷ []) (c ∷ []) (λ e. refl)) ∙
      ap (λ (z : Judged). first_fault (at_level 0 a (b ∷ c ∷ []) ∷ at_level 1 b (c ∷ []) ∷ z ∷ (Ok tt) ∷ [])) (agree_at 2 c ([] ∷ []) [] (λ e. refl)) ∙
      sound_behind (at_level 0 a (b ∷ c ∷ []) ∷ at_level 1 b (c ∷ []) ∷ at_level 2 c [] ∷ [])

  runs_told : InRange g → first_fault (faults_from w 0 (runs_of g w) 4) ≡ first_fault (kinds_faults g w 0 (tree_of g w))
  runs_told fit =
      rw runs_found (by_levels g w fit (λ t u. first_fault (kinds_faults g w 0 u) ≡ first_fault (kinds_faults g w 0 t)) two_found three_found (λ a b c d. refl))

-- What is told of a store's runs, and then of live, is what the rules find across levels.
module _ (g : Geometry) (w : List ℕ) (fit : InRange g) (rs : Runs) (read : rs ≡ runs_of g w) (j : Judged) (told : j ≡ first_fault (faults_from w 0 rs 4)) where
  kinds_told : j ≡ first_fault (kinds_faults g w 0 (tree_of g w))
  kinds_told = told ∙ rw read (runs_told g w fit)

  pub across_wrong : (f : Fault) → j ≡ Err f → Err f ≡ across_fault g w
  unfolding across_fault
  across_wrong f e = sym (fault_joined _ (kinds_faults g w 0 (tree_of g w)) f (sym kinds_told ∙ e))

  pub across_live : (n : KindCounts) → j ≡ Ok tt → n ≡ tree_counts (tree_in w rs) →
      unless (eqb (get_or w live_word 0 + n.filters) n.normal) (no_place Kinds) ≡ across_fault g w
  unfolding across_fault
  across_live n e counted =
      rw (live_told g w rs (get_or w live_word 0) n fit read counted) (sym (none_joined _ (kinds_faults g w 0 (tree_of g w)) (sym kinds_told ∙ e) ∙ only_one _))
