-- The paper's section "List": the held pairs from a first to a second, as many as a slice has room for. Assumes nothing.
use Rattle.std.specs.Prelude.{ℕ, ◌+◌, ◌*◌, ◌/◌, true, false, not, ◌&&◌, List, [], ◌∷◌, length, take, ltb}
use Rattle.std.proofs.lemmas.List.Edits.{sets}
use Rattle.laws.specs.Lists.{passing}
use Rattle.slot.specs.declared.Pair.{Pair}
use Rattle.slot.specs.Pair.{before, same}
use Rattle.rules.specs.Tree.{Level, Tree}
use Rattle.rules.specs.Finding.{held}

-- The pairs that a tree has entries of, ascending, each once.
unfoldable pub insert : Pair → List Pair → List Pair
insert p [] = p ∷ []
insert p (q ∷ qs) = elim (before p q) [ true ↦ p ∷ q ∷ qs | false ↦ elim (same p q) [ true ↦ q ∷ qs | false ↦ q ∷ insert p qs ] ]

unfoldable pub pairs_with : Level → List Pair → List Pair
pairs_with [] ps = ps
pairs_with (e ∷ es) ps = insert e.pair (pairs_with es ps)

unfoldable pub pairs_of : Tree → List Pair
pairs_of [] = []
pairs_of (es ∷ t) = pairs_with es (pairs_of t)

-- The held ones from the first to the second, ends included.
unfoldable pub held_between : Pair → Pair → Tree → List Pair
held_between first second t = passing (λ p. held p t && (not (before p first) && not (before second p))) (pairs_of t)

-- Two words each.
unfoldable pub pair_words : List Pair → List ℕ
pair_words [] = []
pair_words (p ∷ ps) = p.badge ∷ p.floor.0 ∷ pair_words ps

-- The number of pairs written, the mark, and the slice afterwards: pairs until there is no room for two more words, the other words as
-- they were. The mark is 1 exactly if the slice has no room for two more words after them.
pub record Listed : Type 0 where
  pub pairs : ℕ
  pub mark : ℕ
  pub words : List ℕ

unfoldable pub list : Pair → Pair → Tree → List ℕ → Listed
list first second t slice =
    let listed = take (length slice / 2) (held_between first second t) in
    record {
      pairs = length listed;
      mark = elim (ltb (length slice) (2 * length listed + 2)) [ true ↦ 1 | false ↦ 0 ];
      words = sets slice 0 (pair_words listed);
    }
