-- The head rebuilt, slot by slot: a fence for each page of the level below, and unused words behind them. Assumes nothing.
use Prim.Native.Nat.{ℕ, zero, suc, ◌+◌, ◌-◌, ◌*◌, ◌≤◌, ◌<◌}
use Rattle.std.proofs.Common.{zero-add, arith, sym, ◌∙◌}
use Rattle.std.specs.Prelude.{◌≡◌, length, set, replicate}
use Rattle.std.proofs.Math.Path.{refl, ap}
use mathlib.Core.List.{List, [], ◌∷◌, ◌++◌, append_assoc}
use Rattle.std.proofs.lemmas.List.Edits.{sets}
use Rattle.std.proofs.Math.Seq.{length-sets}
use Rattle.laws.specs.Lists.{span, concat, length_span}
use Rattle.laws.specs.Flat.{span_append}
use Rattle.laws.specs.Sets.{sets_behind, get_d_sets_behind}
use Rattle.geometry.specs.declared.Geometry.{Geometry}
use Rattle.geometry.specs.Places.{head_start, head_room, head_count_word, level_start, erased}
use Rattle.geometry.specs.Apart.{level_one}
use Rattle.slot.specs.declared.Pair.{Pair}
use Rattle.slot.specs.declared.Slot.{Slot}
use Rattle.slot.specs.Slot.{slot_at, words_of}
use Rattle.rules.specs.Level.{external, fence_of, fences}
use Rattle.rules.specs.Store.{run_words}
use Rattle.geometry.specs.Directory.{pages_of}
use Rattle.layout.specs.Run.{words_of_all, words_length}
use Rattle.layout.specs.Words.{first_pair}
use Rattle.written.specs.Parts.{first_at_lem}
use Rattle.merge.specs.Filling.{head_put, head_rebuilt}

-- Words of slots one after another.
words_joined : (ss ts : List Slot) → words_of_all (ss ++ ts) ≡ words_of_all ss ++ words_of_all ts
unfolding concat
words_joined [] ts = refl
words_joined (s ∷ ss) ts = ap (λ (l : List ℕ). words_of s ++ l) (words_joined ss ts) ∙ sym (append_assoc (words_of s) (words_of_all ss) (words_of_all ts))

words_one : (s : Slot) → words_of_all (s ∷ []) ≡ words_of s
unfolding concat words_of
words_one s = refl

pub fence_page : (first : ℕ → Pair) (p : ℕ) → (fence_of first p).page.0 ≡ p
unfolding fence_of external
fence_page first zero = refl
fence_page first (suc p) = refl

module _ (w : List ℕ) (below : ℕ) where
  abbrev first : ℕ → Pair
  first = first_pair w below

  abbrev pub fence_words : ℕ → List ℕ
  fence_words p = words_of_all (fences first p)

  words_many : (p : ℕ) → length (fence_words p) ≡ 3 * p
  unfolding fences
  words_many p = omega (arith, words_length (fences first p), length_span (fence_of first) 0 p)

  fences_more : (p : ℕ) → fence_words (p + 1) ≡ fence_words p ++ words_of (fence_of first p)
  unfolding fences span
  fences_more p =
      ap words_of_all (span_append (fence_of first) 0 p 1) ∙ words_joined (fences first p) (fence_of first (0 + p) ∷ []) ∙
      rw (zero-add p) (ap (λ (l : List ℕ). fence_words p ++ l) (words_one (fence_of first p)))

  -- The first p fences stand.
  pub record Fencing (pages : ℕ) (v : List ℕ) (p : ℕ) : Type 0 where
    pub not_past : p ≤ pages
    pub long : length v ≡ length w
    pub stands : v ≡ sets w head_start (fence_words p)

  pub fences_begin : w ≡ sets w head_start (fence_words 0)
  unfolding fences span concat
  fences_begin = refl

  -- The pages below stay as they were, so the next fence is theirs.
  module _ (pages : ℕ) (apart : head_start + 3 * pages ≤ below) (v : List ℕ) (p : ℕ) (so : Fencing pages v p) where
    first_stays : (q : ℕ) → first_pair v below q ≡ first q
    unfolding first_pair slot_at
    first_stays q =
        let n = words_many p in
        rw so.stands
        (λ i. record {
          badge = get_d_sets_behind w head_start (below + 64 * q + 1) (fence_words p) 0 (omega (arith, n, so.not_past)) i;
          floor = record { 0 = get_d_sets_behind w head_start (below + 64 * q + 1 + 1) (fence_words p) 0 (omega (arith, n, so.not_past)) i };
        })

    fence_stays : (q : ℕ) → fence_of (first_pair v below) q ≡ fence_of first q
    unfolding fence_of
    fence_stays zero = refl
    fence_stays (suc q) = ap (λ (a : Pair). external a (suc q)) (first_stays (suc q))

    pub fences_go_on : (s : Slot) (u : List ℕ) → p < pages → s ≡ fence_of (first_pair v below) p → u ≡ sets v (head_start + 3 * p) (words_of s) → Fencing pages u (p + 1)
    fences_go_on s u h e o = record {
      not_past = omega arith;
      long = ap length o ∙ length-sets v (head_start + 3 * p) (words_of s) ∙ so.long;
      stands = o ∙ rw (e, fence_stays p, so.stands, ← words_many p, fences_more p) (sets_behind w head_start (fence_words p) (words_of (fence_of first p)));
    }

-- With unused words behind its fences, and their number, the head is rebuilt.
pub head_rebuilt_lem : (g : Geometry) (w : List ℕ) (pages : ℕ) → pages ≡ pages_of g w 1 → pages ≤ head_room g →
    set (sets (sets w head_start (fence_words w (level_start g 1) pages)) (head_start + 3 * pages) (replicate (level_start g 1 - (head_start + 3 * pages)) erased)) head_count_word pages ≡
    head_rebuilt g w
unfolding head_rebuilt head_put run_words fences head_room
head_rebuilt_lem g w pages e few =
    let n : length (fences (first_pair w (level_start g 1)) pages) ≡ pages = length_span (fence_of (first_pair w (level_start g 1))) 0 pages in
    let m : length (fence_words w (level_start g 1) pages) ≡ 3 * pages = words_length (fences (first_pair w (level_start g 1)) pages) ∙ ap (λ (k : ℕ). 3 * k) n in
    let k : level_start g 1 - (head_start + 3 * pages) ≡ 3 * (head_room g - pages) = omega (arith, level_one g) in
    rw (k, ← m, sets_behind w head_start (fence_words w (level_start g 1) pages) (replicate (3 * (head_room g - pages)) erased)) (rw (first_at_lem g w 1, ← e, n) refl)
