-- The normal entries and the filters of a level and of a tree, counted. Assumes nothing.
use Rattle.std.specs.Prelude.{ℕ, suc, ◌+◌, ◌≤◌, ◌≡◌, refl, Bool, true, false, [], ◌∷◌, ◌++◌, length}
use Rattle.std.proofs.Common.{ap, ◌∙◌, length-append}
use Rattle.std.specs.Bool.{beq}
use Rattle.laws.specs.Lists.{concat, passing, passing_small}
use Rattle.rules.specs.Tree.{Entry, Level, Tree}
use Rattle.rules.specs.Sound.{count_kind}

-- The entries of a kind in a level.
unfoldable pub kind_count : Bool → Level → ℕ
kind_count normal es = length (passing (λ e. beq normal e.normal) es)

pub count_none : (b : Bool) → kind_count b [] ≡ 0
unfolding kind_count passing
count_none b = refl

-- An entry counts for its kind.
pub count_normal : (e : Entry) (es : Level) → e.normal ≡ true → (kind_count true (e ∷ es) ≡ suc (kind_count true es)) × (kind_count false (e ∷ es) ≡ kind_count false es)
unfolding kind_count passing
count_normal e es q = (
  ap (λ (b : Bool). length {A = Entry} (elim (beq true b) [ true ↦ e ∷ passing (λ f. beq true f.normal) es | false ↦ passing (λ f. beq true f.normal) es ])) q,
  ap (λ (b : Bool). length {A = Entry} (elim (beq false b) [ true ↦ e ∷ passing (λ f. beq false f.normal) es | false ↦ passing (λ f. beq false f.normal) es ])) q,
)

pub count_filter : (e : Entry) (es : Level) → e.normal ≡ false → (kind_count true (e ∷ es) ≡ kind_count true es) × (kind_count false (e ∷ es) ≡ suc (kind_count false es))
unfolding kind_count passing
count_filter e es q = (
  ap (λ (b : Bool). length {A = Entry} (elim (beq true b) [ true ↦ e ∷ passing (λ f. beq true f.normal) es | false ↦ passing (λ f. beq true f.normal) es ])) q,
  ap (λ (b : Bool). length {A = Entry} (elim (beq false b) [ true ↦ e ∷ passing (λ f. beq false f.normal) es | false ↦ passing (λ f. beq false f.normal) es ])) q,
)

-- No level has more of a kind than entries.
pub count_most : (b : Bool) (es : Level) → kind_count b es ≤ length es
unfolding kind_count
count_most b es = passing_small (λ e. beq b e.normal) es

-- The counts of levels end to end, and so of a tree, are their counts added up.
passing_joined : (t : Entry → Bool) (xs ys : Level) → passing t (xs ++ ys) ≡ passing t xs ++ passing t ys
unfolding passing
passing_joined t [] ys = refl
passing_joined t (e ∷ xs) ys = picked (t e) (passing_joined t xs ys)
  where
    picked : (b : Bool) → passing t (xs ++ ys) ≡ passing t xs ++ passing t ys →
        elim b [ true ↦ e ∷ passing t (xs ++ ys) | false ↦ passing t (xs ++ ys) ] ≡ elim b [ true ↦ e ∷ passing t xs | false ↦ passing t xs ] ++ passing t ys
    picked true ih = ap (λ (l : Level). e ∷ l) ih
    picked false ih = ih

pub count_joined : (b : Bool) (es fs : Level) → kind_count b (es ++ fs) ≡ kind_count b es + kind_count b fs
unfolding kind_count
count_joined b es fs =
    ap length (passing_joined (λ e. beq b e.normal) es fs) ∙ length-append (passing (λ e. beq b e.normal) es) (passing (λ e. beq b e.normal) fs)

pub count_first : (b : Bool) (e : Entry) (es : Level) → kind_count b (e ∷ es) ≡ kind_count b (e ∷ []) + kind_count b es
count_first b e es = count_joined b (e ∷ []) es

pub count_levels : (b : Bool) (es : Level) (t : Tree) → count_kind b (es ∷ t) ≡ kind_count b es + count_kind b t
unfolding count_kind kind_count concat
count_levels b es t = count_joined b es (concat t)

pub count_no_levels : (b : Bool) → count_kind b [] ≡ 0
unfolding count_kind concat passing
count_no_levels b = refl
