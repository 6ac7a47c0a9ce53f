-- The paper's section "Numbered replies, in order of test". Assumes nothing.
use Rattle.std.specs.Prelude.{ℕ, zero, suc, ◌-◌, ◌≡◌, refl, Bool, true, false, List, [], ◌∷◌, ◌++◌, ltb, get_or}
use Rattle.std.proofs.Common.{arith, ltb-true}
use Rattle.laws.specs.Lists.{all}
use Rattle.laws.specs.Flat.{all_first, all_rest}
use Rattle.fault.specs.declared.Fault.{Fault}
use Rattle.fault.specs.declared.Part.TheVariants.{Directory, Head, Page, Writing, Kinds}
use Rattle.fault.specs.Numbers.{number_of, fault_in}

-- A reply: its number, and the values that the call returns with it.
pub record Reply : Type 0 where
  pub number : ℕ
  pub values : List ℕ

abbrev pub replied : ℕ → List ℕ → Reply
replied number values = record { number = number; values = values }

-- A reply with the words of a lent slice after it.
pub record Filled : Type 0 where
  pub reply : Reply
  pub words : List ℕ

abbrev pub filled : ℕ → List ℕ → List ℕ → Filled
filled number values words = record { reply = replied number values; words = words }

-- A fault is told by its number, 10 to 14, and by the values that come first: its level, page and slot.
abbrev pub fault_number : Fault → ℕ
fault_number f = number_of f.part

abbrev pub fault_values : Fault → List ℕ
fault_values f = f.level ∷ f.page ∷ f.slot ∷ []

-- Which fault it was.
abbrev pub fault_by : ℕ → List ℕ → Fault
fault_by number values = fault_in (get_or (Directory ∷ Head ∷ Page ∷ Writing ∷ []) (number - 10) Kinds) (get_or values 0 0) (get_or values 1 0) (get_or values 2 0)

-- A test and the number that is replied where it fails.
pub record Test : Type 0 where
  pub passes : Bool
  pub number : ℕ

abbrev pub test : Bool → ℕ → Test
test b n = record { passes = b; number = n }

-- The number of the first test that fails, or 0 where all pass.
unfoldable pub first_failing : List Test → ℕ
first_failing [] = 0
first_failing (t ∷ ts) = elim t.passes [ true ↦ first_failing ts | false ↦ t.number ]

-- What a call comes to: the refusal of the tests that come first, with zeros for values, or what follows them.
abbrev pub unless : ℕ → List ℕ → Reply → Reply
unless zero zeros reply = reply
unless (suc n) zeros reply = record { number = suc n; values = zeros }

-- What a call gives, by the number of the first test that fails.
abbrev pub by_first : {A : Type 0} → ℕ → A → (ℕ → A) → A
by_first zero done refused = done
by_first (suc n) done refused = refused (suc n)

-- Where tests are followed by more, they decide first, if each of them has a number.
abbrev pub numbered : Test → Bool
numbered t = ltb 0 t.number

pub first_of_both : (ts later : List Test) → all numbered ts ≡ true → first_failing (ts ++ later) ≡ by_first (first_failing ts) (first_failing later) (λ n. n)
unfolding first_failing
first_of_both [] later e = refl
first_of_both (t ∷ ts) later e = by t.passes t.number (all_first numbered t ts e) (first_of_both ts later (all_rest numbered t ts e))
  where
    by : (b : Bool) (n : ℕ) → ltb 0 n ≡ true → first_failing (ts ++ later) ≡ by_first (first_failing ts) (first_failing later) (λ n. n) →
        first_failing (test b n ∷ (ts ++ later)) ≡ by_first (first_failing (test b n ∷ ts)) (first_failing later) (λ n. n)
    by true n p h = h
    by false zero p h = absurd (omega (arith, ltb-true 0 0 p))
    by false (suc n) p h = refl

-- The number replied is that of a test, or 0.
pub first_among_lem : (q : ℕ → Bool) (ts : List Test) → q 0 ≡ true → all (λ t. q t.number) ts ≡ true → q (first_failing ts) ≡ true
unfolding first_failing
first_among_lem q [] z e = z
first_among_lem q (t ∷ ts) z e =
    by t.passes t.number (all_first (λ (t : Test). q t.number) t ts e) (first_among_lem q ts z (all_rest (λ (t : Test). q t.number) t ts e))
  where
    by : (b : Bool) (n : ℕ) → q n ≡ true → q (first_failing ts) ≡ true → q (first_failing (test b n ∷ ts)) ≡ true
    by true n p h = h
    by false n p h = p
