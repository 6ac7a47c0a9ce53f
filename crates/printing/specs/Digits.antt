-- A number put into a buffer digit by digit: a tenth of it, and then its last digit. Assumes nothing.
use Rattle.std.specs.Prelude.{ℕ, ◌+◌, ◌/◌, ◌%◌, ◌≤◌, ◌<◌, ◌≡◌, List, [], ◌∷◌, set}
use Rattle.std.proofs.Common.{arith}
use Rattle.laws.specs.Sets.{sets_behind}
use Rattle.printing.specs.Decimal.{decimal, digit_code, decimal_digit, decimal_more, length_digit, length_more}
use Rattle.printing.specs.Printed.{Printed}

module _ (w : List ℕ) (at n : ℕ) where
  pub digit_printed : {d : ℕ} → n < 10 → d ≡ digit_code n → Printed w at (decimal n) (set w at d) (at + 1)
  digit_printed h e = record { ends = omega (arith, length_digit n h); stands = rw (decimal_digit n h, e) }

  pub last_printed : {v : List ℕ} {last d : ℕ} → 10 ≤ n → Printed w at (decimal (n / 10)) v last → d ≡ digit_code (n % 10) →
      Printed w at (decimal n) (set v last d) (last + 1)
  last_printed h p e = record {
    ends = omega (arith, p.ends, length_more n h);
    stands = rw (decimal_more n h, p.stands, p.ends, e) (sets_behind w at (decimal (n / 10)) (digit_code (n % 10) ∷ []));
  }
