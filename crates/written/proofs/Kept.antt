-- A number that is kept where a test passes: whether there is one, and which. Assumes nothing.
use Rattle.std.specs.Prelude.{ℕ, ◌≡◌, refl, Bool, true, false, is_some, IfSome}
use Rattle.std.specs.Bool.{then_some}

pub kept_if : (b : Bool) (m : ℕ) → is_some (then_some b m) ≡ b
kept_if true m = refl
kept_if false m = refl

pub kept_as : (b : Bool) (m n : ℕ) → (b ≡ true → m ≡ n) → IfSome (then_some b m) (λ k. k ≡ n)
kept_as true m n h = h refl
kept_as false m n h = tt
