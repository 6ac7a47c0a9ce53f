-- Facts of the values of four levels. Assumes nothing.
use Rattle.std.specs.Prelude.{ℕ}
use Rattle.entries.specs.declared.Four.{Four}
use Rattle.entries.specs.declared.Run.{Run}

abbrev pub Runs : Type 0
Runs = Four Run

abbrev pub Spots : Type 0
Spots = Four ℕ

-- It is so of each level's value, of each level's two values, and of its three.
pub record Each {A : Type 0} (P : A → Type 0) (xs : Four A) : Type 0 where
  pub head : P xs.head
  pub first : P xs.first
  pub second : P xs.second
  pub third : P xs.third

pub record EachTwo {A : Type 0} {B : Type 0} (P : A → B → Type 0) (xs : Four A) (ys : Four B) : Type 0 where
  pub head : P xs.head ys.head
  pub first : P xs.first ys.first
  pub second : P xs.second ys.second
  pub third : P xs.third ys.third

pub record EachThree {A : Type 0} {B : Type 0} {C : Type 0} (P : A → B → C → Type 0) (xs : Four A) (ys : Four B) (zs : Four C) : Type 0 where
  pub head : P xs.head ys.head zs.head
  pub first : P xs.first ys.first zs.first
  pub second : P xs.second ys.second zs.second
  pub third : P xs.third ys.third zs.third

-- From a start at the bottom up each level's two values and what came of the level below make the next, and at the top the end.
pub record Upward {A : Type 0} {B : Type 0} {C : Type 0} (P : A → B → C → C → Type 0) (xs : Four A) (ys : Four B) (start end : C) : Type 0 where
  pub lowest : C
  pub lower : C
  pub upper : C
  pub third : P xs.third ys.third start lowest
  pub second : P xs.second ys.second lowest lower
  pub first : P xs.first ys.first lower upper
  pub head : P xs.head ys.head upper end
