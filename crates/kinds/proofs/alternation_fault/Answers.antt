-- `alternation_fault` tells the first wrong entry of four levels. The loop's invariant: the levels from here on tell what all do. Assumes nothing.
use mathlib.Core.Path.{◌≡◌, refl, sym, ◌∙◌}
use Rattle.std.specs.Prelude.{Err}
use Rattle.kinds.specs.Below.{below_inside, below_ascends}
use Rattle.kinds.specs.Told.{next_told, first_told, none_told}
use borrow.Author.Rules.{rules}
use Rattle.kinds.proofs.alternation_fault.Goals as goal

pub loop-level-init : goal.loop-level-init
loop-level-init c =
    let pre = c.requires in
    (refl, pre.all_inside, pre.runs_value)

pub top_fault-requires : goal.top_fault-requires
top_fault-requires c =
    let inv = c.loop-level.invariant in record {
      all_inside = inv.1;
      runs_value = inv.2;
    }

pub loop-level-preserved : goal.loop-level-preserved
loop-level-preserved c =
    let w = c.args.words.now in
    let top = c.loop-level.top in
    let none = sym c.top_fault.ensures ∙ c.in_ok-top_fault.was in
    rw c.below-top.ensures (
      next_told w c.loop-level.level 4 top c.loop-level-test.true none ∙ c.loop-level.invariant.0,
      below_inside top _ c.loop-level.invariant.1,
      below_ascends w top c.loop-level.invariant.2,
    )

pub returns-in_err-top_fault : goal.returns-in_err-top_fault
returns-in_err-top_fault c =
    let w = c.args.words.now in
    let fault = c.in_err-top_fault.field-0.0 in
    let handed : c.from_residual.result ≡ Err fault = search rules in
    handed ∙ first_told w c.loop-level.level 4 c.loop-level.top fault c.loop-level-test.true (sym c.top_fault.ensures ∙ c.in_err-top_fault.was) ∙ c.loop-level.invariant.0

pub returns : goal.returns
returns c =
    let a = c.args in
    none_told a.words.now c.loop-level.level 4 c.loop-level.top c.loop-level-test.false ∙ c.loop-level.invariant.0
