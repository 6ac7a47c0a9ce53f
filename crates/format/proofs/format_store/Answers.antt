-- `format_store` makes the store of the empty set: the head first, then level by level its first page. Assumes nothing.
use Rattle.geometry.specs.Directory.{place_start}
use Prim.Native.Nat.{◌-◌}
use mathlib.Core.Path.{sym, ◌∙◌}
use Rattle.geometry.specs.Lent.{lent}
use Rattle.geometry.proofs.Lent.{head_lent, head_least}
use Rattle.format.specs.Formatting.{Formatting, first_page_written, format_begins, format_goes_on, format_ends, start_inside}
use borrow.Author.Rules.{rules}
use native.Mathlib.Omega.{arith}
use Rattle.format.proofs.format_store.Goals as goal

pub write_head-requires : goal.write_head-requires
write_head-requires c =
    let a = c.args in
    let lends = c.requires in record {
      in_range = lends.in_range_lem;
      words_in_slot_in_bounds = omega (arith, head_lent a.g a.plan a.store.now lends, head_least a.g a.plan a.store.now lends);
    }

pub loop-level-init : goal.loop-level-init
loop-level-init c =
    let a = c.args in
    let lends = c.requires in
    rw c.write_head.ensures (format_begins a.g lends.in_range_lem a.store.now lends.exact)

pub invariant_of-stored : goal.invariant_of-stored
invariant_of-stored c =
    let a = c.args in
    let lends = c.requires in
    record { lent = lent a.g a.plan c.loop-level.store lends.in_range_lem lends.planned c.loop-level.invariant.whole }

pub level_place-own-requires : goal.level_place-own-requires
level_place-own-requires c = (c.loop-level.invariant.some, omega arith)

pub write_first_page-requires : goal.write_first_page-requires
write_first_page-requires c =
    let a = c.args in
    let lends = c.requires in
    let l = c.loop-level in
    start_inside a.g a.plan l.store (lent a.g a.plan l.store lends.in_range_lem lends.planned l.invariant.whole) l.level l.invariant.some (omega arith) c.level_place-own.ensures

pub loop-level-preserved : goal.loop-level-preserved
unfolding first_page_written
loop-level-preserved c =
    let a = c.args in
    let lends = c.requires in
    let l = c.loop-level in
    rw (c.write_first_page.ensures, c.level_place-own.ensures, place_start a.g l.store l.level) (format_goes_on a.g lends.in_range_lem l.store l.level (omega arith) l.invariant)

pub returns : goal.returns
returns c =
    let l = c.loop-level in
    format_ends c.args.g c.requires.in_range_lem l.store l.level (omega arith) l.invariant
