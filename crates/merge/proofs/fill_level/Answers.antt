use Rattle.merge.specs.Source.{fill_told}
use Prim.Native.Nat.{◌≤◌}
use Rattle.merge.specs.Source.{slots_small}
use mathlib.Core.Path.{◌≡◌, refl}
use Rattle.geometry.specs.Places.{plan_of}
use Rattle.merge.specs.Source.{source_at, source_inside, source_ascends, whole_work, room_in_work}
use native.Mathlib.Omega.{arith}
use Rattle.laws.specs.Clauses.{two_clauses, four_clauses}
use Rattle.merge.proofs.fill_level.Goals as goal

pub write_level-slots-requires : goal.write_level-slots-requires
write_level-slots-requires c =
    let a = c.args in
    let pre = c.requires in
    let g = a.g in
    let w = a.store.now in
    let i = a.level in
    let l = pre.lent in
    let source : c.source_over-source.result ≡ source_at a.g a.store.now a.level a.upper a.lower = rw (c.new.ensures.laid_out, c.new.ensures.same) at c.source_over-source.ensures in
    let j = pre.joinable in
    let fits = pre.fillable in
    let h : i ≤ 3 = omega (arith, pre.le_level.1, l.in_range_lem.levels_most) in
    four_clauses (λ v0 v1 v2 v3. record { source_inside = v0; source_ascends = v1; whole_pages = v2; source_len_bound = v3 }) (rw source (
      source_inside g w i a.upper a.lower (plan_of a.g) l fits.within j pre.le_level.1,
      (
        source_ascends g w i a.upper a.lower j,
        (
          whole_work g l.in_range_lem a.work.now pre.work_len,
          slots_small g w a.work.now i _ a.upper a.lower l.in_range_lem pre.work_len pre.le_level.0 h fits refl,
        ),
      ),
    ))

pub pages_for-pages-requires : goal.pages_for-pages-requires
pages_for-pages-requires c =
    let a = c.args in
    let pre = c.requires in
    let wrote = c.write_level-slots in
    let source : c.source_over-source.result ≡ source_at a.g a.store.now a.level a.upper a.lower = rw (c.new.ensures.laid_out, c.new.ensures.same) at c.source_over-source.ensures in
    let g = a.g in
    let l = pre.lent in
    let h : a.level ≤ 3 = omega (arith, pre.le_level.1, l.in_range_lem.levels_most) in
    let n = slots_small g a.store.now a.work.now a.level wrote.result a.upper a.lower l.in_range_lem pre.work_len pre.le_level.0 h pre.fillable (rw (← source) wrote.ensures.count) in
    omega (arith, n, (whole_work g l.in_range_lem a.work.now pre.work_len).few)

pub returns : goal.returns
returns c =
    let a = c.args in
    let pre = c.requires in
    let wrote = c.write_level-slots.ensures in
    let source : c.source_over-source.result ≡ source_at a.g a.store.now a.level a.upper a.lower = rw (c.new.ensures.laid_out, c.new.ensures.same) at c.source_over-source.ensures in
    let h : a.level ≤ 3 = omega (arith, pre.le_level.1, pre.lent.in_range_lem.levels_most) in
    let room = room_in_work a.g pre.lent.in_range_lem a.work.now pre.work_len a.level pre.le_level.0 h in
    two_clauses (λ v0 v1. record { words = v0; pages = v1 })
    (fill_told a.g a.store.now a.level _ a.upper a.lower room source wrote.area wrote.count c.pages_for-pages.ensures c.put_level.ensures refl)
