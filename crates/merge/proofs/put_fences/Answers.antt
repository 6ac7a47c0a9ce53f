use mathlib.Core.Path.{◌≡◌, refl}
use Rattle.layout.specs.Words.{first_pair}
use Prim.Native.Nat.{◌-◌}
use Rattle.merge.specs.Head.{Fencing, fences_begin, fences_go_on, fence_page}
use borrow.Author.Rules.{rules}
use native.Mathlib.Omega.{arith}
use Rattle.merge.proofs.put_fences.Goals as goal

pub loop-p-init : goal.loop-p-init
loop-p-init c =
    let a = c.args in
    record { not_past = omega arith; long = refl; stands = fences_begin a.store.now a.below }

pub fence_of-fence-requires : goal.fence_of-fence-requires
fence_of-fence-requires c = omega (arith, c.loop-p.invariant.long)

pub write_slot-requires : goal.write_slot-requires
write_slot-requires c =
    let loop = c.loop-p in record {
      place_in_bounds = omega (arith, loop.invariant.long);
      page_bound = rw c.fence_of-fence.ensures (simp fence_page (omega arith));
    }

pub loop-p-smaller : goal.loop-p-smaller
loop-p-smaller c = omega arith

pub loop-p-preserved : goal.loop-p-preserved
loop-p-preserved c =
    let a = c.args in
    let loop = c.loop-p in
    let fence-of = c.fence_of-fence in
    fences_go_on a.store.now a.below a.pages c.requires.pages_bound loop.store loop.p loop.invariant fence-of.result _ c.loop-p-test.true fence-of.ensures c.write_slot.ensures

pub returns : goal.returns
returns c = let stop : c.loop-p.p ≡ c.args.pages = omega (arith, c.loop-p.invariant.not_past) in rw (← stop) c.loop-p.invariant.stands
