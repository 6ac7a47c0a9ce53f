-- `rebuild_head` writes a fence for each page of level 1 into the head, and erases its other slots, by `head_rebuilt_lem`. Assumes nothing.
use lib.ListN.{length-set}
use lib.Seq.{length-sets}
use Rattle.merge.specs.Head.{head_rebuilt_lem}
use Rattle.merge.specs.Runs.{head_places, head_end}
use native.Mathlib.Omega.{arith}
use borrow.Author.Rules.{rules}
use Rattle.merge.proofs.rebuild_head.Goals as goal

pub put_fences-requires : goal.put_fences-requires
put_fences-requires c =
    let pre = c.requires in
    let a = c.args in
    let h = head_places a.g a.plan a.store.now pre.lent pre.pages_within c.level_place-below.ensures in record {
      pages_bound = h.apart;
      pages_in_bounds = h.inside;
      pages_bound_2 = h.small;
    }

pub overflow_mul-used : goal.overflow_mul-used
overflow_mul-used c =
    let pre = c.requires in
    let a = c.args in
    let h = head_places a.g a.plan a.store.now pre.lent pre.pages_within c.level_place-below.ensures in
    omega (arith, h.small)

pub overflow_add-used : goal.overflow_add-used
overflow_add-used c =
    let pre = c.requires in
    let a = c.args in
    let h = head_places a.g a.plan a.store.now pre.lent pre.pages_within c.level_place-below.ensures in
    omega (arith, h.small)

pub erase-requires : goal.erase-requires
erase-requires c =
    let pre = c.requires in
    let a = c.args in
    let l = pre.lent in
    let h = head_places a.g a.plan a.store.now l pre.pages_within c.level_place-below.ensures in
    rw c.put_fences.ensures (simp length-sets (omega (arith, h.inside, h.starts, head_end a.g a.plan a.store.now l)))

pub returns : goal.returns
returns c =
    let pre = c.requires in
    let a = c.args in
    let l = pre.lent in
    let h = head_places a.g a.plan a.store.now l pre.pages_within c.level_place-below.ensures in
    rw (c.erase.ensures, c.put_fences.ensures, h.starts, head_end a.g a.plan a.store.now l) (head_rebuilt_lem a.g a.store.now _ h.counted h.few)
