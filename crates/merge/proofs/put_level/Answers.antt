-- `put_level` copies a level's pages from the work area, and sets its page count. Assumes nothing.
use mathlib.Core.Path.{◌≡◌, refl}
use Rattle.geometry.specs.Places.{plan_of}
use Rattle.geometry.specs.Directory.{level_place}
use Rattle.merge.specs.Source.{put_inside}
use Rattle.merge.proofs.put_level.Goals as goal

pub copy_in-requires : goal.copy_in-requires
copy_in-requires c =
    let a = c.args in
    let pre = c.requires in
    let place : c.level_place-own.result ≡ level_place a.g a.store.now a.level = rw (c.new.ensures.laid_out, c.new.ensures.same) at c.level_place-own.ensures in
    put_inside a.g (plan_of a.g) a.store.now a.work.now a.level pre.lent pre.work_len pre.le_level.0 pre.le_level.1 place

pub returns : goal.returns
unfolding level_place
returns c =
    let a = c.args in
    let place : c.level_place-own.result ≡ level_place a.g a.store.now a.level = rw (c.new.ensures.laid_out, c.new.ensures.same) at c.level_place-own.ensures in
    rw (c.copy_in.ensures, place) refl
