-- `head_at` gives what the head is tested by. Assumes nothing.
use Rattle.geometry.proofs.Lent.{head_room_at}
use Rattle.geometry.specs.Directory.{place_pages}
use Rattle.form.specs.Passes.{head_at}
use Rattle.form.proofs.head_at.Goals as goal

pub returns : goal.returns
unfolding head_at
returns c =
    let s = c.args.store.now in
    rw (c.level_place-below.ensures, place_pages s.geometry s.words.now 1, head_room_at s.geometry s.plan s.words.now s.lent)
