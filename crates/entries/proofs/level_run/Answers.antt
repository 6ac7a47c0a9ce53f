-- `level_run` gives the run of a level, from the level's place. Assumes nothing.
use Rattle.entries.specs.Levels.{level_run}
use Rattle.geometry.specs.Directory.{place_start, place_pages}
use Rattle.entries.proofs.level_run.Goals as goal

pub returns : goal.returns
unfolding level_run
returns c =
    let s = c.args.store.now in
    let level = c.args.level in
    rw (c.level_place-place.ensures, place_start s.geometry s.words.now level, place_pages s.geometry s.words.now level)
