-- `directory_right` tests the directory, from what `pages_right` ensures of each level. Assumes nothing.
use Rattle.laws.specs.Lists.{all_three}
use Rattle.rules.specs.Sound.{directory_right, pages_right}
use Rattle.geometry.proofs.Lent.{most_at}
use Rattle.form.proofs.directory_right.Goals as goal

pub returns : goal.returns
unfolding directory_right
returns c =
    let s = c.args.store.now in
    rw (c.both-2.ensures, c.both.ensures, c.both-pages.ensures, c.both-below.ensures, c.pages_right-3.ensures, c.pages_right-2.ensures, c.pages_right.ensures, c.at_level-most.ensures, ← most_at s.geometry s.plan s.words.now s.lent, all_three (pages_right s.geometry s.words.now) 1 2 3)
