-- `page_at` gives where a page stands, inside the store, and what its form is tested by. Assumes nothing.
use Prim.Native.Nat.{◌+◌}
use Rattle.geometry.proofs.Lent.{page_at_lem}
use Rattle.geometry.specs.Directory.{place_pages}
use Rattle.form.specs.Passes.{page_at}
use Rattle.form.proofs.page_at.Goals as goal

pub returns : goal.returns
unfolding page_at
returns c =
    let a = c.args in
    let s = a.store.now in
    let at = page_at_lem s.geometry s.plan s.words.now s.lent a.level a.page.0 c.requires.1 c.requires.2 c.level_place-own.ensures in record {
      exact = rw (c.both.ensures, at.0, c.level_place-below.ensures, c.level_place-own.ensures, place_pages s.geometry s.words.now a.level, place_pages s.geometry s.words.now (a.level + 1));
      inside = at.1;
    }
