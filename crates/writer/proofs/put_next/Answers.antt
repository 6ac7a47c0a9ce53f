-- `put_next` puts the fences before an entry, and then its slots. Assumes nothing.
use mathlib.Core.Path.{refl, ◌∙◌}
use Rattle.writer.specs.Coming.{entry_put}
use Rattle.writer.proofs.put_next.Goals as goal

pub returns-clause-told : goal.returns-clause-told
returns-clause-told c es =
    let fences = c.put_fences_before-fence.ensures in
    rw c.put_entry.ensures.fences (entry_put _ _ _ _ _ _ es _ _ fences.next c.put_entry.ensures.told ∙ fences.told _ es refl)
