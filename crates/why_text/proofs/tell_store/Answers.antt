-- `tell_store` puts the lines of the reply of `why`. Assumes nothing.
use Rattle.printing.specs.Grown.{grown_as}
use Rattle.why_text.specs.Telling.{reply_told}
use Rattle.why_text.proofs.tell_store.Goals as goal

pub returns-clause-grown : goal.returns-clause-grown
returns-clause-grown c =
    let a = c.args in
    let asked = c.why-asked.ensures in
    grown_as (reply_told a.store.now a.pair _ _ _ asked.answers asked.tells) c.reply_lines.ensures.grown
