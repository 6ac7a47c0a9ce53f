-- `why` gives ask's answer, and ask's values with the lines of the walk. Assumes nothing.
use mathlib.Core.Path.{◌∙◌}
use Rattle.call_why.specs.Why.{headed_why}
use Rattle.call_why.proofs.why.Goals as goal

pub returns : goal.returns
returns c =
    let a = c.args in
    let walk = c.ask_noted-asked.ensures in
    let reply = c.ask_reply-reply in record {
      answers = walk.answers;
      tells = rw (c.keep_if.ensures, walk.notes) (headed_why a.store.now a.pair reply.result.number reply.result.values (reply.ensures ∙ walk.answers));
    }
