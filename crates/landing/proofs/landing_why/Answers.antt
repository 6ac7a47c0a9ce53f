-- `landing_why` gives the number of the reply that `index::why` answers, and its trail. Assumes nothing.
use mathlib.Core.Path.{◌∙◌}
use Rattle.call_why.specs.Why.{why_replied_lem}
use borrow.Author.Rules.{rules}
use Rattle.landing.proofs.landing_why.Goals as goal

pub returns : goal.returns
returns c =
    let a = c.args in
    let pair = c.pair_of.ensures in
    let why = c.why.ensures in
    let reply = c.ask_reply-told in
    rw pair at (why_replied_lem a.store.now c.pair_of.result reply.result.number reply.result.values _ (reply.ensures ∙ why.answers) why.tells)
