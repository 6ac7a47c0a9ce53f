-- `make_call` makes the call that a request asks for: each operation by its own call. Assumes nothing.
use mathlib.Core.Bool.{false}
use Rattle.sheet_calls.specs.Stepping.{change_called, ask_called, put_made, drop_made, ask_made}
use borrow.Author.Rules.{rules}
use Rattle.sheet_calls.proofs.make_call.Goals as goal

pub returns-in-Put : goal.returns-in-Put
returns-in-Put c =
    let store = c.args.store.now in
    let work = c.args.work.now in
    rw (put_made c.args.request store work c.in-Put.is) (search (rules, change_called))

pub returns-in-Drop : goal.returns-in-Drop
returns-in-Drop c =
    let store = c.args.store.now in
    let work = c.args.work.now in
    rw (drop_made c.args.request store work c.in-Drop.is) (change_called store work c.args.progress c.requires.counted c.after_change-in-Drop.result false c.args.request.pair c.drop.result _ _ c.drop.ensures c.after_change-in-Drop.ensures)

pub returns-in-Ask : goal.returns-in-Ask
returns-in-Ask c =
    let store = c.args.store.now in
    let work = c.args.work.now in
    let asked = c.ask in
    rw (ask_made c.args.request store work c.in-Ask.is) (ask_called store work c.args.progress c.requires.counted c.only_told.result c.args.request.pair asked.result asked.ensures c.held_number.ensures c.only_told.ensures)
