-- `change` edits the head, or tests and settles where the head is filled, as the rules say. Assumes nothing.
use mathlib.Core.Path.{◌≡◌, sym, ◌∙◌}
use lib.Dec.{eqb}
use Rattle.entries.specs.Run.{entry as indexed}
use Rattle.change.specs.Change.{fills_head, change_merges}
use Rattle.change.specs.Head.{Scanned, fills_told, accepted_scanned, accepted_editable, edited_ready, edited_told}
use Rattle.change.specs.Settled.{fills_anew}
use borrow.Author.Rules.{rules}
use Rattle.laws.specs.Clauses.{two_clauses}
use Rattle.change.proofs.change.Goals as goal

pub fills_head-requires : goal.fills_head-requires
fills_head-requires c =
    let a = c.args in
    let scanned = accepted_scanned a.g a.plan a.store.now (indexed a.entry) a.finding.level c.requires.lent c.requires.accepted a.finding.head c.requires.head_value in
    scanned.few

pub change_and_settle-requires : goal.change_and_settle-requires
change_and_settle-requires c =
    let a = c.args in
    let scanned = accepted_scanned a.g a.plan a.store.now (indexed a.entry) a.finding.level c.requires.lent c.requires.accepted a.finding.head c.requires.head_value in
    let fills = fills_told a.g a.store.now (eqb a.finding.level 0) a.finding.head.entries scanned.counted _ c.fills_head.ensures in
    record {
      lent = c.requires.lent;
      work_len = c.requires.work_len;
      accepted_anew = fills_anew a.g a.store.now (indexed a.entry) a.finding.level (sym fills ∙ c.if-fills_head.true) c.requires.accepted;
      reach_value = scanned.reached;
    }

pub returns-then-fills_head : goal.returns-then-fills_head
returns-then-fills_head c =
    let a = c.args in
    let scanned = accepted_scanned a.g a.plan a.store.now (indexed a.entry) a.finding.level c.requires.lent c.requires.accepted a.finding.head c.requires.head_value in
    let fills = fills_told a.g a.store.now (eqb a.finding.level 0) a.finding.head.entries scanned.counted _ c.fills_head.ensures in
    c.change_and_settle.ensures ∙
    change_merges a.g (indexed a.entry) a.store.now a.work.now (eqb a.finding.level 0) (sym fills ∙ c.if-fills_head.true)

pub edit_head-requires : goal.edit_head-requires
edit_head-requires c =
    let a = c.args in
    let scanned = accepted_scanned a.g a.plan a.store.now (indexed a.entry) a.finding.level c.requires.lent c.requires.accepted a.finding.head c.requires.head_value in
    accepted_editable a.g a.plan a.store.now (indexed a.entry) a.finding.level c.requires.lent c.requires.accepted a.finding.head.reach scanned.reached

pub done_on-requires : goal.done_on-requires
done_on-requires c =
    let a = c.args in
    (edited_ready a.g a.plan a.store.now (indexed a.entry) a.finding.level c.requires.lent c.requires.accepted a.finding.head.reach (eqb a.finding.level 0) _ c.edit_head.ensures).1

pub returns : goal.returns
returns c =
    let a = c.args in
    let scanned = accepted_scanned a.g a.plan a.store.now (indexed a.entry) a.finding.level c.requires.lent c.requires.accepted a.finding.head c.requires.head_value in
    let fills = fills_told a.g a.store.now (eqb a.finding.level 0) a.finding.head.entries scanned.counted _ c.fills_head.ensures in
    edited_told a.g a.plan a.store.now (indexed a.entry) a.finding.level c.requires.lent c.requires.accepted a.finding.head.reach (eqb a.finding.level 0) _
    c.edit_head.ensures a.work.now _ scanned.reached (sym fills ∙ c.if-fills_head.false) c.done_on.ensures
