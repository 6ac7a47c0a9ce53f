-- `wanted` gives the slot that the writing has at a position: a fence, an internal fence or an entry, by what the functions told. Assumes nothing.
use mathlib.Core.Path.{sym, ◌∙◌}
use Rattle.layout.specs.Stream.{fence_left}
use Rattle.written.specs.Position.{wanted_last, wanted_fence, wanted_inner, wanted_index}
use Rattle.written.proofs.RowIn.wanted.Goals as goal

pub returns-then-self-r : goal.returns-then-self-r
returns-then-self-r c = c.fence_of.ensures ∙ wanted_last _ _ _ _ _ c.if-self-r.true

pub fence_of-requires-then-not-comes_next : goal.fence_of-requires-then-not-comes_next
fence_of-requires-then-not-comes_next c = fence_left _ _ _ _ (sym c.comes_next.ensures ∙ c.if-not-comes_next.true)

pub returns-then-not-comes_next : goal.returns-then-not-comes_next
returns-then-not-comes_next c =
    c.fence_of-then-not-comes_next.ensures ∙
    wanted_fence _ _ _ _ _ c.if-self-r.false (rw c.slot_of-entry.ensures at (sym c.comes_next.ensures ∙ c.if-not-comes_next.true))

pub returns-then-fenced_at : goal.returns-then-fenced_at
returns-then-fenced_at c =
    let entry = c.slot_of-entry.ensures in
    c.inner_fence.ensures ∙
    rw entry (wanted_inner _ _ _ _ _ c.if-self-r.false (rw entry at (sym c.comes_next.ensures ∙ c.if-not-comes_next.false)) (sym c.fenced_at.ensures ∙ c.if-fenced_at.true))

pub returns : goal.returns
returns c =
    let entry = c.slot_of-entry.ensures in
    c.index_of.ensures ∙
    rw (c.is_normal.ensures, entry) (wanted_index _ _ _ _ _ c.if-self-r.false (rw entry at (sym c.comes_next.ensures ∙ c.if-not-comes_next.false)) (sym c.fenced_at.ensures ∙ c.if-fenced_at.false))
