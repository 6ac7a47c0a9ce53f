-- `next_slot` gives a fence where one comes before the next entry, and else what `next_own` gives (specs/Ahead.antt). Assumes nothing.
use mathlib.Core.Path.{sym, ◌∙◌}
use borrow.Author.Tests.{leb-false}
use Rattle.layout.specs.Stream.{fence_left}
use Rattle.leaving.specs.Along.{own_inside}
use Rattle.leaving.specs.Ahead.{fence_there, follows_last, follows_fence}
use Rattle.leaving.proofs.WritingIn.next_slot.Goals as goal

pub next_fence-requires : goal.next_fence-requires
next_fence-requires c = fence_there _ _ _ _ _ (sym c.is_ended.ensures ∙ c.if-is_ended.true) c.requires.in_bounds

pub returns-then-is_ended : goal.returns-then-is_ended
returns-then-is_ended c =
    let pre = c.requires in
    let ended = sym c.is_ended.ensures ∙ c.if-is_ended.true in
    follows_last _ _ _ _ _ pre.standing _ ended (fence_there _ _ _ _ _ ended pre.in_bounds) c.next_fence.ensures

pub entry_at-entry-requires : goal.entry_at-entry-requires
entry_at-entry-requires c = record {
  inside = own_inside _ _ c.args.self.now.within;
  standing = c.requires.standing;
  spot_bound = leb-false _ _ (sym c.is_ended.ensures ∙ c.if-is_ended.false);
}

pub next_fence-requires-then-not-entry_next : goal.next_fence-requires-then-not-entry_next
next_fence-requires-then-not-entry_next c = fence_left _ _ _ _ (sym c.entry_next.ensures ∙ c.if-not-entry_next.true)

pub returns-then-not-entry_next : goal.returns-then-not-entry_next
returns-then-not-entry_next c =
    follows_fence _ _ _ _ _ c.requires.standing _ _ _ c.entry_at-entry.ensures.told (sym c.entry_next.ensures ∙ c.if-not-entry_next.true)
    c.next_fence-then-not-entry_next.ensures

pub next_own-requires : goal.next_own-requires
next_own-requires c = record {
  standing = c.requires.standing;
  comes = record {
    there = leb-false _ _ (sym c.is_ended.ensures ∙ c.if-is_ended.false);
    told = c.entry_at-entry.ensures.told;
    next = sym c.entry_next.ensures ∙ c.if-not-entry_next.false;
  };
}
