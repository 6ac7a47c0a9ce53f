-- What the clauses of src/lib.rt cite of a pass over slots: slot order, right tags, fences and entries, and how many slots are at most the pair asked.
-- Assumes nothing.
use Rattle.std.specs.Prelude.{ℕ, ◌+◌, ◌-◌, ◌*◌, ◌≤◌, ◌<◌, ◌≡◌, Bool, true, false, not, ◌&&◌, ◌||◌, cond, List, [], ◌∷◌, ltb, eqb}
use Rattle.std.proofs.Math.Nat.{sub-zero}
use Rattle.std.proofs.Common.{arith, sym, ◌∙◌}
use Rattle.laws.specs.Lists.{span, span_next, span_end}
use Rattle.slot.specs.declared.Pair.{Pair}
use Rattle.slot.specs.declared.Slot.{Slot}
use Rattle.slot.specs.Pair.{rank, before}
use Rattle.slot.specs.Slot.{slot_at}
use Rattle.rules.specs.Level.{fence_kind}
use Rattle.rules.specs.Sound.{slots_from}
use Rattle.page.specs.declared.Scan.{Scan}
use Rattle.geometry.specs.Places.{words_in_slot}

-- Pairs never fall, and only a fence is followed by its own pair.
unfoldable pub may_follow : ℕ → Bool → ℕ → Bool
may_follow last fence next = ltb last next || (eqb last next && fence)

unfoldable pub started : Scan
started = record { last = 0; last_fence = true; formed = true; breaking = 0; fences = 0; entries = 0; reach = 0 }

unfoldable pub stepped : Pair → Scan → Slot → Bool → Scan
stepped asked c s right =
    let fence = fence_kind s.kind in
    let formed = c.formed && (may_follow c.last c.last_fence (rank s.pair) && right) in
    record {
      last = rank s.pair;
      last_fence = fence;
      formed = formed;
      breaking = c.breaking + cond formed 1 0;
      fences = c.fences + cond fence 1 0;
      entries = c.entries + cond (not fence) 1 0;
      reach = c.reach + cond (not (before asked s.pair)) 1 0;
    }

-- A pass that tests each slot's tag by the fences and the index entries before it.
unfoldable pub scanned : Pair → (ℕ → ℕ → Slot → Bool) → Scan → List Slot → Scan
scanned asked right c [] = c
scanned asked right c (s ∷ ss) = scanned asked right (stepped asked c s (right c.fences c.entries s)) ss

-- A pass by a test that is called: what it found is what a pass by any test that the calls agree with finds.
abbrev pub Scanned : (Scan → Slot → Bool → Type 0) → List ℕ → ℕ → ℕ → Pair → Scan → Type 0
Scanned tells w place n asked c =
    (right : ℕ → ℕ → Slot → Bool) → ((d : Scan) (s : Slot) (b : Bool) → tells d s b → b ≡ right d.fences d.entries s) →
    c ≡ scanned asked right started (slots_from w place n)

-- After j slots no count is above j.
pub record Within (j : ℕ) (c : Scan) : Type 0 where
  pub breaking_within : c.breaking ≤ j
  pub fences_within : c.fences ≤ j
  pub entries_within : c.entries ≤ j
  pub reach_within : c.reach ≤ j

bit_small : (b : Bool) → cond b 1 0 ≤ 1
bit_small true = omega arith
bit_small false = omega arith

pub stepped_within : (asked : Pair) (j : ℕ) (c : Scan) (s : Slot) (right : Bool) → Within j c → Within (j + 1) (stepped asked c s right)
unfolding stepped
stepped_within asked j c s right h = record {
  breaking_within = omega (arith, bit_small (c.formed && (may_follow c.last c.last_fence (rank s.pair) && right)));
  fences_within = omega (arith, bit_small (fence_kind s.kind));
  entries_within = omega (arith, bit_small (not (fence_kind s.kind)));
  reach_within = omega (arith, bit_small (not (before asked s.pair)));
}

pub started_within : Within 0 started
unfolding started
started_within = record { breaking_within = omega arith; fences_within = omega arith; entries_within = omega arith; reach_within = omega arith }

pub within_more : (j n : ℕ) (c : Scan) → j ≤ n → Within j c → Within n c
within_more j n c h so = record {
  breaking_within = omega (arith, so.breaking_within);
  fences_within = omega (arith, so.fences_within);
  entries_within = omega (arith, so.entries_within);
  reach_within = omega (arith, so.reach_within);
}

-- A pass over the slots from slot j on, of the n slots from a place on: where it begins, its next slot, its end.
unfoldable pub scanned_from : Pair → (ℕ → ℕ → Slot → Bool) → List ℕ → ℕ → ℕ → ℕ → Scan → Scan
scanned_from asked right w place n j c = scanned asked right c (span (λ i. slot_at w (place + words_in_slot * i)) j (n - j))

module _ (asked : Pair) (right : ℕ → ℕ → Slot → Bool) (w : List ℕ) (place n : ℕ) where
  pub scan_begins : scanned_from asked right w place n 0 started ≡ scanned asked right started (slots_from w place n)
  unfolding scanned_from slots_from
  scan_begins = rw (sub-zero n)

  pub scan_goes_on : (j : ℕ) (c : Scan) → j < n →
      scanned_from asked right w place n j c ≡
      scanned_from asked right w place n (j + 1) (stepped asked c (slot_at w (place + 3 * j)) (right c.fences c.entries (slot_at w (place + 3 * j))))
  unfolding scanned_from scanned
  scan_goes_on j c h = rw (span_next (λ i. slot_at w (place + 3 * i)) j n h)

  pub scan_ends : (j : ℕ) (c : Scan) → n ≤ j → scanned_from asked right w place n j c ≡ c
  unfolding scanned_from scanned
  scan_ends j c h = rw (span_end (λ i. slot_at w (place + 3 * i)) j n h)

  -- A slot more, as the code reads, tests and adds it.
  pub scan_step_told : (j : ℕ) (c : Scan) → j < n → Within j c → {whole : Scan} → scanned_from asked right w place n j c ≡ whole →
      {s : Slot} → s ≡ slot_at w (place + 3 * j) → {b : Bool} → b ≡ right c.fences c.entries s → {d : Scan} → d ≡ stepped asked c s b →
      Within (j + 1) d × (scanned_from asked right w place n (j + 1) d ≡ whole)
  scan_step_told j c h within so_far {s} read {b} tested added =
      (rw added (stepped_within asked j c s b within), rw (added, tested, read) (sym (scan_goes_on j c h) ∙ so_far))
