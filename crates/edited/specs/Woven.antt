-- An entry toggled among the entries of a row, woven with fences: it comes to stand behind all slots at most its pair, or the last of them
-- was the entry of its pair and goes. Assumes nothing.
use Prim.Native.Nat.{ℕ, suc, ◌-◌, ◌≤◌}
use native.Mathlib.Omega.{arith}
use Rattle.std.specs.Prelude.{◌≡◌, Bool, take, drop}
use Rattle.std.proofs.Math.Path.{refl, ap}
use Rattle.std.proofs.Common.{◌∙◌}
use Rattle.std.proofs.Math.Bool.{true, false}
use mathlib.Core.List.{List, [], ◌∷◌, ◌++◌}
use Rattle.slot.specs.declared.Pair.{Pair}
use Rattle.slot.specs.declared.Slot.{Slot}
use Rattle.slot.specs.Pair.{rank, before, same}
use Rattle.slot.specs.Order.{before_below, not_before_above, same_level, below_before, above_not_before}
use Rattle.rules.specs.Tree.{Entry, Level, rank_of}
use Rattle.rules.specs.Level.{index, place, weave}
use Rattle.rules.specs.Finding.{Met, absent, met, find}
use Rattle.rules.specs.Merging.{toggle}
use Rattle.rules.specs.Sound.{in_order, ascending}
use Rattle.page.specs.Form.{order_rest}
use Rattle.entries.specs.Ascending.{From, from_ascending, from_lower_lem, find_here, find_above}
use Rattle.good.specs.Comparing.{Compared, earlier, equal, later, compared}
use Rattle.good.specs.Toggle.{toggle_cancels, toggle_after, toggle_front, find_later}
use Rattle.edited.specs.Reach.{reach, reach_none, reach_on, reach_past}

-- An entry stands before the first fence that is above it, and behind any other.
module _ (e : Entry) (rest : List Slot → List Slot) (f : Slot) (fs : List Slot) where
  place_here : before e.pair f.pair ≡ true → place e rest (f ∷ fs) ≡ index e ∷ rest (f ∷ fs)
  unfolding place
  place_here h = rw (h, place)

  place_behind : before e.pair f.pair ≡ false → place e rest (f ∷ fs) ≡ f ∷ place e rest fs
  unfolding place
  place_behind h = rw (h, place)

-- A fence below all entries stands first.
fence_first_lem : (n : ℕ) (es : Level) (f : Slot) (fs : List Slot) → From n es → rank f.pair ≤ n → weave es (f ∷ fs) ≡ f ∷ weave es fs
unfolding From weave
fence_first_lem n [] f fs a h = refl
fence_first_lem n (e ∷ es) f fs a h = place_behind e (weave es) f fs (above_not_before e.pair f.pair (omega (arith, a.0)))

module _ (e : Entry) where
  abbrev own : Pair
  own = e.pair

  abbrev reached : List Slot → ℕ
  reached row = reach own row

  -- Where all entries and the first fence are above the pair, the whole row is.
  above_alone : (es : Level) → From (suc (rank own)) es → in_order (weave es []) ≡ true → reached (weave es []) ≡ 0
  unfolding From weave place index
  above_alone [] a o = reach_none own
  above_alone (x ∷ es) a o = reach_past own (index x) (weave es []) o (below_before own x.pair a.0)

  above_fence : (es : Level) (f : Slot) (fs : List Slot) → From (suc (rank own)) es → before own f.pair ≡ true → in_order (weave es (f ∷ fs)) ≡ true →
      reached (weave es (f ∷ fs)) ≡ 0
  unfolding From weave index
  above_fence [] f fs a b o = reach_past own f fs o b
  above_fence (x ∷ es) f fs a b o = chosen (before x.pair f.pair) refl
    where
      chosen : (c : Bool) → before x.pair f.pair ≡ c → reached (place x (weave es) (f ∷ fs)) ≡ 0
      chosen true c =
          let o' : in_order (index x ∷ weave es (f ∷ fs)) ≡ true = rw (place_here x (weave es) f fs c) at o in
          rw (place_here x (weave es) f fs c) (reach_past own (index x) (weave es (f ∷ fs)) o' (below_before own x.pair a.0))
      chosen false c =
          let o' : in_order (f ∷ place x (weave es) fs) ≡ true = rw (place_behind x (weave es) f fs c) at o in
          rw (place_behind x (weave es) f fs c) (reach_past own f (place x (weave es) fs) o' b)

  -- What becomes of a row, by what its level has of the pair.
  unfoldable Edited : Met → List Slot → List Slot → Type 0
  Edited absent row now = now ≡ take (reached row) row ++ index e ∷ drop (reached row) row
  Edited (met b) row now = (1 ≤ reached row) × (now ≡ take (reached row - 1) row ++ drop (reached row) row)

  -- A row that is above the pair; the pair's own entry before such a row; and a slot at most the pair before any row.
  edited_front : (row : List Slot) → reached row ≡ 0 → Edited absent row (index e ∷ row)
  unfolding Edited
  edited_front row z = rw z refl

  edited_own : (b : Bool) (x : Entry) (row : List Slot) → same own x.pair ≡ true → reached row ≡ 0 → Edited (met b) (index x ∷ row) row
  unfolding Edited index
  edited_own b x row s z =
      let r : reached (index x ∷ row) ≡ 1 = reach_on own (index x) row (above_not_before own x.pair (omega (arith, same_level own x.pair s))) ∙ ap suc z in
      rw r (omega arith, refl)

  edited_on : (m : Met) (s : Slot) (row now : List Slot) → before own s.pair ≡ false → Edited m row now → Edited m (s ∷ row) (s ∷ now)
  unfolding Edited
  edited_on absent s row now h k = rw (reach_on own s row h) (ap (λ (l : List Slot). s ∷ l) k)
  edited_on (met b) s row now h k =
      let n : suc (reached row) - 1 ≡ suc (reached row - 1) = omega (arith, k.0) in
      rw (reach_on own s row h, n) (omega arith, ap (λ (l : List Slot). s ∷ l) k.1)

  -- Where all entries are above the pair, the new one stands before them.
  edits_front : (es : Level) → From (suc (rank own)) es → (fs : List Slot) → in_order (weave es fs) ≡ true → Edited absent (weave es fs) (place e (weave es) fs)
  unfolding place
  edits_front es a [] o = edited_front (weave es []) (above_alone es a o)
  edits_front es a (f ∷ fs) o = chosen (before own f.pair) refl (edits_front es a fs)
    where
      chosen : (b : Bool) → before own f.pair ≡ b → (in_order (weave es fs) ≡ true → Edited absent (weave es fs) (place e (weave es) fs)) →
          Edited absent (weave es (f ∷ fs)) (place e (weave es) (f ∷ fs))
      chosen true b more = rw (place_here e (weave es) f fs b) (edited_front (weave es (f ∷ fs)) (above_fence es f fs a b o))
      chosen false b more =
          let q : weave es (f ∷ fs) ≡ f ∷ weave es fs = fence_first_lem (suc (rank own)) es f fs a (omega (arith, not_before_above own f.pair b)) in
          let o' : in_order (f ∷ weave es fs) ≡ true = rw q at o in
          rw (q, place_behind e (weave es) f fs b) (edited_on absent f (weave es fs) (place e (weave es) fs) b (more (order_rest f (weave es fs) o')))

  -- What is above an entry of the pair is above the pair, and an entry before the pair is at most it.
  above_own : (x : Entry) (es : Level) → same own x.pair ≡ true → From (suc (rank_of x)) es → From (suc (rank own)) es
  above_own x es s a = from_lower_lem (suc (rank own)) (suc (rank_of x)) es (omega (arith, same_level own x.pair s)) a

  not_below : (x : Entry) → before x.pair own ≡ true → before own x.pair ≡ false
  not_below x b = above_not_before own x.pair (omega (arith, before_below x.pair own b))

  -- Where the first entry is that of the pair, it goes.
  edits_own : (b : Bool) (x : Entry) (es : Level) → same own x.pair ≡ true → From (suc (rank_of x)) es → (fs : List Slot) →
      in_order (place x (weave es) fs) ≡ true → Edited (met b) (place x (weave es) fs) (weave es fs)
  unfolding place
  edits_own b x es s a [] o = edited_own b x (weave es []) s (above_alone es (above_own x es s a) (order_rest (index x) (weave es []) o))
  edits_own b x es s a (f ∷ fs) o = chosen (before x.pair f.pair) refl (edits_own b x es s a fs)
    where
      level : rank own ≡ rank_of x
      level = same_level own x.pair s

      chosen : (c : Bool) → before x.pair f.pair ≡ c →
          (in_order (place x (weave es) fs) ≡ true → Edited (met b) (place x (weave es) fs) (weave es fs)) →
          Edited (met b) (place x (weave es) (f ∷ fs)) (weave es (f ∷ fs))
      chosen true c more =
          let q : before own f.pair ≡ true = below_before own f.pair (omega (arith, level, before_below x.pair f.pair c)) in
          let o' : in_order (index x ∷ weave es (f ∷ fs)) ≡ true = rw (place_here x (weave es) f fs c) at o in
          rw (place_here x (weave es) f fs c)
          (edited_own b x (weave es (f ∷ fs)) s (above_fence es f fs (above_own x es s a) q (order_rest (index x) (weave es (f ∷ fs)) o')))
      chosen false c more =
          let k : rank f.pair ≤ rank_of x = not_before_above x.pair f.pair c in
          let o' : in_order (f ∷ place x (weave es) fs) ≡ true = rw (place_behind x (weave es) f fs c) at o in
          rw (place_behind x (weave es) f fs c, fence_first_lem (suc (rank_of x)) es f fs a (omega (arith, k)))
          (edited_on (met b) f (place x (weave es) fs) (weave es fs) (above_not_before own f.pair (omega (arith, k, level)))
          (more (order_rest f (place x (weave es) fs) o')))

  -- Where the first entry is before the pair, it stays, and the edit is among the others.
  edits_behind : (m : Met) (x : Entry) (rest now : List Slot → List Slot) → before x.pair own ≡ true →
      ((fs : List Slot) → in_order (rest fs) ≡ true → Edited m (rest fs) (now fs)) → (fs : List Slot) → in_order (place x rest fs) ≡ true →
      Edited m (place x rest fs) (place x now fs)
  unfolding place index
  edits_behind m x rest now b more [] o = edited_on m (index x) (rest []) (now []) (not_below x b) (more [] (order_rest (index x) (rest []) o))
  edits_behind m x rest now b more (f ∷ fs) o = chosen (before x.pair f.pair) refl (edits_behind m x rest now b more fs)
    where
      chosen : (c : Bool) → before x.pair f.pair ≡ c → (in_order (place x rest fs) ≡ true → Edited m (place x rest fs) (place x now fs)) →
          Edited m (place x rest (f ∷ fs)) (place x now (f ∷ fs))
      chosen true c on =
          let o' : in_order (index x ∷ rest (f ∷ fs)) ≡ true = rw (place_here x rest f fs c) at o in
          rw (place_here x rest f fs c, place_here x now f fs c)
          (edited_on m (index x) (rest (f ∷ fs)) (now (f ∷ fs)) (not_below x b) (more (f ∷ fs) (order_rest (index x) (rest (f ∷ fs)) o')))
      chosen false c on =
          let o' : in_order (f ∷ place x rest fs) ≡ true = rw (place_behind x rest f fs c) at o in
          let q : before own f.pair ≡ false =
          above_not_before own f.pair (omega (arith, not_before_above x.pair f.pair c, before_below x.pair own b)) in
          rw (place_behind x rest f fs c, place_behind x now f fs c)
          (edited_on m f (place x rest fs) (place x now fs) q (on (order_rest f (place x rest fs) o')))

  -- So it is with every level that ascends.
  toggle_edits : (n : ℕ) (es : Level) → From n es → (fs : List Slot) → in_order (weave es fs) ≡ true →
      Edited (find own es) (weave es fs) (weave (toggle e es) fs)
  unfolding From weave toggle
  toggle_edits n [] a fs o = rw (find_above own [] tt) (edits_front [] tt fs o)
  toggle_edits n (x ∷ es) a fs o = stands (compared own x.pair) (toggle_edits (suc (rank_of x)) es a.1)
    where
      stands : Compared own x.pair → ((gs : List Slot) → in_order (weave es gs) ≡ true → Edited (find own es) (weave es gs) (weave (toggle e es) gs)) →
          Edited (find own (x ∷ es)) (weave (x ∷ es) fs) (weave (toggle e (x ∷ es)) fs)
      stands (earlier b) more =
          let above : From (suc (rank own)) (x ∷ es) = (before_below own x.pair b, a.1) in
          rw (find_above own (x ∷ es) above, toggle_front e (x ∷ es) above) (edits_front (x ∷ es) above fs o)
      stands (equal s) more = rw (find_here own x es s, toggle_cancels e x es s) (edits_own x.normal x es s a.1 fs o)
      stands (later l) more =
          rw (find_later own x es l, toggle_after e x es l) (edits_behind (find own es) x (weave es) (weave (toggle e es)) l more fs o)

  -- An entry of a new pair comes in, and an entry of a pair that is there goes out.
  module _ (es : Level) (fs : List Slot) (up : ascending es ≡ true) (order : in_order (weave es fs) ≡ true) where
    abbrev row : List Slot
    row = weave es fs

    pub toggle_weaves_in : find own es ≡ absent → weave (toggle e es) fs ≡ take (reached row) row ++ index e ∷ drop (reached row) row
    unfolding Edited
    toggle_weaves_in h = rw h at (toggle_edits 0 es (from_ascending es up) fs order)

    toggle_edits_out : (b : Bool) → find own es ≡ met b → Edited (met b) row (weave (toggle e es) fs)
    toggle_edits_out b h = rw h at (toggle_edits 0 es (from_ascending es up) fs order)

    pub toggle_weaves_out : (b : Bool) → find own es ≡ met b → weave (toggle e es) fs ≡ take (reached row - 1) row ++ drop (reached row) row
    unfolding Edited
    toggle_weaves_out b h = (toggle_edits_out b h).1

    pub own_reached : (b : Bool) → find own es ≡ met b → 1 ≤ reached row
    unfolding Edited
    own_reached b h = (toggle_edits_out b h).0
