-- What the walk over a row knows at each position, and how it goes on to the next. Assumes nothing.
use Prim.Native.Nat.{ℕ, zero, suc, ◌+◌, ◌-◌, ◌≤◌, ◌<◌}
use Rattle.std.proofs.Math.Nat.{sub-zero}
use Rattle.std.proofs.Common.{add-one, sym, ◌∙◌}
use native.Mathlib.Omega.{arith}
use Rattle.std.specs.Prelude.{◌≡◌, Bool, cond, ◌&&◌, ◌||◌, List, [], ◌∷◌, length, leb}
use Rattle.std.proofs.Math.Path.{refl, ap}
use Rattle.std.proofs.Math.Bool.{true, false, not}
use Rattle.std.proofs.Math.Dec.{ltb}
use borrow.Author.Tests.{lt-ltb, le-ltb, ltb-true, ltb-false, le-leb, lt-leb, leb-false, ne_eqb}
use Rattle.laws.specs.Lists.{span}
use Rattle.laws.specs.Tests.{and_true, and_assoc, and_regroup}
use Rattle.laws.specs.Flat.{span_first, span_none}
use Rattle.slot.specs.declared.Pair.{Pair}
use Rattle.slot.specs.declared.Slot.{Slot}
use Rattle.slot.specs.declared.Kind.{Kind}
use Rattle.slot.specs.declared.Kind.TheVariants.{Normal, Filter, External, Internal}
use Rattle.slot.specs.Pair.{before}
use Rattle.rules.specs.Tree.{Entry, Level}
use Rattle.rules.specs.Level.{index, internal, fence_kind, fence_of}
use Rattle.rules.specs.Sound.{entries_of, ascending}
use Rattle.written.specs.declared.Row.{Row}
use Rattle.layout.specs.Stream.{same_slot, entry_of, is_index, slots_apart, index_same, passed, fence_kind_lem, entry_next, fenced_at, wanted, ended, are_stream}
use Rattle.written.specs.Row.{row_slot, first_below, rises, rising, nothing_left, slots_on, row_slots, entry_in, next_entry, entry_at, wanted_at, is_wanted, entry_fits, goes_on, row_written}

-- The entries of slots, a fence or an entry first; an entry passes no fence.
entries_fence : (s : Slot) (ss : List Slot) → fence_kind s.kind ≡ true → entries_of (s ∷ ss) ≡ entries_of ss
unfolding entries_of
entries_fence s ss e = rw (e, entries_of) refl

pub entries_entry : (s : Slot) (ss : List Slot) → fence_kind s.kind ≡ false → entries_of (s ∷ ss) ≡ entry_of s ∷ entries_of ss
unfolding entries_of
entries_entry s ss e = rw (e, entries_of) refl

passed_entry : (k : Kind) (p : ℕ) → fence_kind k ≡ false → passed k p ≡ p
passed_entry Normal p e = refl
passed_entry Filter p e = refl
passed_entry External p e = cc
passed_entry Internal p e = refl

passed_most : (k : Kind) (p : ℕ) → passed k p ≤ p + 1
passed_most Normal p = omega arith
passed_most Filter p = omega arith
passed_most External p = omega arith
passed_most Internal p = omega arith

-- Entries that rise from the first on ascend.
rising_after : (c : ℕ) (e : Entry) (es : Level) → rising (c + 1) e.pair es ≡ ascending (e ∷ es)
unfolding rising ascending rises
rising_after c e [] = refl
rising_after c e (f ∷ es) = rw (ne_eqb (c + 1) 0 (λ h. omega arith), rising_after (c + 1) f es) (chosen (before e.pair f.pair))
  where
    chosen : (b : Bool) → ((false || b) && ascending (f ∷ es)) ≡ elim b [ true ↦ ascending (f ∷ es) | false ↦ false ]
    chosen true = refl
    chosen false = refl

rising_ascending : (last : Pair) (es : Level) → rising 0 last es ≡ ascending es
unfolding rising ascending rises
rising_ascending last [] = refl
rising_ascending last (e ∷ es) = rising_after 0 e es

module _ (w : List ℕ) (row : Row) where
  pub slots_on_first : (n : ℕ) → n < row.slots → slots_on w row n ≡ row_slot w row n ∷ slots_on w row (n + 1)
  unfolding slots_on
  slots_on_first n h = span_first (row_slot w row) n (row.slots - n) (row.slots - (n + 1)) (omega arith)

  pub slots_on_none : (n : ℕ) → row.slots ≤ n → slots_on w row n ≡ []
  unfolding slots_on
  slots_on_none n h = span_none (row_slot w row) n (row.slots - n) (omega arith)

  slots_on_all : slots_on w row 0 ≡ row_slots w row
  unfolding slots_on row_slots
  slots_on_all = rw (sub-zero row.slots) refl

  -- The next entry from a position on.
  pub next_passes : (n : ℕ) → n < row.slots → fence_kind (row_slot w row n).kind ≡ true → next_entry w row n ≡ next_entry w row (n + 1)
  unfolding next_entry entry_in
  next_passes n h f =
      let e : row.slots - n ≡ suc (row.slots - (n + 1)) = omega arith in
      rw (e, entry_in, f) refl

  pub next_here : (n : ℕ) → n < row.slots → fence_kind (row_slot w row n).kind ≡ false → next_entry w row n ≡ n
  unfolding next_entry entry_in
  next_here n h f =
      let e : row.slots - n ≡ suc (row.slots - (n + 1)) = omega arith in
      rw (e, entry_in, f) refl

  pub next_none : (n : ℕ) → row.slots ≤ n → next_entry w row n ≡ n
  unfolding next_entry entry_in
  next_none n h =
      let e : row.slots - n ≡ 0 = omega arith in
      rw (e, entry_in) refl

  -- What looks at the next entry alone may take it from its position.
  module _ {A : Type 0} (g : Level → A) (alone : (e : Entry) (es : Level) → g (e ∷ es) ≡ g (e ∷ [])) where
    ahead : (k n : ℕ) → n + k ≡ row.slots → g (entries_of (span (row_slot w row) n k)) ≡ g (entry_at w row (entry_in w row n k))
    unfolding span entry_in entry_at entries_of
    ahead zero n h = rw (le-ltb n row.slots (omega arith)) refl
    ahead (suc k) n h = chosen (fence_kind (row_slot w row n).kind) (rw (add-one n) (ahead k (suc n) (omega arith)))
      where
        chosen : (b : Bool) → g (entries_of (span (row_slot w row) (suc n) k)) ≡ g (entry_at w row (entry_in w row (n + 1) k)) →
            g (elim b [ true ↦ entries_of (span (row_slot w row) (suc n) k) | false ↦ entry_of (row_slot w row n) ∷ entries_of (span (row_slot w row) (suc n) k) ]) ≡
            g (entry_at w row (elim b [ true ↦ entry_in w row (n + 1) k | false ↦ n ]))
        chosen true more = more
        chosen false more = rw (lt-ltb n row.slots (omega arith)) (alone (entry_of (row_slot w row n)) (entries_of (span (row_slot w row) (suc n) k)))

    seen : (n : ℕ) → n ≤ row.slots → g (entries_of (slots_on w row n)) ≡ g (entry_at w row (next_entry w row n))
    unfolding slots_on next_entry
    seen n h = ahead (row.slots - n) n (omega arith)

  -- The wanted slot: a fence where no entry is left or the next fence is not above it, else the entry, with its internal fence where it is
  -- first in a page.
  pub wanted_last : (n r p : ℕ) → row.slots ≤ r → fence_of (first_below w row) p ≡ wanted_at w row n r p
  unfolding wanted_at entry_at wanted
  wanted_last n r p h = rw (le-ltb r row.slots h) refl

  module _ (n r p : ℕ) (some : r < row.slots) where
    pub wanted_fence : entry_next (first_below w row) row.below.pages p (row_slot w row r).pair ≡ false →
        fence_of (first_below w row) p ≡ wanted_at w row n r p
    unfolding wanted_at entry_at wanted
    wanted_fence e = rw (lt-ltb r row.slots some) (rw e refl)

    pub wanted_inner : entry_next (first_below w row) row.below.pages p (row_slot w row r).pair ≡ true → fenced_at row.fenced n ≡ true →
        internal (row_slot w row r).pair (p - 1) ≡ wanted_at w row n r p
    unfolding wanted_at entry_at wanted
    wanted_inner e f = rw (lt-ltb r row.slots some) (rw (e, f) refl)

    pub wanted_index : entry_next (first_below w row) row.below.pages p (row_slot w row r).pair ≡ true → fenced_at row.fenced n ≡ false →
        index (entry_of (row_slot w row r)) ≡ wanted_at w row n r p
    unfolding wanted_at entry_at wanted
    wanted_index e f = rw (lt-ltb r row.slots some) (rw (e, f) refl)

  pub something_left : (r p : ℕ) → nothing_left row r p ≡ false → row.slots ≤ r → p < row.below.pages
  unfolding nothing_left
  something_left r p e h = leb-false row.below.pages p (rw (le-leb row.slots r h) at e)

  -- So a slot is the wanted one exactly if it is what the stream has next.
  ended_at : (r p : ℕ) → nothing_left row r p ≡ ended row.fenced (first_below w row) row.below.pages p (entry_at w row r)
  unfolding ended entry_at nothing_left
  ended_at r p = chosen (ltb r row.slots) refl
    where
      chosen : (b : Bool) → ltb r row.slots ≡ b → nothing_left row r p ≡
          ended row.fenced (first_below w row) row.below.pages p (cond b (entry_of (row_slot w row r) ∷ []) [])
      chosen true e = rw (lt-leb row.slots r (ltb-true r row.slots e)) refl
      chosen false e = rw (le-leb row.slots r (ltb-false r row.slots e)) refl

  wanted_seen : (n p : ℕ) → n ≤ row.slots → (s : Slot) →
      (not (ended row.fenced (first_below w row) row.below.pages p (entries_of (slots_on w row n))) &&
      same_slot s (wanted row.fenced (first_below w row) row.below.pages n p (entries_of (slots_on w row n)))) ≡ is_wanted w row n (next_entry w row n) p s
  unfolding is_wanted wanted_at wanted ended
  wanted_seen n p h s =
      rw (
        ended_at (next_entry w row n) p,
        seen (ended row.fenced (first_below w row) row.below.pages p) (λ e es. refl) n h,
        seen (wanted row.fenced (first_below w row) row.below.pages n p) (λ e es. refl) n h,
      ) refl

  -- An entry is its own next one, so it is the wanted slot exactly if it fits.
  entry_wanted : (n p : ℕ) → n < row.slots → fence_kind (row_slot w row n).kind ≡ false →
      is_wanted w row n (next_entry w row n) p (row_slot w row n) ≡ entry_fits w row n p (row_slot w row n)
  unfolding is_wanted nothing_left entry_fits internal
  entry_wanted n p some f =
      rw (next_here n some f, lt-leb row.slots n some)
      (chosen (fenced_at row.fenced n) (entry_next (first_below w row) row.below.pages p (row_slot w row n).pair) refl refl)
    where
      no_fence : (s : Slot) → s ≡ wanted_at w row n n p → fence_kind s.kind ≡ true → same_slot (row_slot w row n) (wanted_at w row n n p) ≡ false
      no_fence s e k = rw (← e) (slots_apart (row_slot w row n) s (f ∙ ap not (sym k)))

      outer : fence_kind (fence_of (first_below w row) p).kind ≡ true
      outer = ap fence_kind (fence_kind_lem row.fenced (first_below w row) row.below.pages p)

      chosen : (a b : Bool) → fenced_at row.fenced n ≡ a → entry_next (first_below w row) row.below.pages p (row_slot w row n).pair ≡ b →
          same_slot (row_slot w row n) (wanted_at w row n n p) ≡ (not a && b && is_index (row_slot w row n))
      chosen true true a b = no_fence (internal (row_slot w row n).pair (p - 1)) (wanted_inner n n p some b a) refl
      chosen true false a b = no_fence (fence_of (first_below w row) p) (wanted_fence n n p some b) outer
      chosen false true a b = rw (← wanted_index n n p some b a) (index_same (row_slot w row n))
      chosen false false a b = no_fence (fence_of (first_below w row) p) (wanted_fence n n p some b) outer

  -- At a slot, the row goes on where it is the wanted one, and where an entry rises.
  goes_on_lem : (n p c : ℕ) (last : Pair) → n < row.slots → goes_on w row n p c last ≡
      (is_wanted w row n (next_entry w row n) p (row_slot w row n) &&
      are_stream row.fenced (first_below w row) row.below.pages (n + 1) (passed (row_slot w row n).kind p) (slots_on w row (n + 1)) &&
      rising c last (entries_of (row_slot w row n ∷ slots_on w row (n + 1))))
  unfolding goes_on are_stream
  goes_on_lem n p c last h =
      let e = slots_on_first n h in
      let q = rw e at (wanted_seen n p (omega arith) (row_slot w row n)) in
      rw (e, q) refl

  pub goes_fence : (n p c : ℕ) (last : Pair) → n < row.slots → fence_kind (row_slot w row n).kind ≡ true → goes_on w row n p c last ≡
      (is_wanted w row n (next_entry w row n) p (row_slot w row n) && goes_on w row (n + 1) (passed (row_slot w row n).kind p) c last)
  unfolding goes_on
  goes_fence n p c last some f =
      goes_on_lem n p c last some ∙
      rw (entries_fence (row_slot w row n) (slots_on w row (n + 1)) f, goes_on)
      (and_assoc (is_wanted w row n (next_entry w row n) p (row_slot w row n))
      (are_stream row.fenced (first_below w row) row.below.pages (n + 1) (passed (row_slot w row n).kind p) (slots_on w row (n + 1)))
      (rising c last (entries_of (slots_on w row (n + 1)))))

  pub goes_entry : (n p c : ℕ) (last : Pair) → n < row.slots → fence_kind (row_slot w row n).kind ≡ false → goes_on w row n p c last ≡
      ((entry_fits w row n p (row_slot w row n) && rises c last (row_slot w row n).pair) && goes_on w row (n + 1) p (c + 1) (row_slot w row n).pair)
  unfolding goes_on rising
  goes_entry n p c last some f =
      goes_on_lem n p c last some ∙
      rw (
        entry_wanted n p some f,
        passed_entry (row_slot w row n).kind p f,
        entries_entry (row_slot w row n) (slots_on w row (n + 1)) f,
        rising,
        goes_on,
      )
      (and_regroup true (entry_fits w row n p (row_slot w row n))
      (are_stream row.fenced (first_below w row) row.below.pages (n + 1) p (slots_on w row (n + 1)))
      (rises c last (row_slot w row n).pair) (rising (c + 1) (row_slot w row n).pair (entries_of (slots_on w row (n + 1)))))

  -- What the walk knows at position n: the next entry, if it is known to be behind, the fences and entries passed, and that the row is
  -- written exactly if it goes on so.
  pub record Here (n r p c : ℕ) (last : Pair) : Type 0 where
    pub inside : n ≤ row.slots
    pub next : n < r → r ≡ next_entry w row n
    pub fences : p ≤ n
    pub entries : c ≤ n
    pub same : row_written w row ≡ goes_on w row n p c last
    pub counted : c + length (entries_of (slots_on w row n)) ≡ length (entries_of (row_slots w row))

  pub here_starts : (last : Pair) → Here 0 0 0 0 last
  unfolding row_written goes_on
  here_starts last = record {
    inside = omega arith;
    next = λ h. absurd (omega arith);
    fences = omega arith;
    entries = omega arith;
    same = rw (slots_on_all, rising_ascending last (entries_of (row_slots w row))) refl;
    counted = rw slots_on_all (omega arith);
  }

  module _ (n r p c : ℕ) (last : Pair) (here : Here n r p c last) (more : n < row.slots) where
    -- At a fence it goes on where that is the wanted slot.
    module _ (fence : fence_kind (row_slot w row n).kind ≡ true) where
      pub here_refused : is_wanted w row n (next_entry w row n) p (row_slot w row n) ≡ false → row_written w row ≡ false
      here_refused e = here.same ∙ goes_fence n p c last more fence ∙ rw e refl

      pub here_fence : is_wanted w row n (next_entry w row n) p (row_slot w row n) ≡ true → (r' : ℕ) → r' ≡ next_entry w row n →
          Here (n + 1) r' (passed (row_slot w row n).kind p) c last
      here_fence e r' q = record {
        inside = omega arith;
        next = λ h. q ∙ next_passes n more fence;
        fences = omega (arith, passed_most (row_slot w row n).kind p, here.fences);
        entries = omega (arith, here.entries);
        same = here.same ∙ goes_fence n p c last more fence ∙ rw e refl;
        counted = rw (slots_on_first n more, entries_fence (row_slot w row n) (slots_on w row (n + 1)) fence) at here.counted;
      }

    -- At an entry, where it fits and rises.
    module _ (entry : fence_kind (row_slot w row n).kind ≡ false) where
      pub here_falls : (entry_fits w row n p (row_slot w row n) && rises c last (row_slot w row n).pair) ≡ false → row_written w row ≡ false
      here_falls e = here.same ∙ goes_entry n p c last more entry ∙ rw e refl

      pub here_entry : (entry_fits w row n p (row_slot w row n) && rises c last (row_slot w row n).pair) ≡ true →
          Here (n + 1) r p (c + 1) (row_slot w row n).pair
      here_entry e =
          let total : c + length (entry_of (row_slot w row n) ∷ entries_of (slots_on w row (n + 1))) ≡ length (entries_of (row_slots w row)) =
          rw (slots_on_first n more, entries_entry (row_slot w row n) (slots_on w row (n + 1)) entry) at here.counted in
          record {
            inside = omega arith;
            next = λ h. absurd (omega (arith, here.next (omega arith), next_here n more entry));
            fences = omega (arith, here.fences);
            entries = omega (arith, here.entries);
            same = here.same ∙ goes_entry n p c last more entry ∙ rw e refl;
            counted = omega arith;
          }

  -- At the row's end it is written exactly if no fence is left, and its entries are counted.
  pub here_ends : (n r p c : ℕ) (last : Pair) → Here n r p c last → row.slots ≤ n → row_written w row ≡ leb row.below.pages p
  unfolding goes_on are_stream rising entries_of
  here_ends n r p c last here h = here.same ∙ rw (slots_on_none n h) (and_true (leb row.below.pages p))

  pub here_counted : (n r p c : ℕ) (last : Pair) → Here n r p c last → row.slots ≤ n → c ≡ length (entries_of (row_slots w row))
  unfolding entries_of
  here_counted n r p c last here h = omega (arith, rw (slots_on_none n h) at here.counted)
