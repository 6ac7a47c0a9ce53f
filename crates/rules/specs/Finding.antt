-- The paper's section "Finding": what a tree holds, and the walk over its slots that finds it. Assumes nothing.
use Rattle.std.specs.Prelude.{ℕ, suc, ◌+◌, Bool, true, false, not, ◌&&◌, List, [], ◌∷◌, reverse, length}
use Rattle.laws.specs.Lists.{passing}
use Rattle.slot.specs.declared.Pair.{Pair}
use Rattle.slot.specs.declared.Slot.{Slot}
use Rattle.slot.specs.declared.Kind.{Kind}
use Rattle.slot.specs.declared.Kind.TheVariants.{Normal, Filter, External, Internal}
use Rattle.slot.specs.Pair.{before, same}
use Rattle.rules.specs.Tree.{Level, Tree}
use Rattle.rules.specs.Level.{fence_kind, page_of}

-- The entry of a pair in a level: none, or whether it is normal.
pub data Met : Type 0 where
  absent : Met
  met : Bool → Met

unfoldable pub find : Pair → Level → Met
find p [] = absent
find p (e ∷ es) = elim (same p e.pair) [ true ↦ met e.normal | false ↦ find p es ]

-- A pair is held if its topmost entry is normal.
unfoldable pub held : Pair → Tree → Bool
held p [] = false
held p (es ∷ t) = elim (find p es) [ absent ↦ held p t | met normal ↦ normal ]

-- What a run of slots tells of a pair.
pub data Told : Type 0 where
  decided : Bool → Told
  follow : ℕ → Told
  nothing : Told

abbrev pub normal_kind : Kind → Bool
normal_kind Normal = true
normal_kind Filter = false
normal_kind External = false
normal_kind Internal = false

-- The slots whose pair is at most the pair asked, the last one first.
unfoldable pub at_most : Pair → List Slot → List Slot
at_most p slots = reverse (passing (λ s. not (before p s.pair)) slots)

-- Stepping back, the first fence met decides the next page.
unfoldable pub step_back : List Slot → Told
step_back [] = nothing
step_back (s ∷ ss) = elim (fence_kind s.kind) [ true ↦ follow s.page.0 | false ↦ step_back ss ]

-- An index entry of just that pair decides: normal is held, filter is not held. Otherwise a fence does.
unfoldable pub tell_from : Pair → List Slot → Told
tell_from p [] = nothing
tell_from p (s ∷ ss) =
    elim (same p s.pair && not (fence_kind s.kind)) [ true ↦ decided (normal_kind s.kind) | false ↦ step_back (s ∷ ss) ]

unfoldable pub tell : Pair → List Slot → Told
tell p slots = tell_from p (at_most p slots)

-- Held or not, the deciding level or l where none decides, and the page read in each lower level, from the top down.
pub record Answer : Type 0 where
  pub is_held : Bool
  pub decider : ℕ
  pub read : List ℕ

-- The walk: in the head, and then in one page of each lower level. A run of level i is given, and the slots of the levels below it.
unfoldable pub walk : Pair → ℕ → List Slot → List (List Slot) → Answer
walk p i run [] =
    elim (tell p run) [
      | decided b ↦ record { is_held = b; decider = i; read = [] }
      | follow q ↦ record { is_held = false; decider = suc i; read = [] }
      | nothing ↦ record { is_held = false; decider = suc i; read = [] }
    ]
walk p i run (slots ∷ below) =
    elim (tell p run) [
      | decided b ↦ record { is_held = b; decider = i; read = [] }
      | follow q ↦
          let rest = walk p (suc i) (page_of slots q) below in
          record { is_held = rest.is_held; decider = rest.decider; read = q ∷ rest.read }
      | nothing ↦ record { is_held = false; decider = suc (suc i) + length below; read = [] }
    ]

unfoldable pub ask : Pair → List (List Slot) → Answer
ask p [] = record { is_held = false; decider = 0; read = [] }
ask p (head ∷ lower) = walk p 0 head lower
