-- The paper's section "Numbered replies, in order of test", call by call: the tests as a list in the paper's order, the two late ones included, and
-- what a refusal gives: its number, zeros but from 10 on the place of the fault first, and every lent word as it was. Assumes nothing.
use Rattle.std.specs.Prelude.{ℕ, zero, suc, Bool, true, false, not, cond, List, [], ◌∷◌, ◌++◌, get_or, ltb, leb, eqb}
use Rattle.geometry.specs.declared.Geometry.{Geometry}
use Rattle.geometry.specs.Geometry.{bottom, most}
use Rattle.geometry.specs.Places.{live_word}
use Rattle.slot.specs.declared.Pair.{Pair}
use Rattle.rules.specs.Listing.{list}
use Rattle.rules.specs.Store.{empty_store}
use Rattle.fault.specs.Judged.{Judged}
use Rattle.std.specs.Prelude.{Err, Ok}
use Rattle.fault.specs.declared.Part.TheVariants.{Kinds}
use Rattle.fault.specs.Numbers.{no_place}
use Rattle.rules.specs.Sound.{tree_of, directory_right, head_right, page_formed, page_right}
use Rattle.rules.specs.Faults.{unless, first_fault, form_faults, writing_faults, across_fault, fault}
use Rattle.geometry.specs.Directory.{geometry_of}
use Rattle.walk.specs.Walked.{Walked}
use Rattle.walk.specs.Stepping.{Step}
use Rattle.walk.specs.Stepping.{Decided, Follow, Nothing, Broken}
use Rattle.walk.specs.Step.{head_step, page_step}
use Rattle.walk.specs.Walk.{walked}
use Rattle.change.specs.Change.{fills_head, change_of}
use Rattle.opening.specs.Reply.{Reply, fault_values, Test, test, Filled, filled}
use Rattle.opening.specs.Opening.{open_tests, both_tests}
use Rattle.call_check.specs.List.{listed_reply}
use Rattle.call_put.specs.Edit.{Kept, kept}

-- What is tested ----------------------------------------------------------------------------------------------------------------------------

-- What the walk gives: its fault or none, whether the pair is held, and the deciding level.
abbrev pub fault_of : Walked → Judged
fault_of (Ok f) = Ok tt
fault_of (Err fault) = Err fault

abbrev pub held_by : Walked → Bool
held_by (Ok f) = f.held
held_by (Err fault) = false

abbrev pub decider : Walked → ℕ
decider (Ok f) = f.level
decider (Err fault) = 0

module _ (w : List ℕ) where
  abbrev g : Geometry
  g = geometry_of w

  abbrev live : ℕ
  live = get_or w live_word 0

  -- List and check test the whole store.
  unfoldable pub whole_fault : Judged
  whole_fault = fault g w

  -- Live pairs below M, for a put; above none, for a drop, else a fault of live without a place.
  unfoldable pub below_most : Bool
  below_most = ltb live (most g)

  unfoldable pub some_live : Bool
  some_live = ltb 0 live

  module _ (p : Pair) where
    -- Put, drop and ask look at the directory, the head and each page walked.
    unfoldable pub walked_fault : Judged
    walked_fault = fault_of (walked g w p)

    unfoldable pub pair_held : Bool
    pair_held = held_by (walked g w p)

    -- Put and drop would merge: the head has no entry of the pair to remove, and with one more it has H.
    unfoldable pub would_merge : Bool
    would_merge = fills_head g w (eqb (decider (walked g w p)) 0)

    -- They test the whole store then.
    unfoldable pub merge_fault : Judged
    merge_fault = elim would_merge [ true ↦ whole_fault | false ↦ (Ok tt) ]

-- The order of tests ------------------------------------------------------------------------------------------------------------------------

-- A test of soundness passes where it finds no fault.
abbrev pub faultless : Judged → Bool
faultless (Ok tt) = true
faultless (Err f) = false

-- The whole store: the number decides first.
unfoldable pub whole_tests : List ℕ → List Test
whole_tests w =
    test (directory_right (geometry_of w) w) 10 ∷ test (head_right (geometry_of w) w) 11 ∷ test (faultless (form_faults (geometry_of w) w)) 12 ∷
    test (faultless (writing_faults (geometry_of w) w)) 13 ∷ test (faultless (across_fault (geometry_of w) w)) 14 ∷ []

-- A walk goes page by page, with n levels below level i, by what level i told: the form of a page and then its first slot, before the next page
-- is read.
unfoldable pub page_tests : Geometry → List ℕ → Pair → ℕ → ℕ → Step → List Test
page_tests g w p zero i step = []
page_tests g w p (suc n) i (Decided held) = []
page_tests g w p (suc n) i (Follow page) =
    test (page_formed g w (suc i) page.0) 12 ∷ test (page_right g w p (suc i) page.0) 13 ∷ page_tests g w p n (suc i) (page_step g w p (suc i) page.0)
page_tests g w p (suc n) i Nothing = []
page_tests g w p (suc n) i (Broken f) = []

unfoldable pub walk_tests : List ℕ → Pair → List Test
walk_tests w p =
    let g = geometry_of w in
    test (directory_right g w) 10 ∷ test (head_right g w) 11 ∷ page_tests g w p (bottom g) 0 (head_step g w p)

unfoldable pub merge_tests : List ℕ → Pair → List Test
merge_tests w p = elim (would_merge w p) [ true ↦ whole_tests w | false ↦ [] ]

unfoldable pub ask_tests : List ℕ → Pair → List Test
ask_tests w p = open_tests w ++ walk_tests w p

unfoldable pub check_tests : List ℕ → List Test
check_tests w = open_tests w ++ whole_tests w

unfoldable pub list_tests : List ℕ → List Test
list_tests w = open_tests w ++ whole_tests w

unfoldable pub put_tests : List ℕ → List ℕ → Pair → List Test
put_tests w work p = both_tests w work ++ (walk_tests w p ++ test (not (pair_held w p)) 2 ∷ test (below_most w) 4 ∷ merge_tests w p)

unfoldable pub drop_tests : List ℕ → List ℕ → Pair → List Test
drop_tests w work p = both_tests w work ++ (walk_tests w p ++ test (pair_held w p) 3 ∷ test (some_live w) 14 ∷ merge_tests w p)

-- The fault that is told, in the same order.
unfoldable pub put_fault : List ℕ → Pair → Judged
put_fault w p = first_fault (walked_fault w p ∷ merge_fault w p ∷ [])

unfoldable pub drop_fault : List ℕ → Pair → Judged
drop_fault w p = first_fault (walked_fault w p ∷ unless (some_live w) (no_place Kinds) ∷ merge_fault w p ∷ [])

-- What is done where every test passes, and what a refusal gives ------------------------------------------------------------------------

-- The first values of a refusal: zeros, but from 10 on the place of the fault.
abbrev pub judged_values : Judged → List ℕ
judged_values (Ok tt) = 0 ∷ 0 ∷ 0 ∷ []
judged_values (Err f) = fault_values f

unfoldable pub fault_told : ℕ → Judged → List ℕ
fault_told number j = elim (leb 10 number) [ true ↦ judged_values j | false ↦ 0 ∷ 0 ∷ 0 ∷ [] ]

unfoldable pub ask_done : List ℕ → Pair → Reply
ask_done w p = record { number = 0; values = cond (pair_held w p) 1 0 ∷ decider (walked (geometry_of w) w p) ∷ 0 ∷ [] }

unfoldable pub ask_refused : List ℕ → Pair → ℕ → Reply
ask_refused w p n = record { number = n; values = fault_told n (walked_fault w p) }

unfoldable pub check_done : Reply
check_done = record { number = 0; values = 0 ∷ 0 ∷ 0 ∷ [] }

unfoldable pub check_refused : List ℕ → ℕ → Reply
check_refused w n = record { number = n; values = fault_told n (whole_fault w) }

unfoldable pub list_done : List ℕ → Pair → Pair → List ℕ → Filled
list_done w first second slice = listed_reply (list first second (tree_of (geometry_of w) w) slice)

unfoldable pub list_refused : List ℕ → List ℕ → ℕ → Filled
list_refused w slice n = filled n (fault_told n (whole_fault w)) slice

unfoldable pub format_done : Geometry → Filled
format_done g = filled 0 (0 ∷ []) (empty_store g)

unfoldable pub format_refused : List ℕ → ℕ → Filled
format_refused w n = filled n (0 ∷ []) w

-- A put adds a normal entry, a drop a filter.
unfoldable pub edit_done : List ℕ → List ℕ → Bool → Pair → Kept
edit_done w work normal p =
    let c = change_of (geometry_of w) (record { pair = p; normal = normal }) (eqb (decider (walked (geometry_of w) w p)) 0) w work in
    kept 0 c.values c.store c.work

unfoldable pub edit_refused : List ℕ → List ℕ → Judged → ℕ → Kept
edit_refused w work j n = kept n (fault_told n j ++ 0 ∷ 0 ∷ 0 ∷ 0 ∷ []) w work
