-- Conditions 2 and 3, over any list of calls from a formatted store of any in-range geometry: any call, format too, with any arguments and any lent
-- lengths. Each definition is the paper's (crates/rules), a call's own promise (crates/index), or a few lines in Calls, Lengths, Plain, Seen, Ruled
-- and Reports. Assumes nothing.
use Rattle.std.specs.Prelude.{ℕ, ◌≤◌, ◌≡◌, refl, true, List, [], ◌∷◌, map, length, take}
use Rattle.laws.specs.Lists.{all}
use Rattle.geometry.specs.declared.Geometry.{Geometry}
use Rattle.geometry.specs.Geometry.{InRange, most}
use Rattle.geometry.specs.Places.{store_words, work_words}
use Rattle.slot.specs.declared.Pair.{Pair}
use Rattle.slot.specs.Pair.{Words}
use Rattle.rules.specs.Level.{slots_of}
use Rattle.rules.specs.Finding.{ask}
use Rattle.rules.specs.Merging.{State, formatted}
use Rattle.rules.specs.Store.{writing}
use Rattle.rules.specs.Requests.{Request, step, pair_in}
use Rattle.rules.specs.Allowance.{allowed}
use Rattle.walk.specs.Trail.{trail, pages_below}
use Rattle.call_check.specs.Check.{check_of}
use Rattle.call_why.specs.Why.{why_lines}
use Rattle.trails.specs.Topmost.{Topmost}
use Rattle.trails.proofs.Topmost.{topmost, trail_reads}
use Rattle.conditions.specs.Calls.{Call, CallsFit, change_on, Made, make, history, words_after}
use Rattle.conditions.specs.Lengths.{geometry_after}
use Rattle.conditions.specs.Plain.{answers, set_after}
use Rattle.conditions.specs.Seen.{seen}
use Rattle.conditions.specs.Ruled.{state_after, pages_written}
use Rattle.conditions.specs.Reports.{pages_reported, none_yet, since_format}
use Rattle.conditions.specs.Edited.{kept_by}
use Rattle.conditions.proofs.Edited.{change_kept}
use Rattle.conditions.specs.Opened.{why_lines_written}
use Rattle.conditions.specs.Stands.{stands_first, stands_sound, stands_most}
use Rattle.conditions.specs.Sequences.{AllAgree}
use Rattle.conditions.proofs.Sequences.{calls_agree}
use Rattle.conditions.specs.Accounts.{none_accounts, accounts_allowed}
use Rattle.conditions.proofs.Accounts.{calls_account}
use Rattle.conditions.specs.Numbers.{no_fault, no_faults}
use Rattle.conditions.specs.Formatted.{format_call, format_makes, format_stands, format_long}

-- Any words with room for the store, formatted, and any calls on them.
module _ (g : Geometry) (fit : InRange g) (before : List ℕ) (room : store_words g ≤ length before) (cs : List Call)
    (fits : CallsFit (length before) cs) where
  abbrev begun : List ℕ
  begun = (make (format_call g) before).words

  abbrev made : List Made
  made = history begun cs

  -- After them: the geometry in force, the plain set, the state that the rules give, and the store, which is the first of the caller's words.
  abbrev in_force : Geometry
  in_force = geometry_after g cs

  abbrev pairs : List Pair
  pairs = set_after g [] cs

  abbrev state : State
  state = state_after g (formatted g) cs

  abbrev store : List ℕ
  store = take (store_words in_force) (words_after begun made)

  -- The format is done.
  pub format_accepted : (make (format_call g) before).reply ≡ record { number = 0; values = 0 ∷ [] }
  format_accepted = rw (format_makes g fit before room) refl

  all_fit : CallsFit (length begun) cs
  all_fit = rw (format_long g fit before room) fits

  agree : AllAgree g (formatted g) [] begun cs
  agree = calls_agree cs g (formatted g) [] begun (format_stands g fit before room) all_fit

  -- Condition 2. The answers are those of a plain set of pairs with put, drop, ask and list in order, ..
  pub answers_of_the_set : seen made ≡ answers g [] cs
  answers_of_the_set = agree.answered

  -- .. no larger than M. None is a fault.
  pub set_at_most : length pairs ≤ most in_force
  set_at_most = stands_most in_force state pairs (words_after begun made) agree.after

  pub never_a_fault : all (λ m. no_fault m.reply.number) made ≡ true
  never_a_fault = no_faults made g [] cs answers_of_the_set

  -- The store is word by word the writing of the tree that the merge rules give.
  pub store_is_the_writing : store ≡ writing in_force state
  store_is_the_writing = stands_first in_force state pairs (words_after begun made) agree.after

  -- It stays sound: check is done on it.
  pub store_sound : check_of store ≡ record { number = 0; values = 0 ∷ 0 ∷ 0 ∷ [] }
  store_sound = rw store_is_the_writing (stands_sound in_force state pairs (words_after begun made) agree.after)

  -- A put or drop on it replies as the rules do, with all their values, and leaves every word of store and work area as they say.
  pub change_by_the_rules : (r : Request) (work : List ℕ) → Words (pair_in r) → length work ≡ work_words in_force →
      change_on r store work ≡ kept_by in_force (step in_force r state) work
  change_by_the_rules r work pair exact =
      rw store_is_the_writing (change_kept in_force agree.after.in_range_lem state agree.after.holds.good work exact r pair)

  -- A why on it ends at the topmost entry of its pair in that tree, which is the entry that the walk of the rules meets first, and reads the pages that
  -- that walk reads.
  pub why_ends_at_the_topmost : (p : Pair) → Topmost in_force state p
  why_ends_at_the_topmost p = topmost in_force state p agree.after.in_range_lem agree.after.holds.good

  pub why_lines_by_the_rules : (p : Pair) → why_lines store p ≡ trail in_force (writing in_force state) p
  why_lines_by_the_rules p = rw store_is_the_writing (why_lines_written in_force agree.after.in_range_lem state agree.after.holds.good p)

  pub why_reads_by_the_rules : (p : Pair) → pages_below (why_lines store p) ≡ (ask p (slots_of state.tree)).read
  why_reads_by_the_rules p =
      rw (why_lines_by_the_rules p) (trail_reads in_force state p agree.after.in_range_lem agree.after.holds.good)

  -- Condition 3. The sum of the pages reported is at most what is allowed to the number of puts and drops accepted, both counted since the last format.
  pub pages_allowed : (since_format none_yet made).pages ≤ allowed in_force (since_format none_yet made).accepted
  pages_allowed =
      accounts_allowed in_force state (since_format none_yet made) agree.after.in_range_lem
      (calls_account cs g (formatted g) [] begun none_yet (format_stands g fit before room) all_fit (none_accounts g))

  -- The number that each call reports is that of the pages that the merge rules write.
  pub pages_by_the_rules : pages_reported made ≡ map length (pages_written g (formatted g) cs)
  pages_by_the_rules = agree.pages
