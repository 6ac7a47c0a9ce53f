-- Any calls on a store, one after another, as crates/index gives each of them on any words. Assumes nothing.
use Rattle.std.specs.Prelude.{ℕ, ◌≤◌, List, [], ◌∷◌, ◌++◌, take, drop}
use Rattle.geometry.specs.declared.Geometry.{Geometry}
use Rattle.slot.specs.declared.Pair.{Pair}
use Rattle.slot.specs.Pair.{Words}
use Rattle.rules.specs.Requests.{Request, putting, dropping, pair_in}
use Rattle.opening.specs.Reply.{Reply}
use Rattle.call_ask.specs.Ask.{ask_of}
use Rattle.call_why.specs.Why.{why_of}
use Rattle.call_check.specs.Check.{check_of}
use Rattle.call_check.specs.List.{list_of}
use Rattle.call_format.specs.Format.{format_of}
use Rattle.call_put.specs.Edit.{Kept, put_of, drop_of}

-- What a call is asked, with the words lent to it beside the store: a work area for a put or drop, a slice for list.
pub data Task : Type 0 where
  formatting : Geometry → Task
  changing : Request → List ℕ → Task
  asking : Pair → Task
  explaining : Pair → Task
  listing : Pair → Pair → List ℕ → Task
  checking : Task

-- The caller has words with the store first in them, and lends a call the first `lent` of them.
pub record Call : Type 0 where
  pub lent : ℕ
  pub task : Task

-- The badge and floor of a put or drop are words, as every call's are, and no more is lent than there is.
unfoldable pub TaskFits : Task → Type 0
TaskFits (formatting g) = Unit {0}
TaskFits (changing r work) = Words (pair_in r)
TaskFits (asking p) = Unit {0}
TaskFits (explaining p) = Unit {0}
TaskFits (listing first second slice) = Unit {0}
TaskFits checking = Unit {0}

unfoldable pub CallsFit : ℕ → List Call → Type 0
CallsFit n [] = Unit {0}
CallsFit n (c ∷ cs) = ((c.lent ≤ n) × TaskFits c.task) × CallsFit n cs

-- A call on the words lent: its reply, and the words of the store and those lent beside it afterwards.
pub record Comes : Type 0 where
  pub reply : Reply
  pub store : List ℕ
  pub beside : List ℕ

unfoldable pub change_on : Request → List ℕ → List ℕ → Kept
change_on (putting p) w work = put_of w work p
change_on (dropping p) w work = drop_of w work p

unfoldable pub comes_to : Task → List ℕ → Comes
comes_to (formatting g) w = let f = format_of w g in record { reply = f.reply; store = f.words; beside = [] }
comes_to (changing r work) w = let k = change_on r w work in record { reply = k.reply; store = k.store; beside = k.work }
comes_to (asking p) w = record { reply = ask_of w p; store = w; beside = [] }
comes_to (explaining p) w = record { reply = why_of w p; store = w; beside = [] }
comes_to (listing first second slice) w = let f = list_of w first second slice in record { reply = f.reply; store = w; beside = f.words }
comes_to checking w = record { reply = check_of w; store = w; beside = [] }

-- A call that was made: its task, its reply, all the caller's words afterwards, and those lent beside them.
pub record Made : Type 0 where
  pub task : Task
  pub reply : Reply
  pub words : List ℕ
  pub beside : List ℕ

unfoldable pub make : Call → List ℕ → Made
make c words =
    let r = comes_to c.task (take c.lent words) in
    record { task = c.task; reply = r.reply; words = r.store ++ drop c.lent words; beside = r.beside }

unfoldable pub history : List ℕ → List Call → List Made
history words [] = []
history words (c ∷ cs) = let m = make c words in m ∷ history m.words cs

-- The caller's words after the last of them.
unfoldable pub words_after : List ℕ → List Made → List ℕ
words_after words [] = words
words_after words (m ∷ ms) = words_after m.words ms
