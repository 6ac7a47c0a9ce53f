-- The paper's section "The sheet program": what the calls of a sheet come to. Assumes nothing.
use Rattle.std.specs.Prelude.{ℕ, cond, List, get_or, replicate, eqb}
use Rattle.geometry.specs.declared.Geometry.{Geometry}
use Rattle.geometry.specs.Places.{store_words, work_words}
use Rattle.slot.specs.declared.Pair.{Pair}
use Rattle.opening.specs.Reply.{Reply}
use Rattle.call_ask.specs.Ask.{ask_of}
use Rattle.call_put.specs.Edit.{Kept, put_of, drop_of}
use Rattle.call_format.specs.Format.{format_of}
use Rattle.reading.specs.declared.Operation.{Operation}
use Rattle.reading.specs.declared.Operation.TheVariants.{Put, Drop, Ask}
use Rattle.reading.specs.declared.Request.{Request}

-- What a call comes to: the number that its line tells, the store and the work area after it, and the pages that it wrote.
pub record Made : Type 0 where
  pub told : ℕ
  pub store : List ℕ
  pub work : List ℕ
  pub pages : ℕ

-- The pages that a put or drop wrote: the third value of an accepted one, and none of a refused one.
unfoldable pub pages_in : Reply → ℕ
pages_in r = cond (eqb r.number 0) (get_or r.values 2 0) 0

-- Put and drop tell the reply number.
unfoldable pub changing : Kept → Made
changing k = record { told = k.reply.number; store = k.store; work = k.work; pages = pages_in k.reply }

-- Ask tells 1 held or 0 not.
unfoldable pub held_number : Reply → ℕ
held_number r = cond (eqb r.number 0) (get_or r.values 0 0) 0

abbrev pub called : Operation → Pair → List ℕ → List ℕ → Made
called Put p w work = changing (put_of w work p)
called Drop p w work = changing (drop_of w work p)
called Ask p w work = record { told = held_number (ask_of w p); store = w; work = work; pages = 0 }

unfoldable pub made : Request → List ℕ → List ℕ → Made
made r w work = called r.operation r.pair w work

-- The first store is a formatted one, and the first work area holds zeros.
unfoldable pub first_store : Geometry → List ℕ
first_store g = (format_of (replicate (store_words g) 0) g).words

unfoldable pub first_work : Geometry → List ℕ
first_work g = replicate (work_words g) 0
