-- What each call adds to the progress of those made so far. Assumes nothing.
use Rattle.std.specs.Prelude.{ℕ, ◌+◌, ◌≤◌, ◌≡◌, refl, Bool, List, get_or, Result}
use Rattle.std.proofs.Common.{add-zero, arith, ◌∙◌}
use Rattle.std.proofs.Math.Path.{sym, ap}
use borrow.Author.Tests.{ne_eqb}
use Rattle.slot.specs.declared.Pair.{Pair}
use Rattle.rules.specs.Merging.{entries}
use Rattle.rules.specs.Sound.{tree_of}
use Rattle.geometry.specs.Directory.{geometry_of}
use Rattle.opening.specs.Reply.{Reply, replied}
use Rattle.call_put.specs.declared.Changed.{Changed}
use Rattle.walk.specs.declared.Found.{Found}
use Rattle.opening.specs.declared.Refusal.{Refusal}
use Rattle.call_ask.specs.Ask.{ask_reply, ask_of}
use Rattle.call_put.specs.Edit.{Kept, edited_reply, edit_reply, edit_of, put_of, drop_of}
use Rattle.reading.specs.declared.Operation.{Operation}
use Rattle.reading.specs.declared.Operation.TheVariants.{Put, Drop, Ask}
use Rattle.reading.specs.declared.Request.{Request}
use Rattle.sheet_calls.specs.declared.Progress.{Progress}
use Rattle.sheet_calls.specs.Calls.{Made, pages_in, changing, held_number, called, made}
use Rattle.sheet_calls.specs.Counts.{edit_leaves}
use Rattle.sheet_calls.specs.Answers.{counts_after, counts_stay}

-- The progress after a call that changed nothing.
abbrev pub only_told : ℕ → Progress → Progress
only_told number progress = record { told = number; pages = progress.pages; entries = progress.entries }

-- What the progress is after a put or drop with this reply and these counts.
pub record Changing (reply : Reply) (counts : List ℕ) (progress r : Progress) : Type 0 where
  pub told : r.told ≡ reply.number
  pub small : r.told ≤ 14
  pub pages : r.pages ≡ progress.pages + pages_in reply
  pub few : r.pages ≤ progress.pages + 4294967295
  pub counted : r.entries ≡ counts_after reply counts progress.entries

module _ (reply : Reply) (counts : List ℕ) (progress r : Progress) (number : ℕ) (values : List ℕ) (told : replied number values ≡ reply) where
  its_number : reply.number ≡ number
  its_number = ap (λ (x : Reply). x.number) (sym told)

  its_values : reply.values ≡ values
  its_values = ap (λ (x : Reply). x.values) (sym told)

  pub accepts : number ≡ 0 → get_or values 2 0 ≤ 4294967295 → r ≡ record { told = 0; pages = progress.pages + get_or values 2 0; entries = counts } →
      Changing reply counts progress r
  unfolding pages_in
  accepts z h t = rw t (record {
    told = sym (its_number ∙ z);
    small = omega arith;
    pages = rw (its_number, z, its_values) refl;
    few = omega arith;
    counted = rw (its_number, z) refl;
  })

  pub refuses : (number ≡ 0 → ⊥) → number ≤ 14 → r ≡ only_told number progress → Changing reply counts progress r
  unfolding pages_in
  refuses z small t = rw t (record {
    told = sym its_number;
    small = small;
    pages = rw (its_number, ne_eqb number 0 z) (sym (add-zero progress.pages));
    few = omega arith;
    counted = rw (its_number, ne_eqb number 0 z) refl;
  })

-- The counts in a progress are those of the store as it stands.
abbrev pub Counted : Progress → List ℕ → Type 0
Counted progress store = progress.entries ≡ entries (tree_of (geometry_of store) store)

-- What the progress, the store and the work area are after the call that a request asks for.
pub record Calling (m : Made) (store : List ℕ) (progress : Progress) (store' work' : List ℕ) (r : Progress) : Type 0 where
  pub told : r.told ≡ m.told
  pub small : r.told ≤ 14
  pub pages : r.pages ≡ progress.pages + m.pages
  pub few : r.pages ≤ progress.pages + 4294967295
  pub store_left : store' ≡ m.store
  pub work_left : work' ≡ m.work
  pub counted : Counted r store'
  pub geometry : geometry_of store' ≡ geometry_of store

module _ (store work : List ℕ) (progress : Progress) (counted : Counted progress store) (r : Progress) where
  pub change_called : (normal : Bool) (p : Pair) (changed : Changed) (store' work' : List ℕ) →
      edit_reply changed.answer changed.entries store' work' ≡ edit_of store work normal p →
      Changing (edited_reply changed.answer changed.entries) changed.entries progress r →
      Calling (changing (edit_of store work normal p)) store progress store' work' r
  unfolding changing
  change_called normal p changed store' work' e c =
      let k : Kept = edit_of store work normal p in
      let reply : edited_reply changed.answer changed.entries ≡ k.reply = ap (λ (x : Kept). x.reply) e in
      let stays = counts_stay store changed.entries progress.entries store' work' k counted changed.answer e (edit_leaves store work normal p) in
      record {
        told = c.told ∙ ap (λ (x : Reply). x.number) reply;
        small = c.small;
        pages = c.pages ∙ ap (λ (x : Reply). progress.pages + pages_in x) reply;
        few = c.few;
        store_left = ap (λ (x : Kept). x.store) e;
        work_left = ap (λ (x : Kept). x.work) e;
        counted = c.counted ∙ ap (λ (x : Reply). counts_after x changed.entries progress.entries) reply ∙ stays.0 ∙ rw stays.1;
        geometry = stays.1;
      }

  pub ask_called : (p : Pair) (a : Result Found Refusal) {held : ℕ} → ask_reply a ≡ ask_of store p → (held ≡ held_number (ask_reply a)) × (held ≤ 1) → r ≡ only_told held progress →
      Calling (record { told = held_number (ask_of store p); store = store; work = work; pages = 0 }) store progress store work r
  ask_called p a {held} e h t = rw t (record {
    told = h.0 ∙ ap held_number e;
    small = omega (arith, h.1);
    pages = sym (add-zero progress.pages);
    few = omega arith;
    store_left = refl;
    work_left = refl;
    counted = counted;
    geometry = refl;
  })

-- The call that a request asks for, by its operation.
module _ (r : Request) (w work : List ℕ) where
  pub put_made : r.operation ≡ Put → made r w work ≡ changing (put_of w work r.pair)
  unfolding made
  put_made e = ap (λ (op : Operation). called op r.pair w work) e

  pub drop_made : r.operation ≡ Drop → made r w work ≡ changing (drop_of w work r.pair)
  unfolding made
  drop_made e = ap (λ (op : Operation). called op r.pair w work) e

  pub ask_made : r.operation ≡ Ask → made r w work ≡ record { told = held_number (ask_of w r.pair); store = w; work = work; pages = 0 }
  unfolding made
  ask_made e = ap (λ (op : Operation). called op r.pair w work) e
