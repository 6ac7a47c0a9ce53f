-- The tests after the walk as the code makes them, and what they tell of put and drop. Assumes nothing.
use Rattle.std.specs.Prelude.{ℕ, ◌≤◌, ◌<◌, ◌≡◌, Bool, List, [], ◌∷◌, get_or, ltb, eqb, Result, ⊤, Ok, Err}
use Rattle.std.proofs.Common.{arith, sym, ap, ◌∙◌, true≢false}
use Rattle.std.proofs.Math.Path.{refl}
use Rattle.std.proofs.Math.Bool.{true, false}
use borrow.Author.Tests.{ltb-true, lt-ltb, le-ltb}
use Rattle.fault.specs.declared.Fault.{Fault as FaultOf}
use Rattle.fault.specs.declared.Part.TheVariants.{Kinds}
use Rattle.fault.specs.Numbers.{no_place}
use Rattle.opening.specs.Reply.{fault_number}
use Rattle.geometry.specs.declared.Geometry.{Geometry}
use Rattle.geometry.specs.Geometry.{most}
use Rattle.geometry.specs.Places.{live_word}
use Rattle.slot.specs.declared.Pair.{Pair}
use Rattle.geometry.specs.Directory.{geometry_of}
use Rattle.walk.specs.Walked.{found}
use Rattle.walk.specs.Walk.{walked}
use Rattle.change.specs.Change.{change_of}
use Rattle.change.specs.Head.{Accepted}
use Rattle.geometry.specs.declared.Store.{Store}
use Rattle.walk.specs.declared.Found.{Found}
use Rattle.opening.specs.Opening.{OpensBoth}
use Rattle.call_put.specs.declared.EditRefusal.{EditRefusal}
use Rattle.call_put.specs.declared.EditRefusal.TheVariants.{Fault, Held, Missing, Full}
use Rattle.call_put.specs.Edit.{Kept, kept, edit_reply, edit_answered, edit_of, edit_opened, walk_found, zeros, faulty, changed_reply, put_found, drop_found, found_of}

-- A put of a held pair is refused, and then one with live = M.
unfoldable pub put_tested : Bool → ℕ → ℕ → Result ⊤ EditRefusal
put_tested held live most = elim held [ true ↦ Err Held | false ↦ elim (ltb live most) [ true ↦ Ok tt | false ↦ Err Full ] ]

-- A drop of a pair not held is refused, and then one with live = 0, as a fault of kinds without a place.
unfoldable pub drop_tested : Bool → ℕ → Result ⊤ EditRefusal
drop_tested held live =
    elim held [ true ↦ elim (ltb 0 live) [ true ↦ Ok tt | false ↦ Err (Fault (no_place Kinds)) ] | false ↦ Err Missing ]

unfoldable pub tested_of : Geometry → List ℕ → Bool → Bool → Result ⊤ EditRefusal
tested_of g w true held = put_tested held (get_or w live_word 0) (most g)
tested_of g w false held = drop_tested held (get_or w live_word 0)

-- By what the code tests.
module _ (held : Bool) (live most : ℕ) where
  pub put_held : held ≡ true → Err Held ≡ put_tested held live most
  unfolding put_tested
  put_held h = rw h

  module _ (h : held ≡ false) where
    pub put_full : most ≤ live → Err Full ≡ put_tested held live most
    unfolding put_tested
    put_full f = rw (h, le-ltb live most f, put_tested)

    pub put_fits : live < most → Ok tt ≡ put_tested held live most
    unfolding put_tested
    put_fits f = rw (h, lt-ltb live most f, put_tested)

module _ (held : Bool) (live : ℕ) where
  pub drop_missing : held ≡ false → Err Missing ≡ drop_tested held live
  unfolding drop_tested
  drop_missing h = rw h

  module _ (h : held ≡ true) where
    pub drop_none : live ≡ 0 → Err (Fault (no_place Kinds)) ≡ drop_tested held live
    unfolding drop_tested
    drop_none e = rw (h, le-ltb 0 live (omega (arith, e)), drop_tested)

    pub drop_some : (live ≡ 0 → ⊥) → Ok tt ≡ drop_tested held live
    unfolding drop_tested
    drop_some n = rw (h, lt-ltb 0 live (omega (arith, n)), drop_tested)

-- What put or drop gives of a pair that was found, by what the tests came to.
module _ (w work : List ℕ) (p : Pair) (level : ℕ) where
  abbrev changes : Bool → Kept
  changes normal = changed_reply (change_of (geometry_of w) (record { pair = p; normal = normal }) (eqb level 0) w work)

  abbrev by_tests : Bool → Result ⊤ EditRefusal → Kept
  by_tests normal (Ok tt) = changes normal
  by_tests normal (Err a) = edit_reply (Err a) (0 ∷ 0 ∷ 0 ∷ 0 ∷ []) w work

  tests_tell : (normal held : Bool) → by_tests normal (tested_of (geometry_of w) w normal held) ≡ found_of w work normal p held level
  unfolding tested_of put_tested drop_tested found_of put_found drop_found
  tests_tell true true = refl
  tests_tell true false = by (ltb (get_or w live_word 0) (most (geometry_of w)))
    where
      by : (b : Bool) → by_tests true (elim b as (λ _. Result ⊤ EditRefusal) [ true ↦ Ok tt | false ↦ Err Full ]) ≡
          elim b as (λ _. Kept) [ true ↦ changes true | false ↦ kept 4 zeros w work ]
      by true = refl
      by false = refl
  tests_tell false false = refl
  tests_tell false true = by (ltb 0 (get_or w live_word 0))
    where
      none : FaultOf
      none = no_place Kinds

      by : (b : Bool) → by_tests false (elim b as (λ _. Result ⊤ EditRefusal) [ true ↦ Ok tt | false ↦ Err (Fault none) ]) ≡
          elim b as (λ _. Kept) [ true ↦ changes false | false ↦ kept (fault_number none) (faulty none) w work ]
      by true = refl
      by false = refl

  -- For the store's geometry, and what the tests found.
  module _ (g : Geometry) (stored : g ≡ geometry_of w) (normal held : Bool) where
    pub tests_refuse : {a : EditRefusal} → tested_of g w normal held ≡ Err a → edit_reply (Err a) (0 ∷ 0 ∷ 0 ∷ 0 ∷ []) w work ≡ found_of w work normal p held level
    tests_refuse e = sym (ap (by_tests normal) (rw stored at e)) ∙ tests_tell normal held

    pub tests_pass : tested_of g w normal held ≡ Ok tt →
        changed_reply (change_of g (record { pair = p; normal = normal }) (eqb level 0) w work) ≡ found_of w work normal p held level
    tests_pass e = rw stored (sym (ap (by_tests normal) (rw stored at e)) ∙ tests_tell normal held)

not_passed : (a : EditRefusal) → ◌≡◌ {A = Result ⊤ EditRefusal} (Err a) (Ok tt) → ⊥
not_passed a e = let z : ◌≡◌ {A = ℕ} 0 1 = cc in omega arith

-- Tests that pass accept the change.
pub tests_accept : (g : Geometry) (w : List ℕ) (p : Pair) (level : ℕ) → geometry_of w ≡ g → (normal held : Bool) → tested_of g w normal held ≡ Ok tt →
    walked g w p ≡ found held level → Accepted g w (record { pair = p; normal = normal }) level
unfolding tested_of put_tested drop_tested
tests_accept g w p level stored true true e walks = absurd (not_passed Held e)
tests_accept g w p level stored true false e walks = by (ltb (get_or w live_word 0) (most g)) refl e
  where
    by : (b : Bool) → ltb (get_or w live_word 0) (most g) ≡ b → elim b as (λ _. Result ⊤ EditRefusal) [ true ↦ Ok tt | false ↦ Err Full ] ≡ Ok tt →
        Accepted g w (record { pair = p; normal = true }) level
    by true h q = record { stored = stored; walks = walks; room = λ n. ltb-true (get_or w live_word 0) (most g) h; some = λ n. absurd (true≢false n) }
    by false h q = absurd (not_passed Full q)
tests_accept g w p level stored false false e walks = absurd (not_passed Missing e)
tests_accept g w p level stored false true e walks = by (ltb 0 (get_or w live_word 0)) refl e
  where
    by : (b : Bool) → ltb 0 (get_or w live_word 0) ≡ b → elim b as (λ _. Result ⊤ EditRefusal) [ true ↦ Ok tt | false ↦ Err (Fault (no_place Kinds)) ] ≡ Ok tt →
        Accepted g w (record { pair = p; normal = false }) level
    by true h q = record { stored = stored; walks = walks; room = λ n. absurd (true≢false (sym n)); some = λ n. ltb-true 0 (get_or w live_word 0) h }
    by false h q = absurd (not_passed (Fault (no_place Kinds)) q)

-- A put or drop of an open store, by what the walk found and the tests came to.
module _ (w work : List ℕ) (p : Pair) (normal : Bool) (s : Store) (o : OpensBoth w work (Ok s)) (f : Found) (walks : walked s.geometry s.words.now p ≡ Ok f) where
  found_tells : found_of w work normal p f.held f.level ≡ edit_of w work normal p
  found_tells = walk_found w work normal p walks ∙ edit_opened w work normal p s o

  pub edit_refuses : {a : EditRefusal} → tested_of s.geometry s.words.now normal f.held ≡ Err a → edit_answered (Err a) w work ≡ edit_of w work normal p
  edit_refuses e = tests_refuse w work p f.level s.geometry o.2.1 normal f.held (rw o.2.2 at e) ∙ found_tells

  pub edit_changes : tested_of s.geometry s.words.now normal f.held ≡ Ok tt →
      changed_reply (change_of s.geometry (record { pair = p; normal = normal }) (eqb f.level 0) w work) ≡ edit_of w work normal p
  edit_changes e = tests_pass w work p f.level s.geometry o.2.1 normal f.held (rw o.2.2 at e) ∙ found_tells

  pub edit_accepts : tested_of s.geometry s.words.now normal f.held ≡ Ok tt → Accepted s.geometry w (record { pair = p; normal = normal }) f.level
  edit_accepts e = tests_accept s.geometry w p f.level (sym o.2.1) normal f.held (rw o.2.2 at e) (rw o.2.2 at walks)
