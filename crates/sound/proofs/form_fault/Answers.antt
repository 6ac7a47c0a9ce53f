-- `form_fault` goes over a level's pages. Assumes nothing.
use Prim.Native.Nat.{◌<◌}
use native.Mathlib.Nat.{sub-zero}
use mathlib.Core.Path.{◌≡◌, sym, ap, ◌∙◌}
use Rattle.std.specs.Prelude.{Err}
use Rattle.geometry.specs.declared.LevelPlace.{LevelPlace}
use Rattle.geometry.specs.Directory.{pages_of, place_pages}
use Rattle.rules.specs.Faults.{unless, page_fault}
use Rattle.rules.specs.Directed.{pages_most}
use Rattle.form.specs.Passes.{page_unflawed, page_flaw}
use Rattle.sound.specs.Levels.{page_tested, form_begins, test_passes, test_fails, tests_end, page_told}
use native.Mathlib.Omega.{arith}
use Rattle.sound.proofs.form_fault.Goals as goal

pub loop-p-init : goal.loop-p-init
loop-p-init c =
    let s = c.args.store.now in
    let g = s.geometry in
    let w = s.words.now in
    rw sub-zero (form_begins g w c.args.level)

pub page_at-at-requires : goal.page_at-at-requires
page_at-at-requires c =
    let s = c.args.store.now in
    let g = s.geometry in
    let w = s.words.now in
    let level = c.args.level in
    let loop = c.loop-p in
    let pages : c.level_place-own.result.pages ≡ pages_of g w level = ap (λ (q : LevelPlace). q.pages) c.level_place-own.ensures ∙ place_pages g w level in
    let h = c.requires.le_level in
    let fits = pages_most g w c.requires.store_value level h.0 (omega (arith, h.1, s.lent.in_range_lem.levels_most)) h.1 in
    (h.0, h.1, omega (arith, c.loop-p-test.true, pages, fits))

pub returns-in-Err : goal.returns-in-Err
returns-in-Err c =
    let s = c.args.store.now in
    let g = s.geometry in
    let w = s.words.now in
    let level = c.args.level in
    let loop = c.loop-p in
    let pages : c.level_place-own.result.pages ≡ pages_of g w level = ap (λ (q : LevelPlace). q.pages) c.level_place-own.ensures ∙ place_pages g w level in
    let below : loop.p < pages_of g w level = omega (arith, c.loop-p-test.true, pages) in
    let scan = c.page_scan-scan.ensures g level loop.p c.requires.le_level.1 c.page_at-at.ensures.exact in
    let fault = page_fault g w level loop.p in
    ap Err (c.at.ensures ∙ rw c.in-Err.is at (page_told g w _ level loop.p scan)) ∙
    sym (test_fails (page_tested g w level) loop.p _ fault below (ap (λ b. unless b fault) (page_flaw g w _ level loop.p scan c.in-Err.is).0)) ∙ loop.invariant

pub loop-p-preserved : goal.loop-p-preserved
loop-p-preserved c =
    let s = c.args.store.now in
    let g = s.geometry in
    let w = s.words.now in
    let level = c.args.level in
    let loop = c.loop-p in
    let pages : c.level_place-own.result.pages ≡ pages_of g w level = ap (λ (q : LevelPlace). q.pages) c.level_place-own.ensures ∙ place_pages g w level in
    let below : loop.p < pages_of g w level = omega (arith, c.loop-p-test.true, pages) in
    let scan = c.page_scan-scan.ensures g level loop.p c.requires.le_level.1 c.page_at-at.ensures.exact in
    let fault = page_fault g w level loop.p in
    sym (test_passes (page_tested g w level) loop.p _ below (ap (λ b. unless b fault) (page_unflawed g w _ level loop.p scan c.in_default.is))) ∙ loop.invariant

pub returns : goal.returns
returns c =
    let s = c.args.store.now in
    let g = s.geometry in
    let w = s.words.now in
    let level = c.args.level in
    let loop = c.loop-p in
    let pages : c.level_place-own.result.pages ≡ pages_of g w level = ap (λ (q : LevelPlace). q.pages) c.level_place-own.ensures ∙ place_pages g w level in
    sym (tests_end (page_tested g w level) loop.p _ (omega (arith, c.loop-p-test.false, pages))) ∙ loop.invariant
