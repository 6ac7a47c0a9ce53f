-- `page_look` gives what a page tells: its tests by `page_broken` and `page_first_broken`, its answer by `page_bottom` and `page_tells`.
-- Assumes nothing.
use Rattle.fault.specs.declared.Part.TheVariants.{Page}
use Prim.Native.Nat.{suc, ◌+◌, ◌<◌}
use native.Mathlib.Numerals.{add-one}
use mathlib.Core.Path.{◌≡◌, ap, sym, ◌∙◌}
use mathlib.Core.Logic.{◌≢◌}
use Rattle.form.specs.declared.PageRead.{PageRead}
use Rattle.form.specs.Passes.{page_unflawed, place_at}
use Rattle.walk.specs.Step.{bottom_within}
use Rattle.walk.specs.Read.{page_broken, page_reach_small, page_bottom, page_first_broken, page_first, page_some, page_tells, page_within}
use native.Mathlib.Omega.{arith}
use Rattle.walk.proofs.page_look.Goals as goal

pub tell_bottom-requires : goal.tell_bottom-requires
tell_bottom-requires c =
    let a = c.args in
    let s = a.store.now in
    let scan = c.page_scan-scan.ensures s.geometry a.level a.page.0 c.requires.1 c.page_at-at.ensures.exact in
    let formed = page_unflawed s.geometry s.words.now a.asked a.level a.page.0 scan c.in_default.is in
    omega (arith, ap (λ (r : PageRead). r.reach) scan, page_reach_small s.geometry s.words.now a.asked a.level a.page.0 formed, c.page_at-at.ensures.inside)

pub tell_above-requires : goal.tell_above-requires
tell_above-requires c =
    let a = c.args in
    let s = a.store.now in
    let scan = c.page_scan-scan.ensures s.geometry a.level a.page.0 c.requires.1 c.page_at-at.ensures.exact in
    let formed = page_unflawed s.geometry s.words.now a.asked a.level a.page.0 scan c.in_default.is in
    let place = place_at s.geometry s.words.now a.level a.page.0 c.page_at-at.ensures.exact in
    let d : a.level + 1 ≢ s.geometry.levels = c.if-level-store.false in
    let above : suc a.level < s.geometry.levels = omega (arith, c.requires.1) in
    let first = rw place at (sym c.is_first_right.ensures ∙ c.if-is_first_right.true) in record {
      le_reach = (
        rw scan (page_some s.geometry s.words.now a.asked a.level a.page.0 formed above first),
        omega (arith, ap (λ (r : PageRead). r.reach) scan, page_reach_small s.geometry s.words.now a.asked a.level a.page.0 formed, c.page_at-at.ensures.inside),
      );
      place_value = rw place (page_first s.geometry s.words.now a.asked a.level a.page.0 formed above first);
    }

pub returns-in-Err-clause-exact : goal.returns-in-Err-clause-exact
returns-in-Err-clause-exact c =
    let a = c.args in
    let s = a.store.now in
    let scan = c.page_scan-scan.ensures s.geometry a.level a.page.0 c.requires.1 c.page_at-at.ensures.exact in
    page_broken s.geometry s.words.now a.asked a.level a.page.0 scan c.in-Err.is

pub returns-then-level-store-clause-exact : goal.returns-then-level-store-clause-exact
returns-then-level-store-clause-exact c =
    let a = c.args in
    let s = a.store.now in
    let scan = c.page_scan-scan.ensures s.geometry a.level a.page.0 c.requires.1 c.page_at-at.ensures.exact in
    let formed = page_unflawed s.geometry s.words.now a.asked a.level a.page.0 scan c.in_default.is in
    let place = place_at s.geometry s.words.now a.level a.page.0 c.page_at-at.ensures.exact in
    let b : s.geometry.levels ≡ suc a.level = omega (arith, c.if-level-store.true) in
    c.tell_bottom.ensures Page a.level a.page.0 ∙ rw (scan, place) (page_bottom s.geometry s.words.now a.asked a.level a.page.0 formed b)

pub returns-then-level-store-clause-within : goal.returns-then-level-store-clause-within
returns-then-level-store-clause-within c = rw (c.tell_bottom.ensures Page c.args.level c.args.page.0) (bottom_within _ _ _ _ _)

pub returns-then-is_first_right-clause-exact : goal.returns-then-is_first_right-clause-exact
returns-then-is_first_right-clause-exact c =
    let a = c.args in
    let s = a.store.now in
    let scan = c.page_scan-scan.ensures s.geometry a.level a.page.0 c.requires.1 c.page_at-at.ensures.exact in
    let formed = page_unflawed s.geometry s.words.now a.asked a.level a.page.0 scan c.in_default.is in
    let place = place_at s.geometry s.words.now a.level a.page.0 c.page_at-at.ensures.exact in
    let d : a.level + 1 ≢ s.geometry.levels = c.if-level-store.false in
    let above : suc a.level < s.geometry.levels = omega (arith, c.requires.1) in
    let first = rw place at (sym c.is_first_right.ensures ∙ c.if-is_first_right.true) in
    c.tell_above.ensures Page a.level a.page.0 ∙ rw (scan, place) (page_tells s.geometry s.words.now a.asked a.level a.page.0 formed above first)

pub returns-then-is_first_right-clause-within : goal.returns-then-is_first_right-clause-within
returns-then-is_first_right-clause-within c =
    let a = c.args in
    let s = a.store.now in
    let scan = c.page_scan-scan.ensures s.geometry a.level a.page.0 c.requires.1 c.page_at-at.ensures.exact in
    let formed = page_unflawed s.geometry s.words.now a.asked a.level a.page.0 scan c.in_default.is in
    let place = place_at s.geometry s.words.now a.level a.page.0 c.page_at-at.ensures.exact in
    let d : a.level + 1 ≢ s.geometry.levels = c.if-level-store.false in
    let above : suc a.level < s.geometry.levels = omega (arith, c.requires.1) in
    let first = rw place at (sym c.is_first_right.ensures ∙ c.if-is_first_right.true) in
    rw (c.tell_above.ensures Page a.level a.page.0, scan, place, add-one a.level) (page_within s.geometry s.words.now a.asked a.level a.page.0 formed above first)

pub returns-else-is_first_right-clause-exact : goal.returns-else-is_first_right-clause-exact
returns-else-is_first_right-clause-exact c =
    let a = c.args in
    let s = a.store.now in
    let scan = c.page_scan-scan.ensures s.geometry a.level a.page.0 c.requires.1 c.page_at-at.ensures.exact in
    let formed = page_unflawed s.geometry s.words.now a.asked a.level a.page.0 scan c.in_default.is in
    let place = place_at s.geometry s.words.now a.level a.page.0 c.page_at-at.ensures.exact in
    let d : a.level + 1 ≢ s.geometry.levels = c.if-level-store.false in
    let above : suc a.level < s.geometry.levels = omega (arith, c.requires.1) in
    page_first_broken s.geometry s.words.now a.asked a.level a.page.0 formed above (rw place at (sym c.is_first_right.ensures ∙ c.if-is_first_right.false))
