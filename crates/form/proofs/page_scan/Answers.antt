-- `page_scan` gives what a pass over a page tells of it, its mark and its slot by `page_told`. Assumes nothing.
use Rattle.geometry.specs.Apart.{first_slot}
use Rattle.rules.specs.Sound.{count_at, page_slots}
use Rattle.form.specs.Passes.{page_at, page_told}
use Rattle.form.proofs.page_scan.Goals as goal

pub returns : goal.returns
unfolding page_at page_slots count_at
returns c =
    let a = c.args in
    λ g i p h e.
    page_told g a.words.now a.asked i p h (rw (c.marked_slot.ensures, c.both.ensures, c.count_right-fits.ensures, c.scan_page-scan.ensures, c.min.ensures, e, first_slot g i p))
