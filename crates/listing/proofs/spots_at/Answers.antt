-- `spots_at` moves four spots from the beginning on. Assumes nothing.
use Rattle.std.proofs.Common.{rules, ◌≡◌, ap, ◌∙◌}
use Rattle.entries.specs.Four.{Spots}
use Rattle.entries.specs.Skip.{skip_all}
use Rattle.entries.specs.Spot.{upcomings_all}
use Rattle.listing.proofs.spots_at.Goals as goal

pub returns : goal.returns
returns c =
    let a = c.args in
    let begun : ◌≡◌ {A = Spots} c.map.result (record { head = 0; first = 0; second = 0; third = 0 }) = search rules in record {
      told = c.spots_from.ensures.told ∙ ap (skip_all a.pair) (upcomings_all a.words.now a.runs _ begun);
      standing = c.spots_from.ensures.standing;
    }
