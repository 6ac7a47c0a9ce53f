-- `landing_work_words` gives the words of the geometry that its numbers are. Assumes nothing.
use mathlib.Core.Path.{ap, ◌∙◌}
use Rattle.geometry.specs.Places.{work_words}
use Rattle.landing.specs.Numbers.{words_for}
use borrow.Author.Rules.{rules}
use Rattle.landing.proofs.landing_work_words.Goals as goal

pub returns : goal.returns
returns c = c.lengths_of-lengths.ensures.1 ∙ ap (words_for work_words) c.geometry_from.ensures
