-- `landing_store_words` gives the words of the geometry that its numbers are. Assumes nothing.
use mathlib.Core.Path.{ap, ◌∙◌}
use Rattle.geometry.specs.Places.{store_words}
use Rattle.landing.specs.Numbers.{words_for}
use borrow.Author.Rules.{rules}
use Rattle.landing.proofs.landing_store_words.Goals as goal

pub returns : goal.returns
returns c = c.lengths_of-lengths.ensures.0 ∙ ap (words_for store_words) c.geometry_from.ensures
