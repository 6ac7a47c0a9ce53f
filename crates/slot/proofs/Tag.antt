-- Tag = 4 × page number + kind, made and taken apart, with the round trip. Assumes nothing.
use Rattle.std.specs.Prelude.{◌≡◌, refl}
use Rattle.slot.specs.declared.Kind.TheVariants.{External}
use Rattle.slot.specs.Tag.{page_back, page_of, tag_of}

-- The bench table's case 9: a fence to page 300 has tag 1202, and reads back as 300.
pub page_300 : (tag_of External (record { 0 = 300 }) ≡ 1202) × (page_of 1202 ≡ record { 0 = 300 })
unfolding tag_of page_of
page_300 = (refl, page_back External (record { 0 = 300 }))
