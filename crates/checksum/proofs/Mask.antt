-- THEOREM: the page's terms are the mask that 01 prints.
use mathlib.Core.Path.{◌≡◌, refl}
use Rattle.checksum.specs.Checksum.{terms, ones}

pub mask_is : ones terms ≡ 0xD20D8A81
mask_is = refl
