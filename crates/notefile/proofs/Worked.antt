-- The full blocks of 127 and of 128 documents.
use mathlib.Core.Path.{◌≡◌}
use Rattle.notefile.specs.Lists.{full_blocks, tail_size}
use Rattle.notefile.specs.declared.part.Part.{Part}

-- on `skip.rs`: 127 documents are a tail alone, 128 a full block alone
pub count-127 : (x : Part) → x.count ≡ 127 → (full_blocks x ≡ 0) × (tail_size x ≡ 127)
count-127 x e = (rw e, rw e)

pub count-128 : (x : Part) → x.count ≡ 128 → (full_blocks x ≡ 1) × (tail_size x ≡ 0)
count-128 x e = (rw e, rw e)
