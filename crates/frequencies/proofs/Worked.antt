-- Worked examples of the definition.
use Rattle.std.proofs.Common.{◌≡◌, ◌+◌, true, false, refl}
use Rattle.frequencies.specs.Frequencies.{freq_right}

pub range-ends : (freq_right 0 ≡ false) × (freq_right 1 ≡ true) × (freq_right 2013265944 ≡ true) × (freq_right 2013265945 ≡ false) × (freq_right (4294967295 + 1) ≡ false)
range-ends = (refl, refl, refl, refl, refl)
