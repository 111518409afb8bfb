-- Frequencies.
use Rattle.std.specs.Prelude.{ℕ, Bool, ◌&&◌, nat_le, nat_lt}
use Rattle.arrays.specs.Every.{every}

-- whether row 8 of the table lets a frequency through
abbrev pub freq_right : ℕ → Bool
freq_right f = nat_lt 0 f && nat_le f 2013265944

-- and the first n of them
abbrev pub freqs_right : (ℕ → ℕ) → ℕ → Bool
freqs_right f n = every n (λ i. freq_right (f i))
