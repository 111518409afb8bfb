-- What writing fields asks, and what reading them finds.
use Rattle.std.specs.Prelude.{◌≡◌, List, [], ◌∷◌, ℕ, ◌+◌, ◌^◌, ◌<◌}
use Rattle.codec.specs.Bits.{bits_at}
use Rattle.encode.specs.Fields.{Field}

-- each value fits its width
abbrev pub Fit : List Field → Type 0
Fit [] = Unit {0}
Fit (f ∷ fs) = (f.value < 2 ^ f.width) × Fit fs

-- the fields stand one after another from bit p on
abbrev pub Stand : List ℕ → ℕ → List Field → Type 0
Stand s p [] = Unit {0}
Stand s p (f ∷ fs) = (bits_at s p f.width ≡ f.value) × Stand s (p + f.width) fs
