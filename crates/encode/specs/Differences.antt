-- 01, The note file, on documents: the values of a block, from its documents.
use Rattle.std.specs.Prelude.{Bool, ℕ, zero, suc, ◌+◌, ◌-◌}
use Rattle.compression.specs.Documents.{gap_of, start_of}

module _ (d : ℕ → ℕ) (strict first : Bool) (previous : ℕ) where
  -- what value i is added to: the document before it, and 1 if strict; before a list's first document 0 either way
  abbrev pub floor_at : ℕ → ℕ
  floor_at zero = start_of strict previous first
  floor_at (suc i) = d i + gap_of strict

  -- document = previous + value, or previous + value + 1 if strict: so the value is the rest
  unfoldable pub differ : ℕ → ℕ
  differ i = d i - floor_at i
