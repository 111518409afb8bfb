-- The lengths as f32: a table that is `FIELD_NORMS_TABLE`, each entry rounded, has each code's length.
use mathlib.Core.Path.{◌≡◌, refl, ap, ◌∙◌}
use mathlib.Core.List.{List, [], ◌∷◌}
use Prim.Native.Nat.{ℕ, zero, suc, ◌<◌}
use native.Mathlib.Nat.{le_of_suc-le-suc, not-suc-le-zero}
use lib.ListN.{length, get_or}
use lib.Ieee.{Float, nan}
use Rattle.floats.specs.Whole.{whole_f32}
use Rattle.fieldnorm.specs.Code.{field_norms_table, fieldnorm}
use Rattle.bm25.specs.Inner.Weight.{LengthsOf}

abbrev pub nearest : List ℕ → List Float
nearest [] = []
nearest (n ∷ ns) = whole_f32 n ∷ nearest ns

nearest-at : (ns : List ℕ) (i : ℕ) → i < length ns → get_or (nearest ns) i nan ≡ whole_f32 (get_or ns i 0)
nearest-at [] i h = absurd (not-suc-le-zero h)
nearest-at (n ∷ ns) zero h = refl
nearest-at (n ∷ ns) (suc i) h = nearest-at ns i (le_of_suc-le-suc h)

pub lengths-of : {lengths : List Float} → lengths ≡ nearest field_norms_table → LengthsOf lengths
unfolding fieldnorm
lengths-of e i h = ap (λ (xs : List Float). get_or xs i nan) e ∙ nearest-at field_norms_table i h
