-- Worked examples of the definitions.
use Rattle.std.proofs.Common.{◌≡◌, ℕ, true, false, [], ◌∷◌, get_or, refl}
use Rattle.compression.specs.Documents.{doc_at, docs_right}

-- the values 3, 0, 2 in a list's first block and after document 9, strict or not
abbrev three_values : ℕ → ℕ
three_values i = get_or (3 ∷ 0 ∷ 2 ∷ []) i 0

pub three-documents :
    (doc_at three_values true true 0 2 ≡ 7) × (doc_at three_values false true 0 2 ≡ 5) × (doc_at three_values true false 9 2 ≡ 17) × (doc_at three_values false false 9 2 ≡ 14)
    × (docs_right three_values true true 0 3 8 ≡ true) × (docs_right three_values true true 0 3 7 ≡ false) × (docs_right three_values false true 0 3 8 ≡ false)
unfolding doc_at
three-documents = (refl, refl, refl, refl, refl, refl, refl)
