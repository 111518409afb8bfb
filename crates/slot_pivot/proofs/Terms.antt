-- A scorer read off the tables.
use mathlib.Core.List.{List}
use mathlib.Core.Path.{◌≡◌}
use Prim.Native.Nat.{ℕ}
use lib.Ieee.{Float}
use Rattle.term_scorer.specs.Inner.Weights.{top_at}
use Rattle.ordering.specs.Inner.Rows.{doc_at}
use Rattle.slot_pivot.specs.Inner.Terms.{term_in}

-- a scorer as it is read off the tables
pub scorer-is : (lists places : List (List ℕ)) (blocks : List (List (List ℕ))) (q : ℕ) {doc : ℕ} {top : Float} → doc ≡ doc_at places blocks q → top ≡ top_at lists q
    → record { doc = doc; max_score = top; slot = q } ≡ term_in lists places blocks q
scorer-is lists places blocks q d t = rw (d, t)
