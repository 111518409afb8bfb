-- The scorers that the tables hold in slots.
use Rattle.std.specs.Prelude.{List, ℕ}
use Rattle.term_scorer.specs.declared.TermScorer.{TermScorer}
use Rattle.term_scorer.specs.Inner.Weights.{top_at}
use Rattle.ordering.specs.Inner.Rows.{doc_at}

-- slot q's scorer, with the bound of its list
abbrev pub term_in : List (List ℕ) → List (List ℕ) → List (List (List ℕ)) → ℕ → TermScorer
term_in lists places blocks q = record { doc = doc_at places blocks q; max_score = top_at lists q; slot = q }
