-- The documents on which the scorers of a plain scan stand.
use Rattle.std.specs.Prelude.{◌≡◌, List, [], ℕ, zero, suc, min, ◌<◌, get_or}
use Rattle.notefile.specs.Inner.Reads.{docs_of}
use Rattle.term_scorer.specs.Inner.Slots.{Sixteen, Blank}

-- the least of the first n documents, or TERMINATED
abbrev pub least_in : List ℕ → ℕ → ℕ
least_in heads zero = 2147483647
least_in heads (suc n) = min (least_in heads n) (get_or heads n 0)

-- the first n slots' places in their blocks can be read
abbrev pub PlaceRead : List (List ℕ) → ℕ → Type 0
PlaceRead places n = (q : ℕ) → q < n → get_or (get_or places q []) 6 0 < 128

-- the documents on which the first n scorers stand, and behind them TERMINATED
pub record HeadsOf (places : List (List ℕ)) (blocks : List (List (List ℕ))) (n : ℕ) (heads : List ℕ) : Type 0 where
  pub long : Sixteen heads
  pub are : (q : ℕ) → q < n → get_or heads q 0 ≡ get_or (docs_of (get_or blocks q [])) (get_or (get_or places q []) 6 0) 0
  pub behind : Blank 2147483647 n heads
