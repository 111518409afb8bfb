-- Rules: how the threshold moves with the reports, and what a run with n rows returns.
use Rattle.std.specs.Prelude.{cond, List, [], ◌∷◌, ◌++◌, map, ℕ, pred, leb, length, get_or, take}
use Rattle.route.specs.Score.{Ops, larger}
use Rattle.route.specs.Report.{Report, Callback}

-- 01's rules, without their start threshold: a script of thresholds, or best k.
pub data Rule (S : Type 0) : Type 0 where
  script : List S → Rule S
  best : ℕ → Rule S

-- A script in force: the last of its entries so far, or the start before the first (01, rules).
abbrev pub last_of : {S : Type 0} → S → List S → S
last_of s [] = s
last_of s (x ∷ xs) = last_of x xs

-- the scores reported, in order
abbrev pub scores : {S : Type 0} → List (Report S) → List S
scores rs = map (λ r. r.score) rs

module _ (O : Ops) where
  -- into a list by falling score, behind its equals
  abbrev pub insert_down : O.S → List O.S → List O.S
  insert_down x [] = x ∷ []
  insert_down x (y ∷ ys) = cond (O.above x y) (x ∷ y ∷ ys) (y ∷ insert_down x ys)

  -- the scores from the best down, those of `acc` in first
  abbrev pub rank_from : List O.S → List O.S → List O.S
  rank_from acc [] = acc
  rank_from acc (x ∷ xs) = rank_from (insert_down x acc) xs

  -- The threshold of the moment, after reports that scored `xs`: a script goes on one entry a report and stays at its last;
  -- best k keeps the start until k scores exist, and then takes the k-th best if that is larger (01, rules).
  abbrev pub threshold_after : Rule O.S → O.S → List O.S → O.S
  threshold_after (script l) start xs = last_of start (take (length xs) l)
  threshold_after (best k) start xs = cond (leb k (length xs)) (larger O start (get_or (rank_from [] xs) (pred k) O.nil)) start

  -- A rule in the place of the Rust's callback; its state is the list of reports so far.
  abbrev pub ruled : Rule O.S → O.S → Callback O.S
  ruled q start = record {
    State = List (Report O.S);
    threshold = λ rs. threshold_after q start (scores rs);
    call = λ d x rs. rs ++ (record { doc = d; score = x } ∷ []);
  }

-- What a run returns (01's table): its number, and the rows below its count.
pub record Outcome (S : Type 0) : Type 0 where
  pub code : ℕ
  pub rows : List (Report S)

-- 01's table, codes 0 and 12: a list that fits into n rows is returned whole, of a longer one the first n reports.
abbrev pub limited : {S : Type 0} → ℕ → List (Report S) → Outcome S
limited n rs = cond (leb (length rs) n) (record { code = 0; rows = rs }) (record { code = 12; rows = take n rs })
