-- A list of reports, or a refusal, as text (01, One small file), in ASCII bytes.
use Rattle.std.specs.Prelude.{ℕ, zero, suc, ◌+◌, ◌/◌, ◌%◌, cond, List, [], ◌∷◌, ◌++◌, length, ◌==◌, Float}
use Rattle.floats.specs.Step.{steps}
use Rattle.route.specs.Report.{Report}
use Rattle.route.specs.Rule as rules

-- a number's last digit in decimal; 48 is ASCII's 0
abbrev pub digit : ℕ → ℕ
digit n = 48 + n % 10

-- The digits of n, the units last, and no 0 in front: of 0 there is none. k is at least their number.
abbrev pub digits_of : ℕ → ℕ → List ℕ
digits_of zero n = []
digits_of (suc k) zero = []
digits_of (suc k) (suc n) = digits_of k (suc n / 10) ++ (digit (suc n) ∷ [])

-- a number in decimal: 0 has its units too
unfoldable pub decimal : ℕ → List ℕ
decimal n = digits_of n (n / 10) ++ (digit n ∷ [])

-- `reports `
abbrev pub reports_word : List ℕ
reports_word = 114 ∷ 101 ∷ 112 ∷ 111 ∷ 114 ∷ 116 ∷ 115 ∷ 32 ∷ []

-- `refused `
abbrev pub refused_word : List ℕ
refused_word = 114 ∷ 101 ∷ 102 ∷ 117 ∷ 115 ∷ 101 ∷ 100 ∷ 32 ∷ []

abbrev pub space : List ℕ
space = 32 ∷ []

abbrev pub newline : List ℕ
newline = 10 ∷ []

-- a word and a number
abbrev pub first_line : List ℕ → ℕ → List ℕ
first_line word n = word ++ (decimal n ++ newline)

-- "document and score in 1/1024"
abbrev pub line : Report Float → List ℕ
line r = decimal r.doc ++ (space ++ (decimal (steps r.score) ++ newline))

abbrev pub lines : List (Report Float) → List ℕ
lines [] = []
lines (r ∷ rs) = line r ++ lines rs

-- "prints a count line, then document and score in 1/1024, or `refused N`"
unfoldable pub text : rules.Outcome Float → List ℕ
text a = cond (a.code == 0) (first_line reports_word (length a.rows) ++ lines a.rows) (first_line refused_word a.code)
