-- What is read off an answer.
use Rattle.std.specs.Prelude.{Result, Ok, Err, ℕ}

-- a hit's index, a miss's count
abbrev pub index_of : Result ℕ ℕ → ℕ
index_of (Ok i) = i
index_of (Err n) = n
