-- What 01's conditions leave of a decoded list.
use Rattle.std.specs.Prelude.{ℕ, ◌+◌, ◌<◌, ◌≤◌}
use Rattle.route.specs.Postings.{Postings, TERMINATED, start}

-- condition 7: documents rise strictly and stay below the header's number; full blocks of B, then a tail shorter than B
pub record ListOk (B : ℕ) {S : Type 0} (N : ℕ) (l : Postings S) : Type 0 where
  pub rises : (i j : ℕ) → i < j → j < l.len → l.doc i < l.doc j
  pub below : (i : ℕ) → i < l.len → l.doc i < N
  pub few : N ≤ TERMINATED
  pub wide : 0 < B
  pub blocks : start B l.full ≤ l.len
  pub tail : l.len < start B l.full + B
