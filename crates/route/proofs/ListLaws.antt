-- The laws of a decoded list: what 01's conditions 5 to 9 leave of a list in an accepted file.
use Prim.Native.Nat.{ℕ, ◌+◌, ◌<◌, ◌≤◌}
use Rattle.route.specs.Score.{Ops}
use Rattle.route.specs.Postings.{Postings, start}
use Rattle.route.specs.Inner.Lists.{ListOk}
use Rattle.route.proofs.Order.{Ordered}

-- each score has P
abbrev pub Scored : {S : Type 0} → (S → Type 0) → Postings S → Type 0
Scored P l = (i : ℕ) → i < l.len → P (l.score i)

-- condition 9: scores and bounds are values of the scoring, and each bound covers the scores of its block or list
pub record ScoresOk (B : ℕ) (O : Ops) (L : Ordered O) (P : O.S → Type 0) (l : Postings O.S) : Type 0 where
  pub score-ok : Scored P l
  pub bound-ok : (b : ℕ) → b < l.full → P (l.bound b)
  pub top-ok : P l.top
  pub bound-covers : (b i : ℕ) → b < l.full → start B b ≤ i → i < start B b + B → L.rank (l.score i) ≤ L.rank (l.bound b)
  pub top-covers : (i : ℕ) → i < l.len → L.rank (l.score i) ≤ L.rank l.top

pub record Accepted (B N : ℕ) (O : Ops) (L : Ordered O) (P : O.S → Type 0) (l : Postings O.S) : Type 0 where
  pub ok : ListOk B N l
  pub vals : ScoresOk B O L P l
