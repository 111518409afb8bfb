-- What a union keeps of its scorers.
use Rattle.std.specs.Prelude.{List, ◌≡◌, suc, ℕ, ◌+◌, ◌<◌, ◌≤◌, drop, length, take}
use Rattle.arrays.specs.Every.{All}
use Rattle.route.specs.Score.{Ops}
use Rattle.route.specs.Postings.{Postings, TERMINATED, start}
use Rattle.route.specs.Cursor.{Cursor}
use Rattle.route.specs.Scorer.{Scorer, doc_of}
use Rattle.route.specs.Union.{Stage, UnionPlace, called, looking, over}
use Rattle.route.specs.Inner.Lists.{ListOk}
use Rattle.route.specs.Inner.Orders.{Sorted}

module _ (B N : ℕ) {S : Type 0} where
  -- a cursor in its list, or on the empty block behind its tail
  pub record Safe (l : Postings S) (c : Cursor) : Type 0 where
    pub lo : start B c.dec ≤ c.at
    pub hi : c.at < start B c.dec + B
    pub order : c.dec ≤ c.blk
    pub in_list : c.blk ≤ suc l.full
    pub edge : c.blk ≡ suc l.full → c.dec ≡ c.blk

  -- a scorer of a right list, so placed
  pub record SafeS (s : Scorer S) : Type 0 where
    pub ok : ListOk B N s.list
    pub safe : Safe s.list s.cur

module _ {S : Type 0} where
  -- behind a report of document `doc`: the first n scorers stand on it, and the others behind it
  pub record OnReport (n : ℕ) (ss : List (Scorer S)) : Type 0 where
    pub doc : ℕ
    pub live : doc < TERMINATED
    pub some : 0 < n
    pub few : n ≤ length ss
    pub on : All (λ s. doc_of s ≡ doc) (take n ss)
    pub off : All (λ s. doc < doc_of s) (drop n ss)

  -- where the scorers stand at a stage
  abbrev pub StageKept : Stage → List (Scorer S) → Type 0
  StageKept looking ss = Unit {0}
  StageKept (called n) ss = OnReport n ss
  StageKept over ss = Unit {0}

module _ (B N : ℕ) (O : Ops) where
  -- a place whose scorers are safe, in order, and where the stage has them
  pub record UnionKept (u : UnionPlace O.S) : Type 0 where
    pub scs : All (SafeS B N) u.scorers
    pub order : Sorted doc_of u.scorers
    pub stands : StageKept u.stage u.scorers
