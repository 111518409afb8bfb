-- The price of contents.
use Rattle.std.specs.Prelude.{◌≡◌, List, ℕ, ◌<◌, length, get_or}
use Rattle.contents.specs.Contents.{Contents, lists}
use Rattle.house.specs.House.{list_postings, house_file}
use Rattle.house.specs.Inner.Listed.{Topped, listed_of, blocks_at}
use Rattle.contents.specs.declared.Price.{Price}

-- the length of each list's postings and of the file, and which postings are highest
pub record PricedWhole (c : Contents) (r : Price) (tops : List ℕ) : Type 0 where
  pub postings-are : (l : ℕ) → l < lists c → get_or r.postings l 0 ≡ length (list_postings c l)
  pub total-is : r.total ≡ length (house_file c)
  pub tops_are : (l : ℕ) → l < lists c → Topped (listed_of c l) (blocks_at c l) tops
