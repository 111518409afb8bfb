-- The price of contents, or their refusal.
use Rattle.std.specs.Prelude.{◌≡◌, List, ℕ, Result, Ok, Err}
use Rattle.outcome.specs.Refusals.{number_of}
use Rattle.outcome.specs.declared.refusal.Refusal.{Refusal}
use Rattle.contents.specs.Contents.{Contents}
use Rattle.contents.specs.Refusal.{contents_refusal}
use Rattle.contents.specs.declared.Price.{Price}
use Rattle.house.specs.Inner.Whole.{PricedWhole}

-- a price where nothing is refused, and else the refusal
abbrev pub PriceIs : Contents → Result Price Refusal → List ℕ → Type 0
PriceIs c (Ok price) tops = (contents_refusal c ≡ 0) × PricedWhole c price tops
PriceIs c (Err refusal) tops = number_of refusal ≡ contents_refusal c
