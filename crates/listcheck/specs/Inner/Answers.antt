-- The answer about a full block.
use Rattle.std.specs.Prelude.{◌≡◌, true, List, ℕ}
use Rattle.notefile.specs.Conditions.{block_docs_right, block_freqs_right}
use Rattle.notefile.specs.Inner.Order.{first_of}
use Rattle.notefile.specs.Inner.Reads.{docs_of, freqs_of, DocsRead, FreqsRead}
use Rattle.notefile.specs.declared.part.Part.{Part}

-- what the documents and frequencies of a full block are refused for, of 7 and 8; they stand in the lent block where that is nothing
pub record PackedRead (file : List ℕ) (x : Part) (b r : ℕ) (block : List (List ℕ)) : Type 0 where
  pub same : r ≡ first_of (block_docs_right file x b) (block_freqs_right file x b) true
  pub docs-read : r ≡ 0 → DocsRead file x b true (docs_of block)
  pub freqs-read : r ≡ 0 → FreqsRead file x b true (freqs_of block)
