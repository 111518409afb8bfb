-- A list's skip reader, as `skip.rs` has it: on a full block, on the tail, or behind it, where the Rust has a tail of no documents.
use Rattle.std.specs.Prelude.{◌≡◌, cond, List, ℕ, ◌-◌, ◌*◌, leb}
use Rattle.route.specs.Cursor.{skip_to}
use Rattle.bm25.specs.declared.Scoring.{Scoring}
use Rattle.notefile.specs.Skips.{last_doc, doc_width, strict_block, freq_width, max_norm_code, max_freq_code}
use Rattle.notefile.specs.Lists.{full_blocks, is_full, block_at}
use Rattle.notefile.specs.Inner.Structs.{last_before}
use Rattle.notefile.specs.declared.part.Part.{Part}
use Rattle.decoded.specs.Lists.{list_of}
use Rattle.skip_reader.specs.declared.skip.BlockInfo.{BlockInfo}
use Rattle.skip_reader.specs.declared.skip.BlockInfo.TheVariants.{BitPacked, VInt}
use Rattle.skip_reader.specs.declared.skip.SkipReader.{SkipReader}

-- how many documents stand from block b on
abbrev pub remaining : Part → ℕ → ℕ
remaining x b = x.count - 128 * b

module _ (file : List ℕ) (x : Part) where
  abbrev pub last_in : ℕ → ℕ
  last_in b = cond (is_full x b) (last_doc file x b) 2147483647

  -- the last document of the block before, by its skip entry; a tail has no entry, so behind it stands TERMINATED
  abbrev pub previous_in : ℕ → ℕ
  previous_in b = cond (leb b (full_blocks x)) (last_before file x b) 2147483647

  -- block b's place; behind the tail, where the postings end
  abbrev pub place_in : ℕ → ℕ
  place_in b = cond (leb b (full_blocks x)) (block_at file x b) x.end

  abbrev pub info_in : ℕ → BlockInfo
  info_in b =
      cond (is_full x b)
      (BitPacked (doc_width file x b) (strict_block file x b) (freq_width file x b) (max_norm_code file x b) (max_freq_code file x b))
      (VInt (remaining x b))

  -- the reader on block b
  unfoldable pub reader_at : ℕ → SkipReader
  reader_at b = record {
    last_doc_in_block = last_in b;
    last_doc_in_previous_block = previous_in b;
    block = b;
    byte_offset = place_in b;
    remaining_docs = remaining x b;
    block_info = info_in b;
  }

  -- a reader stands on the block whose number it has
  abbrev pub Stands : SkipReader → Type 0
  Stands reader = reader ≡ reader_at reader.block

  -- where the route's skip reader comes to from block b, whatever the scoring
  abbrev pub Sought : ℕ → ℕ → SkipReader → Type 0
  Sought target b reader = (scoring : Scoring) → reader ≡ reader_at (skip_to (list_of scoring file x) 128 target (full_blocks x - b) b)
