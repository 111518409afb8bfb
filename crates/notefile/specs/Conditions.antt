-- Rows 1 to 9 of 01's table, each by itself. Each test is true where the row's condition is NOT met.
use Rattle.std.specs.Prelude.{Bool, ◌&&◌, List, ℕ, ◌+◌, ◌*◌, ◌/◌, ◌%◌, leb, length, Float}
use Rattle.std.proofs.Math.Bool.{true, cond}
use Rattle.std.proofs.Math.Dec.{eqb}
use Rattle.std.specs.Float.{binary32}
use Rattle.std.specs.Float.Ieee.{of_bits}
use Rattle.arrays.specs.Every.{every}
use Rattle.codec.specs.VInts.{vint_place, vint_whole}
use Rattle.compression.specs.Documents.{docs_right}
use Rattle.frequencies.specs.Frequencies.{freqs_right}
use Rattle.bm25.specs.Limits.{weight_ok, average_ok}
use Rattle.bm25.specs.Bound.{all_covered}
use Rattle.notefile.specs.Header.{header_length, version_here, version, spare, list_count, documents, norm_kind, norm_code, average_bits, norms_at}
use Rattle.notefile.specs.Parts.{weight_bits, document_count, skips_at}
use Rattle.notefile.specs.Skips.{last_doc, width_byte, freq_width}
use Rattle.notefile.specs.Lists.{full_blocks, tail_size, is_full, block_size, is_first, tail_at, tail_freqs_at, doc_value, strict_in, block_doc, previous_doc, block_freq, block_score, block_bound, list_bound}
use Rattle.notefile.specs.declared.part.Part.{Part}

-- row 4, of a list's weight and count and the number of documents: the weight is within its limits, and there are no more postings than
-- documents
abbrev pub list_fits : Float → ℕ → ℕ → Bool
list_fits weight count limit = weight_ok weight && leb count limit

module _ (file : List ℕ) where
  -- row 1: the header is whole and of this version, its spare bit is clear, lists and documents are few enough, and no code stands beside norm bytes
  unfoldable pub header_right : Bool
  header_right =
      leb header_length (length file)
      && (eqb (version file) version_here && (eqb (spare file) 0 && (leb (list_count file) 16 && (leb (documents file) 1048576 && cond (eqb (norm_kind file) 0) (eqb (norm_code file) 0) true))))

  -- row 2: the average is within its limits, whether or not there are lists
  unfoldable pub average_right : Bool
  average_right = average_ok (of_bits binary32 (average_bits file 0))

  -- row 3: the entries lie in the file, and its length is the sum of its parts, in naturals
  unfoldable pub length_right : Bool
  length_right = leb (norms_at file) (length file) && eqb (length file) (skips_at file (list_count file))

  -- row 4: an entry's weight and count
  unfoldable pub entry_right : ℕ → Bool
  entry_right l = list_fits (of_bits binary32 (weight_bits file l)) (document_count file l) (documents file)

module _ (file : List ℕ) (x : Part) where
  -- row 5: bits 5 and 7 of each width byte are clear, no frequency width is above 32, and the skip bytes are an entry for each full block
  unfoldable pub skip_right : ℕ → Bool
  skip_right b = eqb (width_byte file x b / 32 % 2) 0 && (eqb (width_byte file x b / 128 % 2) 0 && leb (freq_width file x b) 32)

  unfoldable pub skips_right : Bool
  unfolding skip_right
  skips_right = eqb (x.skips + x.skip_entry_len * full_blocks x) x.postings && every (full_blocks x) skip_right

  -- row 6: the full blocks lie in the postings, the tail's VInts are whole, and the last of them ends where the postings end
  unfoldable pub postings_right : Bool
  postings_right =
      leb (tail_at file x) x.end
      && (every (tail_size x) (vint_whole file x.end (tail_at file x))
      && (every (tail_size x) (vint_whole file x.end (tail_freqs_at file x)) && eqb (vint_place file x.end (tail_freqs_at file x) (tail_size x)) x.end))

  -- row 7: a block's documents rise and stay below the header's number, and the last of a full block is its skip entry's
  unfoldable pub docs_rise : ℕ → Bool
  docs_rise b = docs_right (doc_value file x b) (strict_in file x b) (is_first b) (previous_doc file x b) (block_size x b) (documents file)

  unfoldable pub last_right : ℕ → Bool
  last_right b = cond (is_full x b) (eqb (block_doc file x b 127) (last_doc file x b)) true

  unfoldable pub block_docs_right : ℕ → Bool
  unfolding docs_rise last_right
  block_docs_right b = docs_rise b && last_right b

  -- row 8: a block's frequencies are from 1 to 2,013,265,944
  unfoldable pub block_freqs_right : ℕ → Bool
  block_freqs_right b = freqs_right (block_freq file x b) (block_size x b)

  -- row 9: neither the list's bound nor a full block's lies below an unstepped score that it covers
  unfoldable pub covers : Float → ℕ → Bool
  covers bound b = all_covered bound (block_size x b) (block_score file x b)

  unfoldable pub bounds_right : ℕ → Bool
  unfolding covers
  bounds_right b = covers (list_bound x) b && cond (is_full x b) (covers (block_bound file x b) b) true
