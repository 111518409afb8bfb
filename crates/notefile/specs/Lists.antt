-- 01, The note file: the decoded lists. Block b of a list has 128 postings, or it is the tail, the block after all full ones.
use Rattle.std.specs.Prelude.{Bool, ◌&&◌, List, ltb, Float}
use Rattle.std.proofs.Math.Bool.{true, false, cond}
use Prim.Native.Nat.{ℕ, zero, suc, ◌+◌, ◌*◌, ◌/◌, ◌%◌}
use Rattle.std.specs.Float.{binary32}
use Rattle.std.specs.Float.Ieee.{of_bits}
use Rattle.codec.specs.VInts.{vint_place, vint_value}
use Rattle.bitpacker.specs.Packed.{packed_at}
use Rattle.compression.specs.Documents.{gap_of, doc_at}
use Rattle.bm25.specs.Score.{score_of}
use Rattle.bm25.specs.Bound.{max_tf, max_score}
use Rattle.notefile.specs.Header.{norm_code_of}
use Rattle.notefile.specs.Skips.{doc_width, strict_block, freq_width, max_norm_code, max_freq_code}
use Rattle.notefile.specs.declared.part.Part.{Part}

-- a list's full blocks, and the size of its tail
abbrev pub full_blocks : Part → ℕ
full_blocks x = x.count / 128

abbrev pub tail_size : Part → ℕ
tail_size x = x.count % 128

abbrev pub is_full : Part → ℕ → Bool
is_full x b = ltb b (full_blocks x)

abbrev pub block_size : Part → ℕ → ℕ
block_size x b = cond (is_full x b) 128 (tail_size x)

-- whether a block is its list's first
abbrev pub is_first : ℕ → Bool
is_first zero = true
is_first (suc b) = false

-- 01, Scores: a list's unstepped score of a frequency at a norm code
unfoldable pub score_for : Part → ℕ → ℕ → Float
score_for x code freq = score_of (of_bits binary32 x.weight) (of_bits binary32 x.average) code freq

-- the list's bound
unfoldable pub list_bound : Part → Float
list_bound x = max_score (of_bits binary32 x.weight) (of_bits binary32 x.average)

module _ (file : List ℕ) (x : Part) where
  -- on packed blocks: documents, then frequencies, each 16 bytes for a bit of width; this is block b's place
  unfoldable pub block_at : ℕ → ℕ
  block_at zero = x.postings
  block_at (suc b) = block_at b + 16 * (doc_width file x b + freq_width file x b)

  abbrev pub freqs_at : ℕ → ℕ
  freqs_at b = block_at b + 16 * doc_width file x b

  -- on the tail: the VInts of its differences, then those of its frequencies
  abbrev pub tail_at : ℕ
  tail_at = block_at (full_blocks x)

  abbrev pub tail_freqs_at : ℕ
  tail_freqs_at = vint_place file x.end tail_at (tail_size x)

  -- value i of block b's documents, and of its frequencies
  unfoldable pub doc_value : ℕ → ℕ → ℕ
  unfolding block_at
  doc_value b i = cond (is_full x b) (packed_at file (block_at b) (doc_width file x b) i) (vint_value file x.end tail_at i)

  unfoldable pub freq_value : ℕ → ℕ → ℕ
  unfolding block_at
  freq_value b i = cond (is_full x b) (packed_at file (freqs_at b) (freq_width file x b) i) (vint_value file x.end tail_freqs_at i)

  -- a tail is never strict
  abbrev pub strict_in : ℕ → Bool
  strict_in b = is_full x b && strict_block file x b

  -- the documents' sentence: block by block, the previous document of a later block is the decoded last of the block before it
  unfoldable pub block_doc : ℕ → ℕ → ℕ
  unfolding doc_value
  block_doc zero = doc_at (doc_value 0) (strict_in 0) true 0
  block_doc (suc b) = doc_at (doc_value (suc b)) (strict_in (suc b)) false (block_doc b 127)

  abbrev pub previous_doc : ℕ → ℕ
  previous_doc zero = 0
  previous_doc (suc b) = block_doc b 127

  -- the sentence on strict frequencies: 1 is added there
  unfoldable pub block_freq : ℕ → ℕ → ℕ
  unfolding freq_value
  block_freq b i = freq_value b i + gap_of (strict_in b)

  unfoldable pub block_score : ℕ → ℕ → Float
  unfolding score_for block_doc block_freq
  block_score b i = score_for x (norm_code_of file (block_doc b i)) (block_freq b i)

  -- a full block's bound: the score of its skip entry's pair
  unfoldable pub block_bound : ℕ → Float
  unfolding score_for
  block_bound b = score_for x (max_norm_code file x b) (max_tf (max_freq_code file x b))

  -- the same by a posting's number in its list
  abbrev pub list_doc : ℕ → ℕ
  list_doc k = block_doc (k / 128) (k % 128)

  abbrev pub list_freq : ℕ → ℕ
  list_freq k = block_freq (k / 128) (k % 128)

  abbrev pub list_score : ℕ → Float
  list_score k = block_score (k / 128) (k % 128)
