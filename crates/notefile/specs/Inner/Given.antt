-- What the functions that read a file may assume of it: each part is what the tests before them, or acceptance, give.
use Rattle.std.specs.Prelude.{◌≡◌, true, List, ℕ, ◌+◌, ◌*◌, ◌≤◌, ◌<◌, length, Float}
use Rattle.std.specs.Float.{binary32}
use Rattle.std.specs.Float.Ieee.{of_bits}
use Rattle.arrays.specs.Every.{every}
use Rattle.fieldnorm.specs.declared.FieldNormReader.{FieldNormReader}
use Rattle.bm25.specs.Limits.{weight_ok, average_ok}
use Rattle.bm25.specs.Inner.Weight.{NormsOf, WeightOf}
use Rattle.bm25.specs.declared.Bm25Weight.{Bm25Weight}
use Rattle.notefile.specs.Header.{header_length, entry_length, documents, norm_reader}
use Rattle.notefile.specs.Parts.{skips_at}
use Rattle.notefile.specs.Skips.{doc_width, freq_width}
use Rattle.notefile.specs.Lists.{full_blocks, block_at, tail_at, previous_doc, list_bound}
use Rattle.notefile.specs.Conditions.{average_right, entry_right, skip_right, skips_right, postings_right, block_docs_right, block_freqs_right, bounds_right}
use Rattle.notefile.specs.Inner.Structs.{header_of}
use Rattle.notefile.specs.declared.header.Header.{Header}
use Rattle.notefile.specs.declared.part.Part.{Part}

-- the header is the file's, its counts are within the table's limits, and the entries lie in the file
pub record HeaderIn (file : List ℕ) (h : Header) : Type 0 where
  pub same : h ≡ header_of file
  pub lists : h.lists ≤ 16
  pub documents : h.documents ≤ 1048576
  pub entries : header_length + entry_length * h.lists ≤ length file

-- a file that rows 1 to 4 let through
pub record FileIn (file : List ℕ) (h : Header) : Type 0 where
  pub header : HeaderIn file h
  pub average : average_right file ≡ true
  pub exact : length file ≡ skips_at file h.lists
  pub entries : every h.lists (entry_right file) ≡ true

-- a list's parts lie in the file, one after another
pub record Parted (file : List ℕ) (x : Part) : Type 0 where
  pub few : x.count < 2097152
  pub least : 8 ≤ x.skip_entry_len
  pub most : x.skip_entry_len ≤ 12
  pub skips-first : x.skips ≤ x.postings
  pub then-postings : x.postings ≤ x.end
  pub inside : x.end ≤ length file

-- a list whose weight and average are within limits
pub record Limits (x : Part) : Type 0 where
  pub weight : weight_ok (of_bits binary32 x.weight) ≡ true
  pub average : average_ok (of_bits binary32 x.average) ≡ true

-- they do, and the skip bytes are an entry for each full block
pub record Skipped (file : List ℕ) (x : Part) : Type 0 where
  pub parted : Parted file x
  pub exact : x.skips + x.skip_entry_len * full_blocks x ≡ x.postings

-- a full block, at a place, lies in the file
pub record PackedIn (file : List ℕ) (x : Part) (b at : ℕ) : Type 0 where
  pub skipped : Skipped file x
  pub full : b < full_blocks x
  pub place : at ≡ block_at file x b
  pub narrow : freq_width file x b ≤ 32
  pub inside : at + 16 * (doc_width file x b + freq_width file x b) ≤ length file

-- all full blocks do, and their skip entries are right
pub record BlocksIn (file : List ℕ) (x : Part) : Type 0 where
  pub skipped : Skipped file x
  pub right : every (full_blocks x) (skip_right file x) ≡ true
  pub inside : tail_at file x ≤ x.end

-- a list's norms
abbrev pub NormsIn : Part → List Float → Type 0
NormsIn x norms = NormsOf (of_bits binary32 x.average) norms

-- the struct of a list's weight and average
abbrev pub WeightIn : Part → Bm25Weight → Type 0
WeightIn x w = WeightOf (of_bits binary32 x.weight) (of_bits binary32 x.average) w

-- what a list's blocks are tested against: the header's number of documents, the norm codes, the list's struct, within its limits, and its
-- bound
pub record Against (file : List ℕ) (x : Part) (limit : ℕ) (reader : FieldNormReader)
    (w : Bm25Weight) (max_score : Float) : Type 0 where
  pub limit_is : limit ≡ documents file
  pub few : limit ≤ 1048576
  pub reader-is : reader ≡ norm_reader file
  pub limits : Limits x
  pub weighed : WeightIn x w
  pub max-score-is : max_score ≡ list_bound x

-- a block whose documents and frequencies are right, with the document before it
pub record BlockRight (file : List ℕ) (x : Part) (b previous : ℕ) : Type 0 where
  pub few : documents file ≤ 1048576
  pub docs : block_docs_right file x b ≡ true
  pub freqs : block_freqs_right file x b ≡ true
  pub previous-is : previous ≡ previous_doc file x b

-- a list that rows 5 to 9 let through
pub record ListRight (file : List ℕ) (x : Part) : Type 0 where
  pub skips : skips_right file x ≡ true
  pub postings : postings_right file x ≡ true
  pub docs : (b : ℕ) → b ≤ full_blocks x → block_docs_right file x b ≡ true
  pub freqs : (b : ℕ) → b ≤ full_blocks x → block_freqs_right file x b ≡ true
  pub bounds : (b : ℕ) → b ≤ full_blocks x → bounds_right file x b ≡ true
