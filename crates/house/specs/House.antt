-- The file of contents (02, order 1): "the only file of the house form: skip kind 0, strict blocks, least widths, shortest VInts".
-- 01's layouts, from values to bytes: header, entries, norm bytes, then list by list its skip bytes and its postings.
use Rattle.std.specs.Prelude.{Bool, length, Float}
use Rattle.std.proofs.Math.Bool.{true, false}
use mathlib.Core.List.{List, [], ◌++◌}
use Prim.Native.Nat.{ℕ, zero, suc, ◌+◌, ◌-◌, ◌*◌, ◌/◌, ◌%◌}
use Rattle.std.specs.Float.Ieee.{binary32, to_bits}
use Rattle.pieces.specs.Bytes.{bytes_of}
use Rattle.packing.specs.Packing.{packed_block}
use Rattle.packing.specs.Width.{least_width}
use Rattle.encode.specs.Fields.{field_bytes, header_fields, entry_fields}
use Rattle.encode.specs.SkipEntry.{skip_entry}
use Rattle.encode.specs.ShortVInt.{vint_row}
use Rattle.encode.specs.Differences.{differ}
use Rattle.bm25_pair.specs.Pair.{freq_code, highest}
use Rattle.notefile.specs.Header.{header_length, entry_length}
use Rattle.notefile.specs.Lists.{is_first}
use Rattle.contents.specs.Contents.{Contents, lists, weight_of, count_of, doc_of, freq_of, code_of, score_of}

-- a list's documents d and frequencies f, in blocks of 128
module _ (d f : ℕ → ℕ) where
  -- the document before block b
  abbrev pub doc_before : ℕ → ℕ
  doc_before zero = 0
  doc_before (suc b) = d (128 * b + 127)

  -- value i of block b's documents, strict or not; and of a strict block's frequencies
  unfoldable pub doc_differ : Bool → ℕ → ℕ → ℕ
  doc_differ strict b i = differ (λ j. d (128 * b + j)) strict (is_first b) (doc_before b) i

  -- the 128 values of a full block, which is strict
  unfoldable pub doc_values : ℕ → List ℕ
  unfolding doc_differ bytes_of
  doc_values b = bytes_of 128 (doc_differ true b)

  unfoldable pub freq_values : ℕ → List ℕ
  unfolding bytes_of
  freq_values b = bytes_of 128 (λ i. f (128 * b + i) - 1)

  -- their least widths
  unfoldable pub doc_bits : ℕ → ℕ
  unfolding doc_values least_width
  doc_bits b = least_width (doc_values b)

  unfoldable pub freq_bits : ℕ → ℕ
  unfolding freq_values least_width
  freq_bits b = least_width (freq_values b)

  -- a full block: its documents, then its frequencies
  unfoldable pub block_bytes : ℕ → List ℕ
  unfolding doc_bits freq_bits packed_block
  block_bytes b = packed_block (doc_values b) (doc_bits b) ++ packed_block (freq_values b) (freq_bits b)

  unfoldable pub blocks_bytes : ℕ → List ℕ
  unfolding block_bytes
  blocks_bytes zero = []
  blocks_bytes (suc b) = blocks_bytes b ++ block_bytes b

  -- the n postings behind b full blocks, as VInts: differences that are not strict, then frequencies
  unfoldable pub tail_bytes : ℕ → ℕ → List ℕ
  unfolding doc_differ vint_row
  tail_bytes b n = vint_row n (doc_differ false b) ++ vint_row n (λ i. f (128 * b + i))

  -- the postings of a list of n
  unfoldable pub postings_bytes : ℕ → List ℕ
  unfolding blocks_bytes tail_bytes
  postings_bytes n = blocks_bytes (n / 128) ++ tail_bytes (n / 128) (n % 128)

  -- block b's skip entry, where s are the list's scores and norm the documents' norm codes: the pair is that of the highest score
  module _ (norm : ℕ → ℕ) (s : ℕ → Float) where
    unfoldable pub top_of : ℕ → ℕ
    unfolding highest
    top_of b = 128 * b + highest (λ i. s (128 * b + i)) 128

    unfoldable pub entry_of : ℕ → List ℕ
    unfolding top_of doc_bits freq_bits
    entry_of b = skip_entry (d (128 * b + 127)) (doc_bits b) (freq_bits b) (norm (d (top_of b))) (freq_code (f (top_of b)))

    -- the first b
    unfoldable pub skips_bytes : ℕ → List ℕ
    unfolding entry_of
    skips_bytes zero = []
    skips_bytes (suc b) = skips_bytes b ++ entry_of b

module _ (c : Contents) where
  -- the parts of list l
  unfoldable pub list_skips : ℕ → List ℕ
  unfolding skips_bytes
  list_skips l = skips_bytes (doc_of c l) (freq_of c l) (code_of c) (score_of c l) (count_of c l / 128)

  unfoldable pub list_postings : ℕ → List ℕ
  unfolding postings_bytes
  list_postings l = postings_bytes (doc_of c l) (freq_of c l) (count_of c l)

  -- the header, and the entries of the first l lists, of skip kind 0
  unfoldable pub header : List ℕ
  unfolding field_bytes
  header = field_bytes header_length (header_fields c.kind (lists c) c.code c.documents (to_bits binary32 c.average))

  unfoldable pub entry : ℕ → List ℕ
  unfolding field_bytes list_skips list_postings
  entry l = field_bytes entry_length (entry_fields (to_bits binary32 (weight_of c l)) (count_of c l) 0 (length (list_skips l)) (length (list_postings l)))

  unfoldable pub entries : ℕ → List ℕ
  unfolding entry
  entries zero = []
  entries (suc l) = entries l ++ entry l

  -- the parts of the first l lists
  unfoldable pub parts : ℕ → List ℕ
  unfolding list_skips list_postings
  parts zero = []
  parts (suc l) = parts l ++ (list_skips l ++ list_postings l)

  -- the file
  unfoldable pub house_file : List ℕ
  unfolding header entries parts
  house_file = header ++ (entries (lists c) ++ (c.norms ++ parts (lists c)))
