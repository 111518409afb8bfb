-- One list of contents, as the code that prices and writes it has it.
use Rattle.std.specs.Prelude.{◌≡◌, true, List, ℕ, zero, suc, ◌+◌, ◌*◌, ◌/◌, ◌≤◌, ◌<◌, T, eqb, length, get_or, Float}
use Rattle.fieldnorm.specs.Reader.{fieldnorm_id}
use Rattle.fieldnorm.specs.declared.FieldNormReader.{FieldNormReader}
use Rattle.compression.specs.Documents.{rising_below}
use Rattle.frequencies.specs.Frequencies.{freqs_right}
use Rattle.bm25.specs.Score as bm25
use Rattle.bm25.specs.Bound.{max_score, all_covered}
use Rattle.bm25.specs.Limits.{weight_ok, average_ok}
use Rattle.bm25_pair.specs.Pair.{highest}
use Rattle.notefile.specs.Inner.Order.{first_of}
use Rattle.contents.specs.Contents.{Contents, weight_of, count_of, list_at, reader_of}
use Rattle.house.specs.House.{skips_bytes, postings_bytes}

-- where its norm codes are read, its weight and average, and its postings, `count` of them in two buffers from a place on
pub record Listed : Type 0 where
  pub reader : FieldNormReader
  pub norms : List ℕ
  pub weight : Float
  pub average : Float
  pub docs : List ℕ
  pub freqs : List ℕ
  pub from : ℕ
  pub count : ℕ

abbrev pub listed : FieldNormReader → List ℕ → Float → Float → List ℕ → List ℕ → ℕ → ℕ → Listed
listed reader norms weight average docs freqs from count =
    record { reader = reader; norms = norms; weight = weight; average = average; docs = docs; freqs = freqs; from = from; count = count }

module _ (y : Listed) where
  abbrev pub doc_in : ℕ → ℕ
  doc_in i = get_or y.docs (y.from + i) 0

  abbrev pub freq_in : ℕ → ℕ
  freq_in i = get_or y.freqs (y.from + i) 0

  abbrev pub norm_in : ℕ → ℕ
  norm_in d = fieldnorm_id y.reader y.norms d

  abbrev pub score_in : ℕ → Float
  score_in i = bm25.score_of y.weight y.average (norm_in (doc_in i)) (freq_in i)

  -- what it is refused for, of 7 to 9
  unfoldable pub listed_refusal : ℕ → ℕ
  listed_refusal limit =
      first_of (rising_below doc_in true 0 y.count limit) (freqs_right freq_in y.count)
      (all_covered (max_score y.weight y.average) y.count score_in)

  -- which posting of block b has the highest score
  unfoldable pub top_in : ℕ → ℕ
  unfolding highest
  top_in b = highest (λ i. score_in (128 * b + i)) 128

  -- its bytes
  unfoldable pub skips_in : List ℕ
  unfolding skips_bytes
  skips_in = skips_bytes doc_in freq_in norm_in score_in (y.count / 128)

  unfoldable pub postings_in : List ℕ
  unfolding postings_bytes
  postings_in = postings_bytes doc_in freq_in y.count

  -- the buffers hold it, it has no more postings than there are documents, and its weight and average are within their limits
  pub record Fits (limit : ℕ) : Type 0 where
    pub docs-in : y.from + y.count ≤ length y.docs
    pub freqs-in : y.from + y.count ≤ length y.freqs
    pub few : limit ≤ 1048576
    pub count-in : y.count ≤ limit
    pub weight-ok : T (weight_ok y.weight)
    pub average-ok : T (average_ok y.average)

  -- the places of its blocks' highest scores stand in a table, from a place on
  pub record Topped (start : ℕ) (tops : List ℕ) : Type 0 where
    pub at : (b : ℕ) → b < y.count / 128 → get_or tops (start + b) 0 ≡ top_in b

module _ (c : Contents) where
  -- list l of contents
  abbrev pub listed_of : ℕ → Listed
  listed_of l =
      listed (reader_of c (eqb c.kind 0)) c.norms (weight_of c l) c.average c.docs c.freqs (list_at c l) (count_of c l)

  -- how many full blocks the lists before it have
  unfoldable pub blocks_at : ℕ → ℕ
  blocks_at zero = 0
  blocks_at (suc l) = blocks_at l + count_of c l / 128
