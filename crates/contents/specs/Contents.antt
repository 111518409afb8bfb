-- Contents of a note file (02, order 1): "the number of documents and each list's documents and frequencies, with weights, norms of either
-- kind and average", as buffers that are handed in.
use Rattle.std.specs.Prelude.{Bool, true, false, List, ℕ, zero, suc, ◌+◌, ◌<◌, T, eqb, length, Float}
use Rattle.std.proofs.Math.ListN.{get_or}
use Rattle.std.specs.Float.{nan, binary32}
use Rattle.std.specs.Float.Ieee.{fits}
use Rattle.fieldnorm.specs.Reader.{fieldnorm_id}
use Rattle.fieldnorm.specs.declared.FieldNormReader.{FieldNormReader}
use Rattle.fieldnorm.specs.declared.FieldNormReader.TheVariants.{FromData, Const}
use Rattle.bm25.specs.Score as bm25

-- list after list stands in the buffers of documents and frequencies; each has a weight and a count
pub record Contents : Type 0 where
  pub documents : ℕ
  pub kind : ℕ
  pub code : ℕ
  pub norms : List ℕ
  pub average : Float
  pub weights : List Float
  pub counts : List ℕ
  pub docs : List ℕ
  pub freqs : List ℕ

abbrev pub handed : ℕ → ℕ → ℕ → List ℕ → Float → List Float → List ℕ → List ℕ → List ℕ → Contents
handed documents kind code norms average weights counts docs freqs = record {
  documents = documents;
  kind = kind;
  code = code;
  norms = norms;
  average = average;
  weights = weights;
  counts = counts;
  docs = docs;
  freqs = freqs;
}

module _ (c : Contents) where
  abbrev pub lists : ℕ
  lists = length c.counts

  abbrev pub weight_of : ℕ → Float
  weight_of l = get_or c.weights l nan

  abbrev pub count_of : ℕ → ℕ
  count_of l = get_or c.counts l 0

  -- where list l starts: the counts before it, added up; for l the list count, all of them
  unfoldable pub list_at : ℕ → ℕ
  list_at zero = 0
  list_at (suc l) = list_at l + count_of l

  -- posting i of list l
  unfoldable pub doc_of : ℕ → ℕ → ℕ
  unfolding list_at
  doc_of l i = get_or c.docs (list_at l + i) 0

  unfoldable pub freq_of : ℕ → ℕ → ℕ
  unfolding list_at
  freq_of l i = get_or c.freqs (list_at l + i) 0

  -- kind 0 has a byte for each document, kind 1 one code for all
  abbrev pub reader_of : Bool → FieldNormReader
  reader_of true = FromData 0
  reader_of false = Const c.code

  -- document d's norm code
  unfoldable pub code_of : ℕ → ℕ
  code_of d = fieldnorm_id (reader_of (eqb c.kind 0)) c.norms d

  -- the unstepped score of posting i of list l
  unfoldable pub score_of : ℕ → ℕ → Float
  unfolding doc_of freq_of code_of
  score_of l i = bm25.score_of (weight_of l) c.average (code_of (doc_of l i)) (freq_of l i)

-- what the types of the buffers say: norm codes are bytes, weights and the average are f32 values
pub record Typed (c : Contents) : Type 0 where
  pub norm-bytes : (d : ℕ) → get_or c.norms d 0 < 256
  pub average-f32 : T (fits binary32 c.average)
  pub weights-f32 : (l : ℕ) → l < lists c → T (fits binary32 (weight_of c l))
