-- What contents are refused for (02, order 1): "the table's conditions, in its order, tried on the contents. Buffers that don't match the
-- stated counts are 3." Rows 5 and 6 are about bytes, so contents cannot meet them.
use Rattle.std.specs.Prelude.{Bool, cond, ◌&&◌, true, List, [], ◌∷◌, ◌++◌, ℕ, zero, suc, leb, length}
use Rattle.std.proofs.Math.Dec.{eqb}
use Rattle.arrays.specs.Every.{every}
use Rattle.compression.specs.Documents.{rising_below}
use Rattle.frequencies.specs.Frequencies.{freqs_right}
use Rattle.bm25.specs.Limits.{average_ok}
use Rattle.bm25.specs.Bound.{max_score, all_covered}
use Rattle.notefile.specs.Conditions.{list_fits}
use Rattle.notefile.specs.Refusal.{Test, test, first_refusal}
use Rattle.contents.specs.Contents.{Contents, lists, weight_of, count_of, list_at, doc_of, freq_of, score_of}

module _ (c : Contents) where
  -- row 1: lists and documents are few enough, the kind is one of two, no code stands beside norm bytes, and a code is a byte
  unfoldable pub head_right : Bool
  head_right =
      leb (lists c) 16
      && (leb c.documents 1048576 && (leb c.kind 1 && cond (eqb c.kind 0) (eqb c.code 0) (leb c.code 255)))

  -- row 3: a norm byte for each document under kind 0 and none under kind 1; a weight for each list; as many documents and frequencies as
  -- the counts add up to, in naturals
  unfoldable pub buffers_right : Bool
  unfolding list_at
  buffers_right =
      eqb (length c.norms) (cond (eqb c.kind 0) c.documents 0)
      && (eqb (length c.weights) (lists c) && (eqb (length c.docs) (list_at c (lists c)) && eqb (length c.freqs) (list_at c (lists c))))

  -- row 4
  unfoldable pub list_right : ℕ → Bool
  list_right l = list_fits (weight_of c l) (count_of c l) c.documents

  -- rows 7 and 8, of a whole list
  unfoldable pub docs_right : ℕ → Bool
  docs_right l = rising_below (doc_of c l) true 0 (count_of c l) c.documents

  unfoldable pub freqs_right_of : ℕ → Bool
  freqs_right_of l = freqs_right (freq_of c l) (count_of c l)

  -- row 9: the list's bound covers every score. Full blocks have no bound yet, and the one that is written for them covers theirs
  unfoldable pub bound_right : ℕ → Bool
  bound_right l = all_covered (max_score (weight_of c l) c.average) (count_of c l) (score_of c l)

  -- rows 1 to 4, which look at no posting
  abbrev pub head_tests : List Test
  head_tests = test 1 head_right ∷ test 2 (average_ok c.average) ∷ test 3 buffers_right ∷ test 4 (every (lists c) list_right) ∷ []

  unfoldable pub head_refusal : ℕ
  head_refusal = first_refusal head_tests

  -- list by list, the first n
  unfoldable pub lists_tests : ℕ → List Test
  lists_tests zero = []
  lists_tests (suc l) = lists_tests l ++ (test 7 (docs_right l) ∷ test 8 (freqs_right_of l) ∷ test 9 (bound_right l) ∷ [])

  unfoldable pub contents_tests : List Test
  unfolding lists_tests
  contents_tests = head_tests ++ lists_tests (lists c)

  -- what contents are refused for; 0: nothing
  unfoldable pub contents_refusal : ℕ
  unfolding contents_tests
  contents_refusal = first_refusal contents_tests
