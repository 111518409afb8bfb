-- What rows 1 to 4 show of contents, number by number.
use Rattle.std.specs.Prelude.{◌≡◌, cond, ℕ, ◌≤◌, ◌<◌, T, eqb, length}
use Rattle.bm25.specs.Limits.{weight_ok, average_ok}
use Rattle.contents.specs.Contents.{Contents, lists, weight_of, count_of, list_at}

pub record HeadOk (c : Contents) : Type 0 where
  -- row 1
  pub few-lists : lists c ≤ 16
  pub few-documents : c.documents ≤ 1048576
  pub kind-in : c.kind ≤ 1
  pub code_in : c.code < 256
  pub no_code : c.kind ≡ 0 → c.code ≡ 0
  -- row 2
  pub average-in : T (average_ok c.average)
  -- row 3
  pub norms-long : length c.norms ≡ cond (eqb c.kind 0) c.documents 0
  pub weights-long : length c.weights ≡ lists c
  pub docs-long : length c.docs ≡ list_at c (lists c)
  pub freqs-long : length c.freqs ≡ list_at c (lists c)
  -- row 4
  pub weight-in : (l : ℕ) → l < lists c → T (weight_ok (weight_of c l))
  pub count-in : (l : ℕ) → l < lists c → count_of c l ≤ c.documents
