-- What the functions that read a file leave and answer.
use Rattle.std.specs.Prelude.{◌≡◌, Bool, true, List, [], ℕ, ◌≤◌, ◌<◌, length, get_or, Float}
use Rattle.notefile.specs.Header.{norm_code_of}
use Rattle.notefile.specs.Lists.{full_blocks, tail_size, block_size, doc_value, freq_value, block_doc, block_freq, score_for}
use Rattle.notefile.specs.Conditions.{postings_right, block_docs_right, block_freqs_right, bounds_right}
use Rattle.notefile.specs.Inner.Order.{first_of}
use Rattle.notefile.specs.declared.part.Part.{Part}

-- a decoded block's documents and its frequencies
abbrev pub docs_of : List (List ℕ) → List ℕ
docs_of block = get_or block 0 []

abbrev pub freqs_of : List (List ℕ) → List ℕ
freqs_of block = get_or block 1 []

-- which are all of it, 128 places each
pub record Sized (block : List (List ℕ)) : Type 0 where
  pub two : length block ≡ 2
  pub long-docs : length (docs_of block) ≡ 128
  pub long-freqs : length (freqs_of block) ≡ 128

-- the scores of a list's postings, by their documents and frequencies
abbrev pub score_among : List ℕ → Part → List ℕ → List ℕ → ℕ → Float
score_among file x docs freqs i = score_for x (norm_code_of file (get_or docs i 0)) (get_or freqs i 0)

-- a block's documents, and whether row 7 lets them through
pub record DocsRead (file : List ℕ) (x : Part) (b : ℕ) (r : Bool) (docs : List ℕ) : Type 0 where
  pub same : r ≡ block_docs_right file x b
  pub at : r ≡ true → (i : ℕ) → i < block_size x b → get_or docs i 0 ≡ block_doc file x b i

-- a block's frequencies, and whether row 8 lets them through
pub record FreqsRead (file : List ℕ) (x : Part) (b : ℕ) (r : Bool) (freqs : List ℕ) : Type 0 where
  pub same : r ≡ block_freqs_right file x b
  pub long : length freqs ≡ 128
  pub at : r ≡ true → (i : ℕ) → i < block_size x b → get_or freqs i 0 ≡ block_freq file x b i

-- the values of the tail's VInts
pub record TailValues (file : List ℕ) (x : Part) (docs freqs : List ℕ) : Type 0 where
  pub long-docs : length docs ≡ 128
  pub long-freqs : length freqs ≡ 128
  pub doc-at : (i : ℕ) → i < tail_size x → get_or docs i 0 ≡ doc_value file x (full_blocks x) i
  pub freq-at : (i : ℕ) → i < tail_size x → get_or freqs i 0 ≡ freq_value file x (full_blocks x) i

-- these, and whether row 6 lets them through; behind the tail the arrays are as they were
pub record TailRead (file : List ℕ) (x : Part) (docs₀ freqs₀ : List ℕ) (r : Bool) (docs freqs : List ℕ) : Type 0 where
  pub same : r ≡ postings_right file x
  pub values : r ≡ true → TailValues file x docs freqs
  pub docs-kept : (i : ℕ) → tail_size x ≤ i → get_or docs i 0 ≡ get_or docs₀ i 0
  pub freqs-kept : (i : ℕ) → tail_size x ≤ i → get_or freqs i 0 ≡ get_or freqs₀ i 0

-- values with TERMINATED from place n on
pub record Padded (before : List ℕ) (n : ℕ) (out : List ℕ) : Type 0 where
  pub long : length out ≡ 128
  pub kept : (i : ℕ) → i < n → get_or out i 0 ≡ get_or before i 0
  pub past : (i : ℕ) → n ≤ i → i < 128 → get_or out i 0 ≡ 2147483647

-- a loaded block: its documents and frequencies, and TERMINATED past its end
pub record Loaded (file : List ℕ) (x : Part) (b : ℕ) (docs freqs : List ℕ) : Type 0 where
  pub long-docs : length docs ≡ 128
  pub long-freqs : length freqs ≡ 128
  pub doc-at : (i : ℕ) → i < block_size x b → get_or docs i 0 ≡ block_doc file x b i
  pub freq-at : (i : ℕ) → i < block_size x b → get_or freqs i 0 ≡ block_freq file x b i
  pub docs-past : (i : ℕ) → block_size x b ≤ i → i < 128 → get_or docs i 0 ≡ 2147483647
  pub freqs-past : (i : ℕ) → block_size x b ≤ i → i < 128 → get_or freqs i 0 ≡ 2147483647

-- what one block is refused for, of 7 to 9
abbrev pub block_refusal : List ℕ → Part → ℕ → ℕ
block_refusal file x b = first_of (block_docs_right file x b) (block_freqs_right file x b) (bounds_right file x b)
