-- The house form, as a predicate on the bytes of a file, from the words of 02's order 1: "skip kind 0, strict blocks, least widths, shortest
-- VInts. A block's pair is that of its highest unstepped score, the lowest document among equals, with frequencies above 254 coded 255."
use Rattle.std.specs.Prelude.{◌≡◌, true, false, List, ℕ, suc, ◌+◌, ◌^◌, ◌≤◌, ◌<◌, get_or, Some}
use Rattle.std.specs.Float.Ieee.{lt}
use Rattle.codec.specs.VInt.{vint_at}
use Rattle.codec.specs.VInts.{vint_place, vint_value}
use Rattle.bm25_pair.specs.Pair.{freq_code}
use Rattle.notefile.specs.Header.{list_count, norm_code_of}
use Rattle.notefile.specs.Parts.{skip_kind, part_of}
use Rattle.notefile.specs.Skips.{doc_width, strict_block, freq_width, max_norm_code, max_freq_code}
use Rattle.notefile.specs.Lists.{full_blocks, tail_size, tail_at, tail_freqs_at, doc_value, freq_value, block_doc, block_freq, block_score}
use Rattle.notefile.specs.declared.part.Part.{Part}

-- a width is the least that holds 128 values: it does, and no lower one does
pub record Least (w : ℕ) (v : ℕ → ℕ) : Type 0 where
  pub holds : (i : ℕ) → i < 128 → v i < 2 ^ w
  pub least : (u : ℕ) → ((i : ℕ) → i < 128 → v i < 2 ^ u) → w ≤ u

-- of n VInts from place p on, each is the shortest: no VInt of its value, wherever it stands among bytes, has fewer
abbrev pub Shortest : List ℕ → ℕ → ℕ → ℕ → Type 0
Shortest file e p n =
    (k : ℕ) → k < n → (s : List ℕ) → ((i : ℕ) → get_or s i 0 < 256) → (end q next : ℕ)
    → vint_at s end q ≡ Some (vint_value file e p k, next) → vint_place file e p (suc k) + q ≤ next + vint_place file e p k

module _ (file : List ℕ) (x : Part) where
  -- the pair of block b is that of posting m: no score of the block is higher, and earlier ones are lower
  pub record PairOf (b m : ℕ) : Type 0 where
    pub inside : m < 128
    pub highest : (i : ℕ) → i < 128 → lt (block_score file x b m) (block_score file x b i) ≡ false
    pub lowest : (i : ℕ) → i < m → lt (block_score file x b i) (block_score file x b m) ≡ true
    pub norm-is : max_norm_code file x b ≡ norm_code_of file (block_doc file x b m)
    pub freq-is : max_freq_code file x b ≡ freq_code (block_freq file x b m)

  pub record HouseBlock (b : ℕ) : Type 0 where
    pub strict : strict_block file x b ≡ true
    pub doc-least : Least (doc_width file x b) (doc_value file x b)
    pub freq-least : Least (freq_width file x b) (freq_value file x b)
    pub top : ℕ
    pub pair : PairOf b top

  pub record HouseList : Type 0 where
    pub blocks : (b : ℕ) → b < full_blocks x → HouseBlock b
    pub docs-shortest : Shortest file x.end (tail_at file x) (tail_size x)
    pub freqs-shortest : Shortest file x.end (tail_freqs_at file x) (tail_size x)

pub record HouseForm (file : List ℕ) : Type 0 where
  pub kinds : (l : ℕ) → l < list_count file → skip_kind file l ≡ 0
  pub each : (l : ℕ) → l < list_count file → HouseList file (part_of file l)
