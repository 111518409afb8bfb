-- The postings of a block, from a place of their buffers on: their tests, their copy and their bytes.
use Rattle.std.specs.Prelude.{◌≡◌, Bool, true, false, cond, List, ℕ, suc, ◌+◌, ◌-◌, ◌≤◌, ◌<◌, length, get_or}
use Rattle.compression.specs.Documents.{rising_below}
use Rattle.frequencies.specs.Frequencies.{freqs_right}
use Rattle.encode.specs.Differences.{differ}
use Rattle.encode.specs.Inner.VIntBytes.{row_length}
use Rattle.notefile.specs.Inner.Order.{first_of}

-- number i from a place on
abbrev pub on_from : List ℕ → ℕ → ℕ → ℕ
on_from xs at i = get_or xs (at + i) 0

-- the document before a place; 0 before a list's first
abbrev pub doc_behind : List ℕ → ℕ → Bool → ℕ
doc_behind docs at first = cond first 0 (get_or docs (at - 1) 0)

-- n postings stand there, and one before them unless they are a list's first
pub record Standing (docs freqs : List ℕ) (at n : ℕ) (first : Bool) : Type 0 where
  pub docs-in : at + n ≤ length docs
  pub freqs-in : at + n ≤ length freqs
  pub few : n ≤ 128
  pub behind : first ≡ false → 0 < at

module _ (docs freqs : List ℕ) (at n : ℕ) (first : Bool) where
  -- what rows 7 and 8 refuse them for
  abbrev pub refused_for : ℕ → ℕ
  refused_for limit = first_of (rising_below (on_from docs at) first (doc_behind docs at first) n limit) (freqs_right (on_from freqs at) n) true

  -- that, and a copy of those that are not refused
  pub record Loaded (limit r : ℕ) (docs-out freqs-out : List ℕ) : Type 0 where
    pub same : r ≡ refused_for limit
    pub docs-are : r ≡ 0 → (i : ℕ) → i < n → get_or docs-out i 0 ≡ on_from docs at i
    pub freqs-are : r ≡ 0 → (i : ℕ) → i < n → get_or freqs-out i 0 ≡ on_from freqs at i

  -- they are not refused
  pub record Right : Type 0 where
    pub standing : Standing docs freqs at n first
    pub above : 0 < n → first ≡ false → doc_behind docs at first < on_from docs at 0
    pub rise : (i : ℕ) → suc i < n → on_from docs at i < on_from docs at (suc i)
    pub low : (i : ℕ) → i < n → on_from docs at i < 1048576
    pub some : (i : ℕ) → i < n → 0 < on_from freqs at i
    pub most : (i : ℕ) → i < n → on_from freqs at i ≤ 2013265944

-- the bytes of a tail
unfoldable pub tail_length : List ℕ → List ℕ → ℕ → ℕ → Bool → ℕ
unfolding differ
tail_length docs freqs at n first =
    row_length n (differ (on_from docs at) false first (doc_behind docs at first)) + row_length n (on_from freqs at)
