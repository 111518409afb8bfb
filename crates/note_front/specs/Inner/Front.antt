-- The bytes before the lists, by the lengths of their postings.
use Rattle.std.specs.Prelude.{◌≡◌, T, length, Float}
use mathlib.Core.List.{List, [], ◌++◌}
use Prim.Native.Nat.{ℕ, zero, suc, ◌+◌, ◌*◌, ◌/◌, ◌≤◌, ◌<◌}
use Rattle.std.proofs.Math.ListN.{get_or}
use Rattle.std.specs.Float.{nan}
use Rattle.std.specs.Float.Ieee.{binary32, to_bits}
use Rattle.bm25.specs.Limits.{weight_ok, average_ok}
use Rattle.encode.specs.Fields.{field_bytes, header_fields, entry_fields}
use Rattle.contents.specs.declared.Head.{Head}

module _ (weights : List Float) (counts postings : List ℕ) where
  -- list l's entry, of skip kind 0
  unfoldable pub entry_bytes : ℕ → List ℕ
  unfolding field_bytes
  entry_bytes l =
      let n = get_or counts l 0 in
      field_bytes 13 (entry_fields (to_bits binary32 (get_or weights l nan)) n 0 (8 * (n / 128)) (get_or postings l 0))

  -- the first n
  unfoldable pub entries_bytes : ℕ → List ℕ
  unfolding entry_bytes
  entries_bytes zero = []
  entries_bytes (suc l) = entries_bytes l ++ entry_bytes l

  -- those of all lists
  abbrev pub all_entries : List ℕ
  all_entries = entries_bytes (length counts)

  -- every field of the entries fits, and there is room for them behind the header
  pub record EntriesFit (out : List ℕ) : Type 0 where
    pub few-lists : length counts ≤ 16
    pub weights-long : length weights ≡ length counts
    pub weight-in : (l : ℕ) → l < length counts → T (weight_ok (get_or weights l nan))
    pub count-in : (l : ℕ) → l < length counts → get_or counts l 0 ≤ 1048576
    pub short : (l : ℕ) → l < length counts → get_or postings l 0 < 67108864
    pub room : 9 + 13 * length counts ≤ length out

module _ (h : Head) (norms : List ℕ) (weights : List Float) (counts postings : List ℕ) where
  unfoldable pub head_bytes : List ℕ
  unfolding field_bytes
  head_bytes = field_bytes 9 (header_fields h.kind (length counts) h.code h.documents (to_bits binary32 h.average))

  unfoldable pub front_bytes : List ℕ
  unfolding head_bytes entries_bytes
  front_bytes = head_bytes ++ (entries_bytes weights counts postings (length counts) ++ norms)

  -- every field fits, and there is room
  pub record FrontFits (out : List ℕ) : Type 0 where
    pub few-lists : length counts ≤ 16
    pub few-documents : h.documents ≤ 1048576
    pub kind-in : h.kind ≤ 1
    pub code_in : h.code < 256
    pub average-in : T (average_ok h.average)
    pub weights-long : length weights ≡ length counts
    pub weight-in : (l : ℕ) → l < length counts → T (weight_ok (get_or weights l nan))
    pub count-in : (l : ℕ) → l < length counts → get_or counts l 0 ≤ 1048576
    pub short : (l : ℕ) → l < length counts → get_or postings l 0 < 67108864
    pub room : 9 + 13 * length counts + length norms ≤ length out
