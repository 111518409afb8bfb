-- A file in which the pieces of contents stand: its header, its entries, and where its parts are.
use mathlib.Core.Path.{◌≡◌, ap, ◌∙◌}
use mathlib.Core.Bool.{false, cond}
use mathlib.Core.List.{List, ◌++◌}
use Prim.Native.Nat.{ℕ, zero, suc, ◌+◌, ◌*◌, ◌/◌, ◌%◌, ◌≤◌, ◌<◌}
use native.Mathlib.Omega.{arith}
use lib.Dec.{eqb}
use lib.ListN.{length, length-append}
use lib.Ieee.{binary32, to_bits}
use lib.Ieee.Bits.{to_bits-lt}
use Rattle.packing.specs.Packing.{packed_block}
use Rattle.packing.proofs.Packs.{block-long}
use Rattle.packing.proofs.Widths.{width-most}
use Rattle.encode.specs.Inner.FieldsFit.{Fit}
use Rattle.encode.proofs.FieldBytes.{HeaderAt, EntryAt, header-back, entry-back}
use Rattle.encode.proofs.VIntRows.{row-most}
use Rattle.encode.specs.ShortVInt.{vint_row}
use Rattle.notefile.specs.Header.{norm_kind, documents}
use Rattle.notefile.specs.Parts.{skips_at}
use Rattle.contents.specs.Contents.{Contents, Typed, lists, weight_of, count_of, doc_of, freq_of, code_of, score_of}
use Rattle.house.specs.House.{doc_differ, doc_values, freq_values, doc_bits, freq_bits, block_bytes, blocks_bytes, tail_bytes, postings_bytes, list_skips, list_postings, header, entry}
use Rattle.contents.specs.Inner.HeadOk.{HeadOk}
use Rattle.house.proofs.FilePlaces.{Housed, head_fields, list_fields, list_place, next-list, parts_none}
use Rattle.house.proofs.ListSkips.{skips-long}

-- the postings of a list are short
module _ (d f : ℕ → ℕ) where
  block-short : (b : ℕ) → length (block_bytes d f b) ≤ 1024
  unfolding block_bytes doc_bits freq_bits
  block-short b =
      let e = length-append (packed_block (doc_values d f b) (doc_bits d f b)) (packed_block (freq_values d f b) (freq_bits d f b)) in
      let x = block-long (doc_values d f b) (doc_bits d f b) in
      let y = block-long (freq_values d f b) (freq_bits d f b) in
      omega (arith, e, x, y, width-most (doc_values d f b), width-most (freq_values d f b))

  blocks-short : (b : ℕ) → length (blocks_bytes d f b) ≤ 1024 * b
  unfolding blocks_bytes
  blocks-short zero = omega arith
  blocks-short (suc b) = let e = length-append (blocks_bytes d f b) (block_bytes d f b) in omega (arith, e, blocks-short b, block-short b)

  pub postings-short : (n : ℕ) → length (postings_bytes d f n) ≤ 1024 * (n / 128) + 10 * (n % 128)
  unfolding postings_bytes tail_bytes
  postings-short n =
      let b = n / 128 in
      let r = n % 128 in
      let docs = vint_row r (doc_differ d f false b) in
      let freqs = vint_row r (λ i. f (128 * b + i)) in
      let e = length-append (blocks_bytes d f b) (docs ++ freqs) in
      let g = length-append docs freqs in
      omega (arith, e, g, blocks-short b, row-most (doc_differ d f false b) r, row-most (λ i. f (128 * b + i)) r)

-- eight bytes for each full block of a list
pub skips-size : (c : Contents) (l : ℕ) → length (list_skips c l) ≡ 8 * (count_of c l / 128)
unfolding list_skips
skips-size c l = skips-long (doc_of c l) (freq_of c l) (code_of c) (score_of c l) (count_of c l / 128)

module _ (c : Contents) (Y : Typed c) (H : HeadOk c) (s : List ℕ) (P : Housed c s) where
  average-bits : to_bits binary32 c.average < 4294967296
  average-bits = to_bits-lt binary32 c.average Y.average-f32

  head-fits : Fit (head_fields c)
  head-fits = (
    omega arith,
    (
      omega (arith, H.kind-in),
      (omega (arith, H.few-lists), (H.code_in, (omega (arith, H.few-documents), (omega arith, (average-bits, tt))))),
    ),
  )

  pub head_at : HeaderAt s c.kind (lists c) c.code c.documents (to_bits binary32 c.average)
  unfolding header
  head_at = header-back s c.kind (lists c) c.code c.documents (to_bits binary32 c.average) head-fits P.header-stands

  module _ (l : ℕ) (h : l < lists c) where
    postings-size : length (list_postings c l) ≤ 1024 * (count_of c l / 128) + 10 * (count_of c l % 128)
    unfolding list_postings
    postings-size = postings-short (doc_of c l) (freq_of c l) (count_of c l)

    entry-fits : Fit (list_fields c l)
    entry-fits =
        let n = H.count-in l h in
        let m = H.few-documents in (
          to_bits-lt binary32 (weight_of c l) (Y.weights-f32 l h),
          (omega (arith, n, m), (omega arith, (omega (arith, n, m, skips-size c l), (omega (arith, n, m, postings-size), tt)))),
        )

    pub entry_at : EntryAt s (9 + 13 * l) (to_bits binary32 (weight_of c l)) (count_of c l) 0 (length (list_skips c l)) (length (list_postings c l))
    unfolding entry
    entry_at =
        entry-back s (9 + 13 * l) (to_bits binary32 (weight_of c l)) (count_of c l) 0 (length (list_skips c l)) (length (list_postings c l))
        entry-fits (P.entry-stands l h)

  -- where list l's parts start
  pub list-starts : (l : ℕ) → l ≤ lists c → skips_at s l ≡ list_place c l
  unfolding skips_at
  list-starts zero h =
      let k = head_at.kind-is in
      let n = head_at.lists-is in
      let d = head_at.documents-is in
      let e : cond (eqb (norm_kind s) 0) (documents s) 0 ≡ cond (eqb c.kind 0) c.documents 0 =
      ap (λ (z : ℕ). cond (eqb z 0) (documents s) 0) k ∙ ap (λ (z : ℕ). cond (eqb c.kind 0) z 0) d in
      let g = ap length (parts_none c) in
      omega (arith, n, e, H.norms-long, g)
  list-starts (suc l) h =
      let E = entry_at l h in
      omega (arith, list-starts l (omega arith), E.skips-is, E.postings-is, next-list c l)
