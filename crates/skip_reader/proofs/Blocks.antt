-- A loaded block is the list's, from its first place on, and its documents never fall.
use mathlib.Core.Path.{◌≡◌, sym, ap, subst, ◌∙◌}
use mathlib.Core.List.{List}
use mathlib.Core.Logic.{inl, inr}
use Prim.Native.Nat.{ℕ, zero, suc, ◌+◌, ◌-◌, ◌*◌, ◌/◌, ◌%◌, ◌≤◌, ◌<◌}
use native.Mathlib.Nat.{le_refl, le_of_lt}
use native.Mathlib.Numerals.{add-one}
use native.Mathlib.Omega.{arith}
use lib.ListN.{get_or, set}
use borrow.Author.Tests.{lt-ltb, le-ltb, le-leb}
use Rattle.arrays.proofs.Order.{lt-or-ge}
use Rattle.arrays.proofs.Every.{all}
use Rattle.block_search.specs.Inner.Segments.{Sorted}
use Rattle.route.specs.Postings.{start}
use Rattle.notefile.specs.Lists.{full_blocks, block_size, block_at, tail_at}
use Rattle.notefile.specs.Skips.{freq_width}
use Rattle.notefile.specs.Conditions.{block_docs_right}
use Rattle.notefile.specs.Inner.Structs.{last_before}
use Rattle.notefile.specs.Inner.Given.{BlockRight, PackedIn}
use Rattle.notefile.specs.Inner.Reads.{docs_of, freqs_of, Loaded, Padded, Sized}
use Rattle.notefile.proofs.NarrowBlocks.{freq-narrow}
use Rattle.notefile.proofs.Pairs.{new-docs, new-freqs, old-docs, two-still}
use Rattle.notefile.specs.declared.part.Part.{Part}
use Rattle.notefile.proofs.FullBlocks.{packed-in, previous-same}
use Rattle.notefile.proofs.ListLaws.{place_in, list-doc-below, list-docs-rise}
use Rattle.skip_reader.specs.Inner.Decoded.{doc_in, freq_in, Decoded, ListIn}
use Rattle.skip_reader.specs.Inner.Reader.{Stands, remaining}
use Rattle.skip_reader.specs.declared.skip.SkipReader.{SkipReader}
use Rattle.skip_reader.proofs.Readers.{place_is, previous-is}

module _ {file : List ℕ} {x : Part} (L : ListIn file x) where
  -- the skip entry's last document serves as the previous one
  right-block : (b : ℕ) → b ≤ full_blocks x → BlockRight file x b (last_before file x b)
  right-block b h = record {
    few = L.few;
    docs = L.right.docs b h;
    freqs = L.right.freqs b h;
    previous-is = previous-same file x b h (all (block_docs_right file x) b (λ i m. L.right.docs i (omega arith)));
  }

  module _ (r : SkipReader) (S : Stands file x r) (h : r.block ≤ full_blocks x) where
    pub right-here : BlockRight file x r.block r.last_doc_in_previous_block
    right-here = rw (previous-is file x r S, le-leb r.block (full_blocks x) h) (right-block r.block h)

    place_here : r.byte_offset ≡ block_at file x r.block
    place_here = place_is file x r S ∙ rw (le-leb r.block (full_blocks x) h)

  -- the reader on the tail
  pub tail-here : (r : SkipReader) → Stands file x r → r.block ≡ full_blocks x → (r.byte_offset ≡ tail_at file x) × BlockRight file x (full_blocks x) r.last_doc_in_previous_block
  tail-here r S e =
      let h : r.block ≤ full_blocks x = omega (arith, e) in
      (place_here r S h ∙ ap (block_at file x) e, subst (λ (b : ℕ). BlockRight file x b r.last_doc_in_previous_block) e (right-here r S h))

  pub full-here : (r : SkipReader) → Stands file x r → r.block < full_blocks x → PackedIn file x r.block r.byte_offset
  full-here r S h = packed-in file x L.blocks h (place_here r S (omega arith))

-- what is left of a list that has no full block from here on is its tail
pub on-tail : (x : Part) (r : SkipReader) {n : ℕ} → (full_blocks x ≤ r.block) × (n ≡ remaining x r.block) → (n ≡ 0 → ⊥) → r.block ≡ full_blocks x
on-tail x r {n} T h = elim (lt-or-ge (full_blocks x) r.block) [
  | inl l ↦ absurd (h (T.1 ∙ omega arith))
  | inr l ↦ omega (arith, T.0)
]

-- a place of block b, in the block
module _ (x : Part) (b i : ℕ) (h : b ≤ full_blocks x) (k : i < 128) where
  number_in : (start 128 b + i) / 128 ≡ b
  unfolding start
  number_in = omega arith

  rest_in : (start 128 b + i) % 128 ≡ i
  unfolding start
  rest_in = omega arith

  -- a posting is in its block
  within : start 128 b + i < x.count → i < block_size x b
  within l = rw (number_in, rest_in) at (place_in x (start 128 b + i) l)

  -- and past the last there is the tail's padding only
  past : x.count ≤ start 128 b + i → block_size x b ≤ i
  unfolding start
  past l =
      let t : full_blocks x ≤ b = omega arith in
      rw (le-ltb b (full_blocks x) t) (omega arith)

module _ {file : List ℕ} {x : Part} {b : ℕ} {docs freqs : List ℕ} (h : b ≤ full_blocks x) (D : Loaded file x b docs freqs) where
  loaded-doc : (i : ℕ) → i < 128 → get_or docs i 0 ≡ doc_in file x (start 128 b + i)
  loaded-doc i k = elim (lt-or-ge (start 128 b + i) x.count) [
    | inl l ↦ rw (lt-ltb (start 128 b + i) x.count l, number_in x b i h k, rest_in x b i h k) (D.doc-at i (within x b i h k l))
    | inr l ↦ rw (le-ltb (start 128 b + i) x.count l) (D.docs-past i (past x b i h k l) k)
  ]

  loaded-freq : (i : ℕ) → i < 128 → get_or freqs i 0 ≡ freq_in file x (start 128 b + i)
  loaded-freq i k = elim (lt-or-ge (start 128 b + i) x.count) [
    | inl l ↦ rw (lt-ltb (start 128 b + i) x.count l, number_in x b i h k, rest_in x b i h k) (D.freq-at i (within x b i h k l))
    | inr l ↦ rw (le-ltb (start 128 b + i) x.count l) (D.freqs-past i (past x b i h k l) k)
  ]

pub loaded-is : {file : List ℕ} {x : Part} {b : ℕ} (block : List (List ℕ)) → b ≤ full_blocks x → Loaded file x b (docs_of block) (freqs_of block) → Decoded file x b block
loaded-is block h D = record { docs-are = record { long = D.long-docs; at = loaded-doc h D }; freqs-are = record { long = D.long-freqs; at = loaded-freq h D } }

-- a tail of no documents, and the block behind a tail
pub empty-is : (file : List ℕ) (x : Part) (b : ℕ) {block : List (List ℕ)} {docs freqs : List ℕ} → Sized block → remaining x b ≡ 0 → Padded (docs_of block) 0 docs → Padded (freqs_of (set block 0 docs)) 0 freqs → Decoded file x b (set (set block 0 docs) 1 freqs)
unfolding start
empty-is file x b {block} {docs} {freqs} Z e D F =
    let n : x.count ≤ b * 128 = omega arith in
    let one = set block 0 docs in
    let docs-here : docs_of (set one 1 freqs) ≡ docs = old-docs one freqs ∙ new-docs block Z.two docs in
    let freqs-here : freqs_of (set one 1 freqs) ≡ freqs = new-freqs one (two-still block Z.two 0 docs) freqs in
    record {
      docs-are = rw docs-here (record { long = D.long; at = λ i k. rw (le-ltb (b * 128 + i) x.count (omega arith)) (D.past i (omega arith) k) });
      freqs-are = rw freqs-here (record { long = F.long; at = λ i k. rw (le-ltb (b * 128 + i) x.count (omega arith)) (F.past i (omega arith) k) });
    }

-- documents never fall, up to TERMINATED and on
module _ {file : List ℕ} {x : Part} (L : ListIn file x) where
  pub doc-small : (p : ℕ) → doc_in file x p ≤ 2147483647
  doc-small p = elim (lt-or-ge p x.count) [
    | inl h ↦ rw (lt-ltb p x.count h) (let d = list-doc-below file x L.right p h in omega (arith, L.few))
    | inr h ↦ rw (le-ltb p x.count h) (le_refl 2147483647)
  ]

  pub doc-rises : (p : ℕ) → doc_in file x p ≤ doc_in file x (p + 1)
  doc-rises p = elim (lt-or-ge (suc p) x.count) [
    | inl h ↦ rw (add-one, lt-ltb (suc p) x.count h, lt-ltb p x.count (omega arith)) (le_of_lt (list-docs-rise file x L.right p (suc p) (le_refl (suc p)) h))
    | inr h ↦ rw (add-one, le-ltb (suc p) x.count h) (doc-small p)
  ]

  pub decoded-sorted : {b : ℕ} {block : List (List ℕ)} → Decoded file x b block → Sorted (docs_of block)
  decoded-sorted {b} D i h = rw (D.docs-are.at i (omega arith), D.docs-are.at (i + 1) h, group (start 128 b) i) (doc-rises (start 128 b + i))
    where
      group : (a i : ℕ) → a + (i + 1) ≡ a + i + 1
      group a i = omega arith

  -- so a decoded block's last document limits them all, and TERMINATED does
  pub decoded-below : {b : ℕ} {block : List (List ℕ)} → Decoded file x b block → (i : ℕ) → i < 128 → get_or (docs_of block) i 0 < get_or (docs_of block) 127 0 + 1
  decoded-below {block = block} D i h = let l = up_to (127 - i) i (omega arith) in omega arith
    where
      up_to : (n i : ℕ) → i + n ≡ 127 → get_or (docs_of block) i 0 ≤ get_or (docs_of block) 127 0
      up_to zero i e = let f : i ≡ 127 = omega arith in subst (λ (z : ℕ). get_or (docs_of block) z 0 ≤ get_or (docs_of block) 127 0) (sym f) (le_refl (get_or (docs_of block) 127 0))
      up_to (suc n) i e = let l = up_to n (i + 1) (omega arith) in let s = decoded-sorted D i (omega arith) in omega arith

  pub decoded-small : {b : ℕ} {block : List (List ℕ)} → Decoded file x b block → (i : ℕ) → i < 128 → get_or (docs_of block) i 0 < 2147483648
  decoded-small {b} D i h = rw (D.docs-are.at i h) (let s = doc-small (start 128 b + i) in omega arith)

-- frequencies of a full block that have at most 24 bits are at most 2 ^ 24, decoded
pub decoded-narrow : {file : List ℕ} {x : Part} {b : ℕ} {block : List (List ℕ)} → Decoded file x b block → b < full_blocks x → freq_width file x b ≤ 24
    → (i : ℕ) → i < 128 → get_or (freqs_of block) i 0 ≤ 16777216
unfolding start
decoded-narrow {file} {x} {b} D full narrow i k =
    let inside : b * 128 + i < x.count = omega arith in
    let n : (b * 128 + i) / 128 ≡ b = omega arith in
    rw (D.freqs-are.at i k, lt-ltb (b * 128 + i) x.count inside, n) (freq-narrow file x b full narrow ((b * 128 + i) % 128))
