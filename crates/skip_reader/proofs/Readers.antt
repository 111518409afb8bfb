-- The skip reader: each block's reader, and the loop of a seek.
use mathlib.Core.Path.{◌≡◌, refl, sym, ap, ◌∙◌}
use mathlib.Core.Bool.{Bool, cond}
use mathlib.Core.List.{List}
use mathlib.Core.Logic.{◌⊎◌, inl, inr}
use Prim.Native.Nat.{ℕ, suc, pred, ◌+◌, ◌-◌, ◌*◌, ◌/◌, ◌%◌, ◌≤◌, ◌<◌}
use native.Mathlib.Omega.{arith}
use lib.Dec.{ltb}
use lib.ListN.{length}
use borrow.Author.Tests.{lt-ltb, le-ltb, le-leb, lt-leb}
use Rattle.arrays.proofs.Order.{lt-or-ge}
use Rattle.route.specs.Postings.{start, last_doc as end_of}
use Rattle.route.specs.Cursor.{skip_to}
use Rattle.bm25.specs.declared.Scoring.{Scoring}
use Rattle.notefile.specs.Skips.{last_doc, doc_width, strict_block, freq_width, max_norm_code, max_freq_code}
use Rattle.notefile.specs.Lists.{full_blocks, block_at, list_doc}
use Rattle.notefile.specs.Inner.Structs.{skip_entry_of}
use Rattle.notefile.specs.Inner.Given.{BlocksIn, PackedIn}
use Rattle.notefile.specs.declared.part.Part.{Part}
use Rattle.notefile.specs.declared.skip.SkipEntry.{SkipEntry}
use Rattle.notefile.proofs.FullBlocks.{packed-in}
use Rattle.notefile.proofs.ListLaws.{last-is}
use Rattle.decoded.specs.Lists.{list_of}
use Rattle.skip_reader.specs.Inner.Decoded.{ListIn}
use Rattle.skip_reader.specs.Inner.Reader.{remaining, last_in, previous_in, place_in, info_in, reader_at, Stands, Sought}
use Rattle.skip_reader.specs.declared.skip.BlockInfo.TheVariants.{BitPacked, VInt}
use Rattle.skip_reader.specs.declared.skip.SkipReader.{SkipReader}

-- fewer than 128 documents are left from the tail on, and only from there
pub no_more : (x : Part) (b : ℕ) → remaining x b < 128 → full_blocks x ≤ b
no_more x b h = omega arith

pub still_full : (x : Part) (b : ℕ) → 128 ≤ remaining x b → b < full_blocks x
still_full x b h = omega arith

module _ (file : List ℕ) (x : Part) (b : ℕ) where
  -- the two readers that are made: on the tail or behind it, and on a full block
  module _ {at previous left : ℕ} (ea : at ≡ place_in file x b) (ep : previous ≡ previous_in file x b) (el : left ≡ remaining x b) where
    pub tail-reader : left < 128 → record { last_doc_in_block = 2147483647; last_doc_in_previous_block = previous; block = b; byte_offset = at; remaining_docs = left; block_info = VInt left } ≡ reader_at file x b
    unfolding reader_at
    tail-reader h = rw (ea, ep, el, le-ltb b (full_blocks x) (no_more x b (omega arith)))

    pub full-reader : (b < full_blocks x) → (e : SkipEntry) → e ≡ skip_entry_of file x b → record { last_doc_in_block = e.last; last_doc_in_previous_block = previous; block = b; byte_offset = at; remaining_docs = left; block_info = BitPacked e.doc_bits e.strict e.freq_bits e.norm_code e.freq_code } ≡ reader_at file x b
    unfolding reader_at skip_entry_of
    full-reader h e ee = rw (ea, ep, el, ee, lt-ltb b (full_blocks x) h)

pub first-place : (file : List ℕ) (x : Part) → x.postings ≡ place_in file x 0
unfolding block_at
first-place file x = rw (le-leb 0 (full_blocks x) (omega arith))

pub first-previous : (file : List ℕ) (x : Part) → 0 ≡ previous_in file x 0
first-previous file x = rw (le-leb 0 (full_blocks x) (omega arith))

pub first-left : (x : Part) → x.count ≡ remaining x 0
first-left x = omega arith

-- a packed block's info is its skip entry's
pub record Packed (file : List ℕ) (x : Part) (b width : ℕ) (strict : Bool) (freqs norm freq : ℕ) : Type 0 where
  pub full : b < full_blocks x
  pub width_is : width ≡ doc_width file x b
  pub strict-is : strict ≡ strict_block file x b
  pub freqs-is : freqs ≡ freq_width file x b
  pub norm-is : norm ≡ max_norm_code file x b
  pub freq-is : freq ≡ max_freq_code file x b

module _ (file : List ℕ) (x : Part) (r : SkipReader) (S : Stands file x r) where
  info-is : r.block_info ≡ info_in file x r.block
  unfolding reader_at
  info-is = ap (λ (z : SkipReader). z.block_info) S

  pub place_is : r.byte_offset ≡ place_in file x r.block
  unfolding reader_at
  place_is = ap (λ (z : SkipReader). z.byte_offset) S

  pub last-here : r.last_doc_in_block ≡ last_in file x r.block
  unfolding reader_at
  last-here = ap (λ (z : SkipReader). z.last_doc_in_block) S

  pub previous-is : r.last_doc_in_previous_block ≡ previous_in file x r.block
  unfolding reader_at
  previous-is = ap (λ (z : SkipReader). z.last_doc_in_previous_block) S

  pub left_is : r.remaining_docs ≡ remaining x r.block
  unfolding reader_at
  left_is = ap (λ (z : SkipReader). z.remaining_docs) S

  pub packed-info : {w f n m : ℕ} {s : Bool} → r.block_info ≡ BitPacked w s f n m → Packed file x r.block w s f n m
  packed-info {w} {f} {n} {m} {s} e = go (lt-or-ge r.block (full_blocks x))
    where
      go : (r.block < full_blocks x) ⊎ (full_blocks x ≤ r.block) → Packed file x r.block w s f n m
      go (inl h) =
          let i : BitPacked w s f n m ≡ BitPacked (doc_width file x r.block) (strict_block file x r.block) (freq_width file x r.block) (max_norm_code file x r.block) (max_freq_code file x r.block) = sym e ∙ info-is ∙ rw (lt-ltb r.block (full_blocks x) h) in
          record { full = h; width_is = cc; strict-is = cc; freqs-is = cc; norm-is = cc; freq-is = cc }
      go (inr h) =
          let i : BitPacked w s f n m ≡ VInt (remaining x r.block) = sym e ∙ info-is ∙ rw (le-ltb r.block (full_blocks x) h) in
          let z : ◌≡◌ {A = ℕ} 0 1 = cc in
          absurd (omega arith)

  pub tail-info : {n : ℕ} → r.block_info ≡ VInt n → (full_blocks x ≤ r.block) × (n ≡ remaining x r.block)
  tail-info {n} e = go (lt-or-ge r.block (full_blocks x))
    where
      go : (r.block < full_blocks x) ⊎ (full_blocks x ≤ r.block) → (full_blocks x ≤ r.block) × (n ≡ remaining x r.block)
      go (inl h) =
          let i : VInt n ≡ BitPacked (doc_width file x r.block) (strict_block file x r.block) (freq_width file x r.block) (max_norm_code file x r.block) (max_freq_code file x r.block) = sym e ∙ info-is ∙ rw (lt-ltb r.block (full_blocks x) h) in
          let z : ◌≡◌ {A = ℕ} 0 1 = cc in
          absurd (omega arith)
      go (inr h) =
          let i : VInt n ≡ VInt (remaining x r.block) = sym e ∙ info-is ∙ rw (le-ltb r.block (full_blocks x) h) in
          (h, cc)

  -- the block after a full one
  module _ (B : BlocksIn file x) {w f n m : ℕ} {s : Bool} (P : Packed file x r.block w s f n m) where
    here : PackedIn file x r.block (block_at file x r.block)
    here = packed-in file x B P.full refl

    pub narrow : (w < 32) × (f ≤ 32)
    narrow = (omega (arith, P.width_is), omega (arith, P.freqs-is, here.narrow))

    pub place-full : r.byte_offset ≡ block_at file x r.block
    place-full = place_is ∙ rw (le-leb r.block (full_blocks x) (omega (arith, P.full)))

    pub ends-inside : r.byte_offset + 16 * (w + f) ≤ length file
    ends-inside = rw (place-full, P.width_is, P.freqs-is) here.inside

    pub next_place : r.byte_offset + 16 * (w + f) ≡ place_in file x (suc r.block)
    unfolding block_at
    next_place = rw (place-full, P.width_is, P.freqs-is, le-leb (suc r.block) (full_blocks x) P.full)

    pub next-previous : r.last_doc_in_block ≡ previous_in file x (suc r.block)
    next-previous = last-here ∙ rw (lt-ltb r.block (full_blocks x) P.full)

    pub next-left : r.remaining_docs - 128 ≡ remaining x (suc r.block)
    next-left = omega (arith, left_is)

    pub left-full : 128 ≤ r.remaining_docs
    left-full = omega (arith, left_is, P.full)

  -- a reader on a full block has its skip entry
  pub entry_here : {w f n m : ℕ} {s : Bool} → Packed file x r.block w s f n m
      → record { last = r.last_doc_in_block; doc_bits = w; strict = s; freq_bits = f; norm_code = n; freq_code = m } ≡ skip_entry_of file x r.block
  unfolding skip_entry_of
  entry_here P = rw (last-here, lt-ltb r.block (full_blocks x) P.full, P.width_is, P.strict-is, P.freqs-is, P.norm-is, P.freq-is)

  -- behind the tail
  module _ (h : full_blocks x ≤ r.block) where
    pub behind-place : x.end ≡ place_in file x (suc r.block)
    behind-place = rw (lt-leb (suc r.block) (full_blocks x) (omega arith))

    pub behind-previous : r.last_doc_in_block ≡ previous_in file x (suc r.block)
    behind-previous = last-here ∙ rw (le-ltb r.block (full_blocks x) h)

    pub behind-left : 0 ≡ remaining x (suc r.block)
    behind-left = omega arith

-- a block's reader has its number
pub block-is : (file : List ℕ) (x : Part) (b : ℕ) {r : SkipReader} → r ≡ reader_at file x b → r.block ≡ b
unfolding reader_at
block-is file x b e = ap (λ (z : SkipReader). z.block) e

pub stands_on : (file : List ℕ) (x : Part) (b : ℕ) {r : SkipReader} → r ≡ reader_at file x b → Stands file x r
stands_on file x b e = e ∙ sym (ap (reader_at file x) (block-is file x b e))

-- a block ends where the route has it end
module _ (file : List ℕ) (x : Part) (L : ListIn file x) (s : Scoring) where
  last-place : (b : ℕ) → b < full_blocks x → list_doc file x (pred (start 128 (suc b))) ≡ last_doc file x b
  unfolding start
  last-place b h =
      let p : pred (suc b * 128) / 128 ≡ b = omega arith in
      let q : pred (suc b * 128) % 128 ≡ 127 = omega arith in
      rw (p, q) (last-is file x L.right b h)

  pub end_is : (b : ℕ) → end_of (list_of s file x) 128 b ≡ last_in file x b
  unfolding list_of
  end_is b = elim (lt-or-ge b (full_blocks x)) [
    | inl h ↦ rw (lt-ltb b (full_blocks x) h) (last-place b h)
    | inr h ↦ rw (le-ltb b (full_blocks x) h)
  ]

-- a seek: what the route's search finds from here is what it finds from the start
pub record Seeking (file : List ℕ) (x : Part) (target from : ℕ) (r : SkipReader) : Type 0 where
  pub stands : Stands file x r
  pub low : r.block < 4294967296
  pub same : (scoring : Scoring) → skip_to (list_of scoring file x) 128 target (full_blocks x - from) from ≡ skip_to (list_of scoring file x) 128 target (full_blocks x - r.block) r.block

module _ (file : List ℕ) (x : Part) (target : ℕ) where
  pub begun : (r : SkipReader) → Stands file x r → r.block < 4294967296 → Seeking file x target r.block r
  begun r S h = record { stands = S; low = h; same = λ s. refl }

  module _ {from : ℕ} (r : SkipReader) (K : Seeking file x target from r) where
    -- the tail is as far as a seek goes
    pub at_tail : full_blocks x ≤ r.block → Sought file x target from r
    at_tail h s =
        let e : full_blocks x - r.block ≡ 0 = omega arith in
        K.stands ∙ sym (ap (reader_at file x) (K.same s ∙ rw e))

    module _ (L : ListIn file x) where
      here-is : (s : Scoring) → end_of (list_of s file x) 128 r.block ≡ r.last_doc_in_block
      here-is s = end_is file x L s r.block ∙ sym (last-here file x r K.stands)

      steps : r.block < full_blocks x → (s : Scoring) → skip_to (list_of s file x) 128 target (full_blocks x - r.block) r.block ≡ cond (ltb r.last_doc_in_block target) (skip_to (list_of s file x) 128 target (full_blocks x - suc r.block) (suc r.block)) r.block
      steps h s =
          let e : full_blocks x - r.block ≡ suc (full_blocks x - suc r.block) = omega arith in
          rw (e, here-is s)

      pub found : target ≤ r.last_doc_in_block → Sought file x target from r
      found t = elim (lt-or-ge r.block (full_blocks x)) [
        | inl h ↦ λ s. K.stands ∙ sym (ap (reader_at file x) (K.same s ∙ steps h s ∙ rw (le-ltb r.last_doc_in_block target t)))
        | inr h ↦ at_tail h
      ]

      pub goes_on : r.block < full_blocks x → r.last_doc_in_block < target → (r' : SkipReader) → r' ≡ reader_at file x (suc r.block) → Seeking file x target from r'
      goes_on h t r' e =
          let n : r'.block ≡ suc r.block = block-is file x (suc r.block) e in
          record {
            stands = stands_on file x (suc r.block) e;
            low = omega (arith, L.blocks.skipped.parted.few);
            same = λ s. rw n (K.same s ∙ steps h s ∙ rw (lt-ltb r.last_doc_in_block target t));
          }
