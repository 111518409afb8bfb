-- What acceptance gives: each condition by itself, and what the readers ask.
use mathlib.Core.Path.{◌≡◌, refl, sym, ap, ◌∙◌}
use mathlib.Core.Bool.{Bool, true, false}
use mathlib.Core.List.{List}
use mathlib.Core.Logic.{inl, inr}
use Prim.Native.Nat.{ℕ, zero, suc, suc-le-suc, ◌+◌, ◌*◌, ◌≤◌, ◌<◌}
use native.Mathlib.Nat.{le_of_suc-le-suc, eq-or-lt_of_le, not-suc-le-zero}
use native.Mathlib.Omega.{arith}
use lib.Dec.{eqb, leb}
use lib.ListN.{length}
use borrow.Author.Tests.{leb-true, eqb-true}
use Rattle.arrays.specs.Every.{every}
use Rattle.arrays.proofs.Every.{first-true, second-true, each, all}
use Rattle.notefile.specs.Header.{list_count, norms_at}
use Rattle.notefile.specs.Parts.{skips_at, part_of}
use Rattle.notefile.specs.Lists.{full_blocks, tail_at}
use Rattle.notefile.specs.Conditions.{header_right, average_right, length_right, entry_right, skip_right, skips_right, postings_right, block_docs_right, block_freqs_right, bounds_right}
use Rattle.notefile.specs.Refusal.{unless, file_refusal}
use Rattle.notefile.specs.Inner.Order.{or_else, blocks_refusal, list_refusal, lists_refusal}
use Rattle.notefile.specs.Inner.Structs.{header_of, last_before}
use Rattle.notefile.specs.Inner.Given.{ListRight, HeaderIn, Parted, BlocksIn, BlockRight, Limits}
use Rattle.notefile.specs.declared.part.Part.{Part}
use Rattle.notefile.proofs.Headers.{few-documents, header-in}
use Rattle.notefile.proofs.Entries.{parted, limits}
use Rattle.notefile.proofs.FullBlocks.{previous-same}
use Rattle.notefile.proofs.Order.{lists-next}

-- no number: the condition is clear, and so is what comes after it
clear : (z : Bool) (n later : ℕ) → 0 < n → unless z n later ≡ 0 → z ≡ true
clear true n later h e = refl
clear false n later h e = absurd (omega arith)

after : (z : Bool) (n later : ℕ) → 0 < n → unless z n later ≡ 0 → later ≡ 0
after true n later h e = e
after false n later h e = absurd (omega arith)

first-none : (a b : ℕ) → or_else a b ≡ 0 → a ≡ 0
first-none zero b e = refl
first-none (suc a) b e = e

later-none : (a b : ℕ) → or_else a b ≡ 0 → b ≡ 0
later-none zero b e = e
later-none (suc a) b e = absurd (omega arith)

pub list_right : (file : List ℕ) (x : Part) → list_refusal file x ≡ 0 → ListRight file x
unfolding list_refusal blocks_refusal
list_right file x e =
    let n = suc (full_blocks x) in
    let r9 = unless (every n (bounds_right file x)) 9 0 in
    let r8 = unless (every n (block_freqs_right file x)) 8 r9 in
    let r7 = unless (every n (block_docs_right file x)) 7 r8 in
    let r6 = unless (postings_right file x) 6 r7 in
    let e6 = after (skips_right file x) 5 r6 (omega arith) e in
    let e7 = after (postings_right file x) 6 r7 (omega arith) e6 in
    let e8 = after (every n (block_docs_right file x)) 7 r8 (omega arith) e7 in
    let e9 = after (every n (block_freqs_right file x)) 8 r9 (omega arith) e8 in
    record {
      skips = clear (skips_right file x) 5 r6 (omega arith) e;
      postings = clear (postings_right file x) 6 r7 (omega arith) e6;
      docs = λ b h. each (block_docs_right file x) n b (clear (every n (block_docs_right file x)) 7 r8 (omega arith) e7) (suc-le-suc h);
      freqs = λ b h. each (block_freqs_right file x) n b (clear (every n (block_freqs_right file x)) 8 r9 (omega arith) e8) (suc-le-suc h);
      bounds = λ b h. each (bounds_right file x) n b (clear (every n (bounds_right file x)) 9 0 (omega arith) e9) (suc-le-suc h);
    }

lists-none : (file : List ℕ) (n l : ℕ) → lists_refusal file n ≡ 0 → l < n → list_refusal file (part_of file l) ≡ 0
lists-none file zero l e h = absurd (not-suc-le-zero h)
lists-none file (suc n) l e h = let o = sym (lists-next file n) ∙ e in elim (eq-or-lt_of_le (le_of_suc-le-suc h)) [
  | inl q ↦ ap (λ (k : ℕ). list_refusal file (part_of file k)) q ∙ later-none (lists_refusal file n) (list_refusal file (part_of file n)) o
  | inr k ↦ lists-none file n l (first-none (lists_refusal file n) (list_refusal file (part_of file n)) o) k
]

-- what is left after each condition
module _ (file : List ℕ) where
  abbrev pub after3 : ℕ
  after3 = unless (every (list_count file) (entry_right file)) 4 (lists_refusal file (list_count file))

  abbrev pub after2 : ℕ
  after2 = unless (length_right file) 3 after3

  abbrev pub after1 : ℕ
  after1 = unless (average_right file) 2 after2

-- an accepted file
module _ (file : List ℕ) (accepted : file_refusal file ≡ 0) where
  e1 : unless (header_right file) 1 (after1 file) ≡ 0
  unfolding file_refusal lists_refusal
  e1 = accepted

  e2 : after1 file ≡ 0
  e2 = after (header_right file) 1 (after1 file) (omega arith) e1

  e3 : after2 file ≡ 0
  e3 = after (average_right file) 2 (after2 file) (omega arith) e2

  e4 : after3 file ≡ 0
  e4 = after (length_right file) 3 (after3 file) (omega arith) e3

  pub header-right : header_right file ≡ true
  header-right = clear (header_right file) 1 (after1 file) (omega arith) e1

  pub average-right : average_right file ≡ true
  average-right = clear (average_right file) 2 (after2 file) (omega arith) e2

  pub length-right : length_right file ≡ true
  length-right = clear (length_right file) 3 (after3 file) (omega arith) e3

  pub entries-right : every (list_count file) (entry_right file) ≡ true
  entries-right = clear (every (list_count file) (entry_right file)) 4 (lists_refusal file (list_count file)) (omega arith) e4

  pub exact-length : length file ≡ skips_at file (list_count file)
  unfolding length_right
  exact-length = eqb-true (length file) (skips_at file (list_count file)) (second-true (leb (norms_at file) (length file)) (eqb (length file) (skips_at file (list_count file))) length-right)

  pub header-inside : HeaderIn file (header_of file)
  unfolding header_of length_right
  header-inside = header-in file header-right (header_of file) refl (leb-true (norms_at file) (length file) (first-true (leb (norms_at file) (length file)) (eqb (length file) (skips_at file (list_count file))) length-right))

  module _ (l : ℕ) (h : l < list_count file) where
    pub list-accepted : ListRight file (part_of file l)
    list-accepted = list_right file (part_of file l) (lists-none file (list_count file) l (after (every (list_count file) (entry_right file)) 4 (lists_refusal file (list_count file)) (omega arith) e4) h)

    pub list-parted : Parted file (part_of file l)
    list-parted = parted file l (list_count file) h exact-length

    pub list-limits : Limits (part_of file l)
    list-limits = limits file l (list_count file) h average-right entries-right

    pub list-blocks : BlocksIn file (part_of file l)
    unfolding skips_right postings_right
    list-blocks =
        let x = part_of file l in
        let R = list-accepted in
        record {
          skipped = record { parted = list-parted; exact = eqb-true (x.skips + x.skip_entry_len * full_blocks x) x.postings (first-true (eqb (x.skips + x.skip_entry_len * full_blocks x) x.postings) (every (full_blocks x) (skip_right file x)) R.skips) };
          right = second-true (eqb (x.skips + x.skip_entry_len * full_blocks x) x.postings) (every (full_blocks x) (skip_right file x)) R.skips;
          inside = leb-true (tail_at file x) x.end (first-true (leb (tail_at file x) x.end) _ R.postings);
        }

    -- the skip entry's last document serves as the previous one
    pub block-right : (b : ℕ) → b ≤ full_blocks (part_of file l) → BlockRight file (part_of file l) b (last_before file (part_of file l) b)
    block-right b k =
        let x = part_of file l in
        record {
          few = few-documents file header-right;
          docs = list-accepted.docs b k;
          freqs = list-accepted.freqs b k;
          previous-is = previous-same file x b k (all (block_docs_right file x) b (λ i m. list-accepted.docs i (omega arith)));
        }
