-- 02, order 1: "the only file of the house form". An accepted file in house form that reads these contents is their file.
use mathlib.Core.Path.{◌≡◌, sym, ap, ◌∙◌, subst}
use mathlib.Core.Bool.{Bool, true, not, cond}
use mathlib.Core.List.{List}
use Prim.Native.Nat.{ℕ, zero, suc, ◌+◌, ◌*◌, ◌/◌, ◌≤◌, ◌<◌}
use native.Mathlib.Omega.{arith}
use lib.Dec.{T, eqb, leb}
use lib.ListN.{length, get_or}
use lib.Ieee.{binary32, of_bits, to_bits}
use lib.Ieee.Bits.{to_bits-of_bits, nan_bits_is}
use borrow.Author.Tests.{eqb-true}
use Rattle.arrays.proofs.Every.{first-true, second-true}
use Rattle.codec.proofs.BitFields.{bits-lt}
use Rattle.pieces.specs.Inner.Written.{Stands}
use Rattle.pieces.proofs.Standing.{both-stand}
use Rattle.encode.proofs.FieldBytes.{HeaderAt, EntryAt, header-only, entry-only}
use Rattle.bm25.specs.Limits.{weight_ok}
use Rattle.bm25.proofs.Numbers.{weight-number, average-number}
use Rattle.notefile.specs.Header as header
use Rattle.notefile.specs.Parts.{skips_at, part_of, weight_bits, skip_length, postings_length}
use Rattle.notefile.specs.Conditions.{header_right, average_right}
use Rattle.notefile.specs.Refusal.{file_refusal}
use Rattle.notefile.specs.declared.part.Part.{Part}
use Rattle.notefile.proofs.Headers.{few-documents, norm-code-small}
use Rattle.notefile.proofs.Accepted.{header-right, average-right, exact-length, list-accepted, list-limits}
use Rattle.contents.specs.Contents.{Contents, lists, weight_of, count_of, doc_of, freq_of, code_of, score_of}
use Rattle.house.specs.House.{skips_bytes, postings_bytes, list_skips, list_postings, header, entry, house_file}
use Rattle.house.specs.Form.{HouseForm}
use Rattle.house.specs.Reads.{Reads}
use Rattle.house.proofs.Given.{Scored, Laid, Read}
use Rattle.house.proofs.OnlyList.{list-only}
use Rattle.house.proofs.ListSkips.{skips-long}
use Rattle.house.proofs.FilePlaces.{Housed, list_place, list_piece, next-list, parts_none, housed-house}
use Rattle.house.proofs.Readable.{read-code, read_head, count-read, postings-sound, score-same}

module _ (s : List ℕ) (c : Contents) (bytes : (i : ℕ) → get_or s i 0 < 256) (e : file_refusal s ≡ 0) (F : HouseForm s) (R : Reads s c) where
  few : header.documents s ≤ 1048576
  few = few-documents s (header-right s e)

  in-file : {l : ℕ} → l < lists c → l < header.list_count s
  in-file {l} h = subst (λ (n : ℕ). l < n) (sym R.lists-are) h

  -- weights and the average have one pattern each
  average-bits : header.average_bits s 0 ≡ to_bits binary32 c.average
  unfolding average_right
  average-bits =
      let n = header.average_bits s 0 in
      sym (to_bits-of_bits binary32 n (bits-lt s 40 32) (subst (λ (b : Bool). T (not b)) (nan_bits_is binary32 n) (average-number n (average-right s e))))
      ∙ ap (to_bits binary32) R.average-is

  header_at : HeaderAt s c.kind (lists c) c.code c.documents (to_bits binary32 c.average)
  unfolding header_right
  header_at =
      let h = second-true (leb 9 (length s)) _ (header-right s e) in
      record {
        version-is = eqb-true (header.version s) 1 (first-true (eqb (header.version s) 1) _ h);
        kind-is = R.kind-is;
        lists-is = R.lists-are;
        code_is = R.code_is;
        documents-is = R.documents-are;
        spare-is = eqb-true (header.spare s) 0 (first-true (eqb (header.spare s) 0) _ (second-true (eqb (header.version s) 1) _ h));
        average-is = average-bits;
      }

  module _ (l : ℕ) (h : l < lists c) where
    abbrev x : Part
    x = part_of s l

    kind-8 : x.skip_entry_len ≡ 8
    unfolding part_of
    kind-8 = omega (arith, F.kinds l (in-file h))

    in-contents : {i : ℕ} → i < x.count → i < count_of c l
    in-contents {i} k = subst (λ (n : ℕ). i < n) (count-read s c e R l h) k

    read : Read s x (doc_of c l) (freq_of c l)
    read = record {
      right = list-accepted s e l (in-file h);
      form = F.each l (in-file h);
      docs-are = λ i k. (R.each l h).docs-are i (in-contents k);
      freqs-are = λ i k. (R.each l h).freqs-are i (in-contents k);
    }

    below : (i : ℕ) → i < x.count → doc_of c l i < c.documents
    below i k = (postings-sound s c e R l h).below i (in-contents k)

    scored : Scored s x (doc_of c l) (freq_of c l) (code_of c) (score_of c l)
    scored = record {
      limits = list-limits s e l (in-file h);
      norm-is = λ i k. read-code s c e R (doc_of c l i) (below i k);
      norm-byte = λ i k. subst (λ (z : ℕ). z < 256) (sym (read-code s c e R (doc_of c l i) (below i k))) (norm-code-small s bytes (doc_of c l i));
      score-is = λ i k. score-same s c e R l h i (in-contents k);
    }

    laid : Laid s x (doc_of c l) (freq_of c l) (code_of c) (score_of c l)
    laid = list-only s x (doc_of c l) (freq_of c l) (code_of c) (score_of c l) bytes kind-8 few scored read

    -- its bytes are those of the contents' list
    abbrev skips_of : ℕ → List ℕ
    skips_of n = skips_bytes (doc_of c l) (freq_of c l) (code_of c) (score_of c l) (n / 128)

    skips-are : skips_of x.count ≡ list_skips c l
    unfolding list_skips
    skips-are = ap skips_of (count-read s c e R l h)

    postings-are : postings_bytes (doc_of c l) (freq_of c l) x.count ≡ list_postings c l
    unfolding list_postings
    postings-are = ap (postings_bytes (doc_of c l) (freq_of c l)) (count-read s c e R l h)

    skips-length : skip_length s l ≡ length (list_skips c l)
    unfolding part_of
    skips-length =
        let a = laid.then-postings in
        let b = skips-long (doc_of c l) (freq_of c l) (code_of c) (score_of c l) (x.count / 128) in
        sum (skips_at s l) (skip_length s l) (8 * (x.count / 128)) a ∙ sym b ∙ ap length skips-are
      where
        sum : (p a b : ℕ) → p + a ≡ p + b → a ≡ b
        sum p a b q = omega arith

    postings-length : postings_length s l ≡ length (list_postings c l)
    unfolding part_of skips_at
    postings-length = sum (skips_at s l + skip_length s l) (postings_length s l) (length (postings_bytes (doc_of c l) (freq_of c l) x.count)) laid.then-end ∙ ap length postings-are
      where
        sum : (p a b : ℕ) → p + a ≡ p + b → a ≡ b
        sum p a b q = omega arith

    weight-right : weight_ok (of_bits binary32 (weight_bits s l)) ≡ true
    unfolding part_of
    weight-right = (list-limits s e l (in-file h)).weight

    weight-bits : weight_bits s l ≡ to_bits binary32 (weight_of c l)
    weight-bits =
        let n = weight_bits s l in
        sym (to_bits-of_bits binary32 n (bits-lt s (8 * (9 + 13 * l)) 32) (subst (λ (b : Bool). T (not b)) (nan_bits_is binary32 n) (weight-number n weight-right)))
        ∙ ap (to_bits binary32) (R.each l h).weight_is

    entry_at : EntryAt s (9 + 13 * l) (to_bits binary32 (weight_of c l)) (count_of c l) 0 (length (list_skips c l)) (length (list_postings c l))
    entry_at = record {
      weight_is = weight-bits;
      count-is = (R.each l h).count-is;
      kind-is = F.kinds l (in-file h);
      skips-is = skips-length;
      postings-is = postings-length;
    }

    skips-stand : Stands s (skips_at s l) (list_skips c l)
    unfolding part_of
    skips-stand = subst (Stands s (skips_at s l)) skips-are laid.skips-stand

    postings-stand : Stands s (skips_at s l + skip_length s l) (list_postings c l)
    unfolding part_of
    postings-stand = subst (Stands s (skips_at s l + skip_length s l)) postings-are laid.postings-stand

    list-stands : Stands s (skips_at s l) (list_piece c l)
    list-stands =
        both-stand s (skips_at s l) (list_skips c l) (list_postings c l) skips-stand
        (subst (λ (n : ℕ). Stands s (skips_at s l + n) (list_postings c l)) skips-length postings-stand)

  -- where list l's parts start
  list-starts : (l : ℕ) → l ≤ lists c → skips_at s l ≡ list_place c l
  unfolding skips_at
  list-starts zero h =
      let k = ap (λ (z : ℕ). cond (eqb z 0) (header.documents s) 0) R.kind-is ∙ ap (λ (z : ℕ). cond (eqb c.kind 0) z 0) R.documents-are in
      omega (arith, R.lists-are, k, (read_head s c e R).norms-long, ap length (parts_none c))
  list-starts (suc l) h = omega (arith, list-starts l (omega arith), skips-length l h, postings-length l h, next-list c l)

  housed : Housed c s
  unfolding header entry
  housed = record {
    header-stands = header-only s c.kind (lists c) c.code c.documents (to_bits binary32 c.average) bytes header_at;
    entry-stands = λ l h.
        entry-only s (9 + 13 * l) (to_bits binary32 (weight_of c l)) (count_of c l) 0 (length (list_skips c l)) (length (list_postings c l)) bytes (entry_at l h);
    norms-stand = record { at = λ d h. ap (λ (n : ℕ). get_or s (9 + 13 * n + d) 0) (sym R.lists-are) ∙ R.norms-are d h };
    list-stands = λ l h. subst (λ (p : ℕ). Stands s p (list_piece c l)) (list-starts l (omega arith)) (list-stands l h);
    long = exact-length s e ∙ ap (skips_at s) R.lists-are ∙ list-starts (lists c) (omega arith);
  }

  pub house-only : s ≡ house_file c
  house-only = housed-house c s housed
