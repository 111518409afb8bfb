-- The header's tests in the fields that the code has, and what a right header gives.
use mathlib.Core.Path.{◌≡◌, refl, sym, ap, ◌∙◌}
use mathlib.Core.Bool.{Bool, true, false, ◌&&◌, cond}
use mathlib.Core.List.{List}
use Prim.Native.Nat.{ℕ, ◌+◌, ◌*◌, ◌/◌, ◌%◌, ◌^◌, ◌≤◌, ◌<◌}
use native.Mathlib.Nat.{add-zero}
use lib.Dec.{eqb, leb}
use lib.ListN.{length, get_or}
use borrow.Author.Tests.{leb-true, eq-eqb, ne_eqb}
use Rattle.arrays.proofs.Every.{first-true, second-true}
use Rattle.codec.specs.Bits.{bits_at}
use Rattle.codec.proofs.BitFields.{bits-cut, bits-lt}
use Rattle.fieldnorm.specs.Reader.{fieldnorm_id}
use Rattle.fieldnorm.specs.declared.FieldNormReader.TheVariants.{FromData, Const}
use Rattle.notefile.specs.Header.{version, spare, list_count, documents, norm_kind, norm_code, norms_at, reader_of, norm_reader, norm_code_of}
use Rattle.notefile.specs.Parts.{skips_at}
use Rattle.notefile.specs.Conditions.{header_right}
use Rattle.notefile.specs.Inner.Structs.{header_of}
use Rattle.notefile.specs.Inner.Given.{HeaderIn}
use Rattle.notefile.specs.declared.header.Header.{Header}

-- a field of w bits at bit p, cut out of n bits at bit q: a bits into them and c bits before their end
pub field : (file : List ℕ) (q p a w c n : ℕ) → q + a ≡ p → a + w + c ≡ n → bits_at file p w ≡ bits_at file q n / 2 ^ c % 2 ^ w
field file q p a w c n e f = ap (λ (z : ℕ). bits_at file z w) (sym e) ∙ bits-cut file q a w c ∙ ap (λ (z : ℕ). bits_at file q z / 2 ^ c % 2 ^ w) f

module _ (file : List ℕ) where
  abbrev later : Header → Bool
  later h = eqb h.version 1 && (eqb h.spare 0 && (leb h.lists 16 && (leb h.documents 1048576 && cond (eqb h.kind 0) (eqb h.code 0) true)))

  -- condition 1 in the fields
  pub header-tests : (h : Header) → h ≡ header_of file → header_right file ≡ leb 9 (length file) && later h
  unfolding header_right header_of
  header-tests h e = rw e

  module _ (r : header_right file ≡ true) where
    after-length : later (header_of file) ≡ true
    after-length = second-true (leb 9 (length file)) (later (header_of file)) (sym (header-tests (header_of file) refl) ∙ r)

    after-spare : leb (list_count file) 16 && (leb (documents file) 1048576 && cond (eqb (norm_kind file) 0) (eqb (norm_code file) 0) true) ≡ true
    unfolding header_of
    after-spare = second-true (eqb (spare file) 0) _ (second-true (eqb (version file) 1) _ after-length)

    pub long-enough : 9 ≤ length file
    long-enough = leb-true 9 (length file) (first-true (leb 9 (length file)) (later (header_of file)) (sym (header-tests (header_of file) refl) ∙ r))

    pub few-lists : list_count file ≤ 16
    few-lists = leb-true (list_count file) 16 (first-true (leb (list_count file) 16) _ after-spare)

    pub few-documents : documents file ≤ 1048576
    few-documents = leb-true (documents file) 1048576 (first-true (leb (documents file) 1048576) _ (second-true (leb (list_count file) 16) _ after-spare))

    pub header-in : (h : Header) → h ≡ header_of file → 9 + 13 * h.lists ≤ length file → HeaderIn file h
    unfolding header_of
    header-in h e i = record {
      same = e;
      lists = rw e few-lists;
      documents = rw e few-documents;
      entries = i;
    }

-- where the norm codes stand, by the kind
module _ (file : List ℕ) (h : Header) (e : h ≡ header_of file) where
  kind-is : h.kind ≡ norm_kind file
  unfolding header_of
  kind-is = ap (λ (z : Header). z.kind) e

  pub from-data : h.kind ≡ 0 → FromData (9 + 13 * h.lists) ≡ norm_reader file
  unfolding header_of norm_reader
  from-data k = ap (λ (z : Header). FromData (9 + 13 * z.lists)) e ∙ sym (ap (reader_of file) (eq-eqb (norm_kind file) 0 (sym kind-is ∙ k)))

  pub constant : (h.kind ≡ 0 → ⊥) → Const h.code ≡ norm_reader file
  unfolding header_of norm_reader
  constant n = ap (λ (z : Header). Const z.code) e ∙ sym (ap (reader_of file) (ne_eqb (norm_kind file) 0 (λ k. n (kind-is ∙ k))))

  -- where the first list's skip bytes stand
  pub after-norms : h.kind ≡ 0 → 9 + 13 * h.lists + h.documents ≡ skips_at file 0
  unfolding header_of skips_at
  after-norms k = ap (λ (z : Header). 9 + 13 * z.lists + z.documents) e ∙ sym (ap (λ (z : Bool). norms_at file + cond z (documents file) 0) (eq-eqb (norm_kind file) 0 (sym kind-is ∙ k)))

  pub no-norms : (h.kind ≡ 0 → ⊥) → 9 + 13 * h.lists ≡ skips_at file 0
  unfolding header_of skips_at
  no-norms n = ap (λ (z : Header). 9 + 13 * z.lists) e ∙ sym (ap (λ (z : Bool). norms_at file + cond z (documents file) 0) (ne_eqb (norm_kind file) 0 (λ k. n (kind-is ∙ k))) ∙ add-zero (norms_at file))

-- a norm code is a byte
pub norm-code-small : (file : List ℕ) → ((k : ℕ) → get_or file k 0 < 256) → (d : ℕ) → norm_code_of file d < 256
unfolding norm_code_of norm_reader
norm-code-small file bytes d = go (eqb (norm_kind file) 0)
  where
    go : (z : Bool) → fieldnorm_id (reader_of file z) file d < 256
    go true = bytes (norms_at file + d)
    go false = bits-lt file 10 8
