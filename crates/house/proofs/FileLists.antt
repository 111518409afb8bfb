-- The lists of a file in which the pieces of contents stand.
use mathlib.Core.Path.{◌≡◌, refl, sym, ap, ◌∙◌, subst}
use mathlib.Core.Bool.{Bool, true, false, ◌&&◌, not, cond}
use mathlib.Core.List.{List}
use mathlib.Core.Logic.{inl, inr}
use Prim.Native.Nat.{ℕ, zero, suc, ◌+◌, ◌*◌, ◌/◌, ◌≤◌, ◌<◌}
use native.Mathlib.Nat.{eq-or-lt_of_le, le_of_suc-le-suc, not-suc-le-zero, lt_trans}
use native.Mathlib.Omega.{arith}
use lib.Dec.{eqb, ltb, leb}
use lib.ListN.{length, get_or}
use lib.Ieee.{binary32, of_bits, lt}
use lib.Ieee.Bits.{of_bits-to_bits, is_true}
use borrow.Author.Tests.{ltb-true, leb-true}
use Rattle.arrays.proofs.Every.{first-true, second-true, each}
use Rattle.pieces.specs.Inner.Written.{Stands}
use Rattle.pieces.proofs.Standing.{first-stands, second-stands}
use Rattle.compression.specs.Documents.{rises, rising_below}
use Rattle.frequencies.specs.Frequencies.{freqs_right}
use Rattle.fieldnorm.specs.Reader.{fieldnorm_id}
use Rattle.bm25.specs.Bound.{max_score}
use Rattle.bm25.specs.Limits.{weight_ok, average_ok}
use Rattle.notefile.specs.Header as header
use Rattle.notefile.specs.Parts.{skips_at, part_of}
use Rattle.notefile.specs.Lists.{score_for, list_bound}
use Rattle.notefile.specs.Inner.Given.{Limits}
use Rattle.notefile.specs.declared.part.Part.{Part}
use Rattle.contents.specs.Contents.{Contents, Typed, lists, weight_of, count_of, doc_of, freq_of, reader_of, code_of, score_of}
use Rattle.contents.specs.Refusal.{docs_right, freqs_right_of, bound_right}
use Rattle.house.specs.House.{skips_bytes, postings_bytes, list_skips, list_postings}
use Rattle.house.specs.Inner.Sound.{Sound}
use Rattle.house.proofs.Given.{Scored, Laid}
use Rattle.contents.specs.Inner.HeadOk.{HeadOk}
use Rattle.contents.specs.Inner.ListOk.{ListOk}
use Rattle.house.proofs.FilePlaces.{Housed, list_place}
use Rattle.house.proofs.FileParts.{head_at, entry_at, skips-size, list-starts}

-- rows 7 and 8, by postings
module _ (d f : ℕ → ℕ) (n limit : ℕ) (few : limit ≤ 1048576) (right : rising_below d true 0 n limit ≡ true) (freqs : freqs_right f n ≡ true) where
  one : (i : ℕ) → i < n → rises d true 0 i && ltb (d i) limit ≡ true
  one i h = each _ n i right h

  next : (i : ℕ) → suc i < n → d i < d (suc i)
  next i h = ltb-true (d i) (d (suc i)) (first-true (ltb (d i) (d (suc i))) (ltb (d (suc i)) limit) (one (suc i) h))

  rising : (i j : ℕ) → i < j → j < n → d i < d j
  rising i zero h k = absurd (not-suc-le-zero h)
  rising i (suc j) h k = elim (eq-or-lt_of_le (le_of_suc-le-suc h)) [
    | inl q ↦ subst (λ (z : ℕ). d z < d (suc j)) (sym q) (next j k)
    | inr g ↦ lt_trans (rising i j g (omega arith)) (next j k)
  ]

  pub sound : Sound d f n limit
  sound = record {
    few = few;
    rise = rising;
    below = λ i h. ltb-true (d i) limit (second-true (rises d true 0 i) (ltb (d i) limit) (one i h));
    some = λ i h. ltb-true 0 (f i) (first-true (ltb 0 (f i)) (leb (f i) 2013265944) (each _ n i freqs h));
    most = λ i h. leb-true (f i) 2013265944 (second-true (ltb 0 (f i)) (leb (f i) 2013265944) (each _ n i freqs h));
  }

module _ (c : Contents) (l : ℕ) (few : c.documents ≤ 1048576) (L : ListOk c l) where
  pub list-sound : Sound (doc_of c l) (freq_of c l) (count_of c l) c.documents
  unfolding docs_right freqs_right_of
  list-sound = sound (doc_of c l) (freq_of c l) (count_of c l) c.documents few L.docs L.freqs

  pub list-covered : (i : ℕ) → i < count_of c l → lt (max_score (weight_of c l) c.average) (score_of c l i) ≡ false
  unfolding bound_right
  list-covered i h = no (lt (max_score (weight_of c l) c.average) (score_of c l i)) (each _ (count_of c l) i L.bound h)
    where
      no : (b : Bool) → not b ≡ true → b ≡ false
      no true e = sym e
      no false e = refl

module _ (c : Contents) (Y : Typed c) (H : HeadOk c) (s : List ℕ) (P : Housed c s) where
  -- a document's norm code is the one handed in
  pub code_is : (d : ℕ) → d < c.documents → code_of c d ≡ header.norm_code_of s d
  unfolding code_of header.norm_code_of header.norm_reader
  code_is d h =
      go (eqb c.kind 0) (sym H.norms-long)
      ∙ ap (λ (z : ℕ). fieldnorm_id (header.reader_of s (eqb z 0)) s d) (sym (head_at c Y H s P).kind-is)
    where
      go : (z : Bool) → cond z c.documents 0 ≡ length c.norms → fieldnorm_id (reader_of c z) c.norms d ≡ fieldnorm_id (header.reader_of s z) s d
      go true e =
          ap (λ (x : ℕ). get_or c.norms x 0) (omega arith)
          ∙ sym (P.norms-stand.at d (omega (arith, e)))
          ∙ ap (λ (x : ℕ). get_or s (9 + 13 * x + d) 0) (sym (head_at c Y H s P).lists-is)
      go false e = sym (head_at c Y H s P).code_is

  code-small : (d : ℕ) → code_of c d < 256
  unfolding code_of
  code-small d = go (eqb c.kind 0)
    where
      go : (z : Bool) → fieldnorm_id (reader_of c z) c.norms d < 256
      go true = Y.norm-bytes (0 + d)
      go false = H.code_in

  module _ (l : ℕ) (h : l < lists c) where
    abbrev x : Part
    x = part_of s l

    pub count-is : x.count ≡ count_of c l
    unfolding part_of
    count-is = (entry_at c Y H s P l h).count-is

    pub weight_is : of_bits binary32 x.weight ≡ weight_of c l
    unfolding part_of
    weight_is = ap (of_bits binary32) (entry_at c Y H s P l h).weight_is ∙ of_bits-to_bits binary32 (weight_of c l) (Y.weights-f32 l h)

    pub average-is : of_bits binary32 x.average ≡ c.average
    unfolding part_of
    average-is = ap (of_bits binary32) (head_at c Y H s P).average-is ∙ of_bits-to_bits binary32 c.average Y.average-f32

    skips-at : x.skips ≡ list_place c l
    unfolding part_of
    skips-at = list-starts c Y H s P l (omega arith)

    postings-at : x.postings ≡ list_place c l + length (list_skips c l)
    unfolding part_of
    postings-at = omega (arith, list-starts c Y H s P l (omega arith), (entry_at c Y H s P l h).skips-is)

    end-at : x.end ≡ list_place c l + length (list_skips c l) + length (list_postings c l)
    unfolding part_of skips_at
    end-at = omega (arith, list-starts c Y H s P l (omega arith), (entry_at c Y H s P l h).skips-is, (entry_at c Y H s P l h).postings-is)

    kind_at : x.skip_entry_len ≡ 8
    unfolding part_of
    kind_at = omega (arith, (entry_at c Y H s P l h).kind-is)

    -- its bytes stand in its parts
    pub list-laid : Laid s x (doc_of c l) (freq_of c l) (code_of c) (score_of c l)
    unfolding list_skips list_postings
    list-laid =
        let L = P.list-stands l h in
        let a = first-stands s (list_place c l) (list_skips c l) (list_postings c l) L in
        let b = second-stands s (list_place c l) (list_skips c l) (list_postings c l) L in
        let skips : ℕ → List ℕ = λ n. skips_bytes (doc_of c l) (freq_of c l) (code_of c) (score_of c l) (n / 128) in
        let posts : ℕ → List ℕ = postings_bytes (doc_of c l) (freq_of c l) in
        let z : x.end ≡ x.postings + length (posts (count_of c l)) = omega (arith, end-at, postings-at) in
        record {
          kind_0 = kind_at;
          skips-stand = subst (λ (n : ℕ). Stands s x.skips (skips n)) (sym count-is) (subst (λ (p : ℕ). Stands s p (list_skips c l)) (sym skips-at) a);
          then-postings = subst (λ (n : ℕ). x.postings ≡ x.skips + 8 * (n / 128)) (sym count-is) (omega (arith, postings-at, skips-at, skips-size c l));
          postings-stand = subst (λ (n : ℕ). Stands s x.postings (posts n)) (sym count-is) (subst (λ (p : ℕ). Stands s p (list_postings c l)) (sym postings-at) b);
          then-end = subst (λ (n : ℕ). x.end ≡ x.postings + length (posts n)) (sym count-is) z;
        }

    pub list-limits : Limits x
    list-limits = record {
      weight = ap weight_ok weight_is ∙ is_true (weight_ok (weight_of c l)) (H.weight-in l h);
      average = ap average_ok average-is ∙ is_true (average_ok c.average) H.average-in;
    }

    -- its scores are those of the contents
    module _ (S : Sound (doc_of c l) (freq_of c l) (count_of c l) c.documents) where
      pub list-scored : Scored s x (doc_of c l) (freq_of c l) (code_of c) (score_of c l)
      unfolding score_for score_of
      list-scored = record {
        limits = list-limits;
        norm-is = λ i k. code_is (doc_of c l i) (S.below i (subst (λ (n : ℕ). i < n) count-is k));
        norm-byte = λ i k. code-small (doc_of c l i);
        score-is = λ i k. sym (rw (weight_is, average-is) refl);
      }

    pub bound-is : list_bound x ≡ max_score (weight_of c l) c.average
    unfolding list_bound
    bound-is = rw (weight_is, average-is) refl
