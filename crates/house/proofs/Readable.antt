-- 02, order 1: contents are refused that the reader would refuse. Contents that some accepted file reads are not.
use mathlib.Core.Path.{◌≡◌, refl, sym, ap, ◌∙◌, subst}
use mathlib.Core.Bool.{Bool, true, false, ◌&&◌, not, cond}
use mathlib.Core.List.{List}
use Prim.Native.Nat.{ℕ, zero, suc, ◌≤◌, ◌<◌}
use native.Mathlib.Omega.{arith}
use lib.Dec.{T, eqb, leb, ltb}
use lib.ListN.{length, get_or}
use lib.Ieee.{Float, binary32, of_bits, lt}
use borrow.Author.Tests.{lt-ltb, le-leb, leb-true, eq-eqb, eqb-true}
use Rattle.arrays.proofs.Every.{first-true, second-true, and-true, each, all}
use Rattle.floats.proofs.Tests.{is_true}
use Rattle.codec.proofs.BitFields.{bits-lt}
use Rattle.compression.specs.Documents.{rises, rising_below}
use Rattle.frequencies.specs.Frequencies.{freqs_right}
use Rattle.fieldnorm.specs.Reader.{fieldnorm_id}
use Rattle.bm25.specs.Limits.{weight_ok, average_ok}
use Rattle.bm25.specs.Bound.{max_score}
use Rattle.notefile.specs.Header as header
use Rattle.notefile.specs.Parts.{part_of, weight_bits, document_count}
use Rattle.notefile.specs.Lists.{score_for, list_bound, block_score, list_doc, list_freq, list_score}
use Rattle.notefile.specs.Conditions.{header_right, average_right, entry_right}
use Rattle.notefile.specs.Refusal.{file_refusal}
use Rattle.notefile.specs.Inner.Given.{ListRight}
use Rattle.notefile.specs.declared.part.Part.{Part}
use Rattle.notefile.proofs.Headers.{few-lists, few-documents}
use Rattle.notefile.proofs.Accepted.{header-right, average-right, entries-right, list-accepted}
use Rattle.notefile.proofs.ListLaws.{list-doc-below, list-freq-right, list-docs-rise, list-score-covered}
use Rattle.contents.specs.Contents.{Contents, lists, weight_of, count_of, doc_of, freq_of, reader_of, code_of, score_of}
use Rattle.contents.specs.Refusal.{docs_right, freqs_right_of, bound_right, contents_refusal}
use Rattle.contents.specs.Inner.HeadOk.{HeadOk}
use Rattle.contents.specs.Inner.ListOk.{ListOk}
use Rattle.contents.proofs.Heads.{norms-long, weights-long, docs-long, freqs-long}
use Rattle.contents.proofs.Refused.{contents-ok}
use Rattle.house.specs.Reads.{Reads}
use Rattle.house.specs.Inner.Sound.{Sound}

-- rows 7 and 8 of sound postings
module _ {d f : ℕ → ℕ} {n limit : ℕ} (S : Sound d f n limit) where
  up : (i : ℕ) → i < n → rises d true 0 i ≡ true
  up zero h = refl
  up (suc i) h = lt-ltb (d i) (d (suc i)) (S.rise i (suc i) (omega arith) h)

  sound-docs : rising_below d true 0 n limit ≡ true
  sound-docs = all _ n (λ i h. and-true (rises d true 0 i) (ltb (d i) limit) (up i h) (lt-ltb (d i) limit (S.below i h)))

  sound-freqs : freqs_right f n ≡ true
  sound-freqs =
      all _ n (λ i h. and-true (ltb 0 (f i)) (leb (f i) 2013265944) (lt-ltb 0 (f i) (S.some i h)) (le-leb (f i) 2013265944 (S.most i h)))

module _ (file : List ℕ) (c : Contents) (e : file_refusal file ≡ 0) (R : Reads file c) where
  -- a document's norm code is the one handed in
  pub read-code : (d : ℕ) → d < c.documents → code_of c d ≡ header.norm_code_of file d
  unfolding code_of header.norm_code_of header.norm_reader
  read-code d h =
      go (eqb c.kind 0) (sym (norms-long c R.buffers))
      ∙ ap (λ (z : ℕ). fieldnorm_id (header.reader_of file (eqb z 0)) file d) (sym R.kind-is)
    where
      go : (z : Bool) → cond z c.documents 0 ≡ length c.norms → fieldnorm_id (reader_of c z) c.norms d ≡ fieldnorm_id (header.reader_of file z) file d
      go true q = ap (λ (x : ℕ). get_or c.norms x 0) (omega arith) ∙ sym (R.norms-are d (omega (arith, q)))
      go false q = sym R.code_is

  in-file : {l : ℕ} → l < lists c → l < header.list_count file
  in-file {l} h = subst (λ (n : ℕ). l < n) (sym R.lists-are) h

  average-ok : average_ok c.average ≡ true
  unfolding average_right
  average-ok = ap average_ok (sym R.average-is) ∙ average-right file e

  no_code : c.kind ≡ 0 → c.code ≡ 0
  unfolding header_right
  no_code k =
      let h = header-right file e in
      let t = second-true (leb (header.documents file) 1048576) _ (second-true (leb (header.list_count file) 16) _ (second-true (eqb (header.spare file) 0) _ (second-true (eqb (header.version file) 1) _ (second-true (leb 9 (length file)) _ h)))) in
      let z : eqb (header.norm_kind file) 0 ≡ true = eq-eqb (header.norm_kind file) 0 (R.kind-is ∙ k) in
      sym R.code_is ∙ eqb-true (header.norm_code file) 0 (sym (ap (λ (b : Bool). cond b (eqb (header.norm_code file) 0) true) z) ∙ t)

  module _ (l : ℕ) (h : l < lists c) where
    abbrev x : Part
    x = part_of file l

    entry-ok : weight_ok (of_bits binary32 (weight_bits file l)) && leb (document_count file l) (header.documents file) ≡ true
    unfolding entry_right
    entry-ok = each (entry_right file) (header.list_count file) l (entries-right file e) (in-file h)

    pub read-weight : T (weight_ok (weight_of c l))
    read-weight =
        is_true (weight_ok (weight_of c l))
        (ap weight_ok (sym (R.each l h).weight_is) ∙ first-true (weight_ok (of_bits binary32 (weight_bits file l))) _ entry-ok)

    pub read_count : count_of c l ≤ c.documents
    read_count =
        let k = leb-true (document_count file l) (header.documents file) (second-true (weight_ok (of_bits binary32 (weight_bits file l))) _ entry-ok) in
        omega (arith, k, (R.each l h).count-is, R.documents-are)

    pub count-read : x.count ≡ count_of c l
    unfolding part_of
    count-read = (R.each l h).count-is

    inside : {i : ℕ} → i < count_of c l → i < x.count
    inside {i} k = subst (λ (n : ℕ). i < n) (sym count-read) k

    right : ListRight file x
    right = list-accepted file e l (in-file h)

    doc-same : (i : ℕ) → i < count_of c l → list_doc file x i ≡ doc_of c l i
    doc-same = (R.each l h).docs-are

    freq-same : (i : ℕ) → i < count_of c l → list_freq file x i ≡ freq_of c l i
    freq-same = (R.each l h).freqs-are

    pub postings-sound : Sound (doc_of c l) (freq_of c l) (count_of c l) c.documents
    postings-sound = record {
      few = omega (arith, R.documents-are, few-documents file (header-right file e));
      rise = λ i j k m. over (doc-same i (omega arith)) (doc-same j m) (list-docs-rise file x right i j k (inside m));
      below = λ i k. over (doc-same i k) R.documents-are (list-doc-below file x right i (inside k));
      some = λ i k. over refl (freq-same i k) (list-freq-right file x right i (inside k)).0;
      most = λ i k. up_to (freq-same i k) (list-freq-right file x right i (inside k)).1;
    }
      where
        over : {a b u v : ℕ} → a ≡ u → b ≡ v → a < b → u < v
        over q g k = omega arith

        up_to : {a u m : ℕ} → a ≡ u → a ≤ m → u ≤ m
        up_to q k = omega arith

    pub weight-same : of_bits binary32 x.weight ≡ weight_of c l
    unfolding part_of
    weight-same = (R.each l h).weight_is

    pub average-same : of_bits binary32 x.average ≡ c.average
    unfolding part_of
    average-same = R.average-is

    pub score-same : (i : ℕ) → i < count_of c l → score_of c l i ≡ score_for x (code_of c (doc_of c l i)) (freq_of c l i)
    unfolding score_for score_of
    score-same i k = sym (rw (weight-same, average-same) refl)

    list-score : (i : ℕ) → i < count_of c l → list_score file x i ≡ score_of c l i
    unfolding block_score
    list-score i k =
        ap (λ (z : ℕ). score_for x (header.norm_code_of file z) (list_freq file x i)) (doc-same i k)
        ∙ ap (score_for x (header.norm_code_of file (doc_of c l i))) (freq-same i k)
        ∙ ap (λ (z : ℕ). score_for x z (freq_of c l i)) (sym (read-code (doc_of c l i) (postings-sound.below i k)))
        ∙ sym (score-same i k)

    bound-same : list_bound x ≡ max_score (weight_of c l) c.average
    unfolding list_bound
    bound-same = rw (weight-same, average-same) refl

    list-ok : ListOk c l
    unfolding docs_right freqs_right_of bound_right
    list-ok = record {
      docs = sound-docs postings-sound;
      freqs = sound-freqs postings-sound;
      bound = all _ (count_of c l) (λ i k. ap not (ap (lt (max_score (weight_of c l) c.average)) (sym (list-score i k)) ∙ ap (λ (z : Float). lt z (list_score file x i)) (sym bound-same) ∙ list-score-covered file x right i (inside k)));
    }

  pub read_head : HeadOk c
  read_head = record {
    few-lists = omega (arith, R.lists-are, few-lists file (header-right file e));
    few-documents = omega (arith, R.documents-are, few-documents file (header-right file e));
    kind-in = omega (arith, R.kind-is, bits-lt file 4 1);
    code_in = omega (arith, R.code_is, bits-lt file 10 8);
    no_code = no_code;
    average-in = is_true (average_ok c.average) average-ok;
    norms-long = norms-long c R.buffers;
    weights-long = weights-long c R.buffers;
    docs-long = docs-long c R.buffers;
    freqs-long = freqs-long c R.buffers;
    weight-in = read-weight;
    count-in = read_count;
  }

  pub readable : contents_refusal c ≡ 0
  readable = contents-ok c read_head list-ok
