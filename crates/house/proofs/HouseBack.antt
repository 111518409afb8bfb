-- 02, order 1: the reader accepts the file of contents that are not refused, it is in house form, and it reads what went in.
use mathlib.Core.Path.{◌≡◌, refl, sym, ap, ◌∙◌, subst}
use mathlib.Core.Bool.{Bool, true, false, cond}
use mathlib.Core.List.{List}
use Prim.Native.Nat.{ℕ, ◌+◌, ◌*◌, ◌≤◌, ◌<◌}
use native.Mathlib.Omega.{arith}
use lib.Dec.{eqb, leb}
use lib.ListN.{length, get_or}
use lib.Ieee.{Float, binary32, of_bits, lt}
use lib.Ieee.Bits.{of_bits-to_bits, is_true}
use borrow.Author.Tests.{le-leb, eq-eqb, eqb-true}
use Rattle.arrays.specs.Every.{every}
use Rattle.arrays.proofs.Every.{and-true, all}
use Rattle.bm25.specs.Limits.{weight_ok, average_ok}
use Rattle.notefile.specs.Header.{version, spare, list_count, norm_kind, norm_code, documents, average_bits, norms_at}
use Rattle.notefile.specs.Parts.{skips_at, part_of, document_count, weight_bits}
use Rattle.notefile.specs.Conditions.{header_right, average_right, length_right, entry_right}
use Rattle.notefile.specs.Refusal.{file_refusal}
use Rattle.contents.specs.Contents.{Contents, Typed, lists, weight_of, count_of, doc_of, freq_of, code_of, score_of}
use Rattle.contents.specs.Refusal.{contents_refusal}
use Rattle.contents.specs.Inner.HeadOk.{HeadOk}
use Rattle.contents.specs.Inner.ListOk.{ListOk}
use Rattle.contents.proofs.Heads.{buffers-right}
use Rattle.contents.proofs.Refused.{contents-head, contents-list}
use Rattle.house.specs.House.{house_file}
use Rattle.house.specs.Form.{HouseForm}
use Rattle.house.specs.Reads.{Reads}
use Rattle.house.specs.Inner.Sound.{Sound}
use Rattle.house.proofs.Given.{Read}
use Rattle.house.proofs.ListBack.{list_back}
use Rattle.house.proofs.FilePlaces.{Housed, house-housed}
use Rattle.house.proofs.FileParts.{head_at, entry_at, list-starts}
use Rattle.house.proofs.FileLists.{list-sound, list-covered, list-laid, list-scored, bound-is, count-is}
use Rattle.house.proofs.RightFile.{right-file}

-- a file in which the pieces of right contents stand
module _ (c : Contents) (Y : Typed c) (H : HeadOk c) (L : (l : ℕ) → l < lists c → ListOk c l) (s : List ℕ) (P : Housed c s) where
  in-lists : {l : ℕ} → l < list_count s → l < lists c
  in-lists {l} h = subst (λ (n : ℕ). l < n) (head_at c Y H s P).lists-is h

  list_read : (l : ℕ) → l < lists c → Read s (part_of s l) (doc_of c l) (freq_of c l)
  list_read l h =
      let S = list-sound c l H.few-documents (L l h) in
      let n = count-is c Y H s P l h in
      let d = (head_at c Y H s P).documents-is in
      list_back s (part_of s l) (doc_of c l) (freq_of c l) (code_of c) (score_of c l)
      (subst (λ (z : ℕ). Sound (doc_of c l) (freq_of c l) z (documents s)) (sym n) (subst (Sound (doc_of c l) (freq_of c l) (count_of c l)) (sym d) S))
      (list-scored c Y H s P l h S)
      (list-laid c Y H s P l h)
      (λ i k. ap (λ (z : Float). lt z (score_of c l i)) (bound-is c Y H s P l h) ∙ list-covered c l H.few-documents (L l h) i (subst (λ (z : ℕ). i < z) n k))

  coded : (k e : Bool) (code : ℕ) → (k ≡ true → code ≡ 0) → cond k (eqb code 0) true ≡ true
  coded true e code f = eq-eqb code 0 (f refl)
  coded false e code f = refl

  row1 : header_right s ≡ true
  unfolding header_right
  row1 =
      let A = head_at c Y H s P in
      let long : 9 ≤ length s = omega (arith, P.long) in
      let two : norm_kind s ≡ c.kind = A.kind-is in
      let none : eqb (norm_kind s) 0 ≡ true → norm_code s ≡ 0 = λ e. A.code_is ∙ H.no_code (sym two ∙ eqb-true (norm_kind s) 0 e) in
      and-true (leb 9 (length s)) _ (le-leb 9 (length s) long)
      (and-true (eqb (version s) 1) _ (eq-eqb (version s) 1 A.version-is)
      (and-true (eqb (spare s) 0) _ (eq-eqb (spare s) 0 A.spare-is)
      (and-true (leb (list_count s) 16) _ (le-leb (list_count s) 16 (omega (arith, A.lists-is, H.few-lists)))
      (and-true (leb (documents s) 1048576) _ (le-leb (documents s) 1048576 (omega (arith, A.documents-is, H.few-documents)))
      (coded (eqb (norm_kind s) 0) true (norm_code s) none)))))

  average-back : of_bits binary32 (average_bits s 0) ≡ c.average
  average-back = ap (of_bits binary32) (head_at c Y H s P).average-is ∙ of_bits-to_bits binary32 c.average Y.average-f32

  row2 : average_right s ≡ true
  unfolding average_right
  row2 = ap average_ok average-back ∙ is_true (average_ok c.average) H.average-in

  row3 : length_right s ≡ true
  unfolding length_right
  row3 =
      let n = (head_at c Y H s P).lists-is in
      let whole : length s ≡ skips_at s (list_count s) =
      P.long ∙ sym (list-starts c Y H s P (lists c) (omega arith)) ∙ ap (skips_at s) (sym n) in
      and-true (leb (norms_at s) (length s)) _ (le-leb (norms_at s) (length s) (omega (arith, P.long, n)))
      (eq-eqb (length s) (skips_at s (list_count s)) whole)

  weight-back : (l : ℕ) → l < lists c → of_bits binary32 (weight_bits s l) ≡ weight_of c l
  weight-back l h = ap (of_bits binary32) (entry_at c Y H s P l h).weight_is ∙ of_bits-to_bits binary32 (weight_of c l) (Y.weights-f32 l h)

  row4 : every (list_count s) (entry_right s) ≡ true
  unfolding entry_right
  row4 = all (entry_right s) (list_count s) (λ l k.
      let h = in-lists k in
      let E = entry_at c Y H s P l h in
      and-true (weight_ok (of_bits binary32 (weight_bits s l))) _ (ap weight_ok (weight-back l h) ∙ is_true (weight_ok (weight_of c l)) (H.weight-in l h))
      (le-leb (document_count s l) (documents s) (omega (arith, E.count-is, (head_at c Y H s P).documents-is, H.count-in l h))))

  pub file-accepted : file_refusal s ≡ 0
  file-accepted = right-file s row1 row2 row3 row4 (λ l k. (list_read l (in-lists k)).right)

  pub file-form : HouseForm s
  file-form = record {
    kinds = λ l k. (entry_at c Y H s P l (in-lists k)).kind-is;
    each = λ l k. (list_read l (in-lists k)).form;
  }

  pub file-reads : Reads s c
  file-reads = record {
    documents-are = (head_at c Y H s P).documents-is;
    kind-is = (head_at c Y H s P).kind-is;
    code_is = (head_at c Y H s P).code_is;
    average-is = average-back;
    lists-are = (head_at c Y H s P).lists-is;
    buffers = buffers-right c H;
    norms-are = λ d h. ap (λ (n : ℕ). get_or s (9 + 13 * n + d) 0) (head_at c Y H s P).lists-is ∙ P.norms-stand.at d h;
    each = λ l h.
        let n = count-is c Y H s P l h in
        record {
          weight_is = weight-back l h;
          count-is = (entry_at c Y H s P l h).count-is;
          docs-are = λ i k. (list_read l h).docs-are i (subst (λ (z : ℕ). i < z) (sym n) k);
          freqs-are = λ i k. (list_read l h).freqs-are i (subst (λ (z : ℕ). i < z) (sym n) k);
        };
  }

-- the three claims, of the file of contents that are not refused
module _ (c : Contents) (Y : Typed c) (e : contents_refusal c ≡ 0) where
  pub house-accepted : file_refusal (house_file c) ≡ 0
  house-accepted = file-accepted c Y (contents-head c e) (contents-list c e) (house_file c) (house-housed c)

  pub house-form : HouseForm (house_file c)
  house-form = file-form c Y (contents-head c e) (contents-list c e) (house_file c) (house-housed c)

  pub house-reads : Reads (house_file c) c
  house-reads = file-reads c Y (contents-head c e) (contents-list c e) (house_file c) (house-housed c)
