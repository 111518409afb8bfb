-- Rows 1 to 4 refuse nothing exactly where each number is within its limit.
use mathlib.Core.Path.{◌≡◌, refl, sym, ap, ◌∙◌, subst}
use mathlib.Core.Bool.{Bool, true, false, cond, ◌&&◌, true≢false}
use Prim.Native.Nat.{ℕ, ◌*◌, ◌≤◌, ◌<◌}
use native.Mathlib.Omega.{arith}
use lib.Dec.{T, leb, eqb}
use lib.ListN.{length}
use lib.Ieee.Bits.{is_true}
use borrow.Author.Tests.{leb-true, le-leb, eqb-true, eq-eqb}
use Rattle.arrays.specs.Every.{every}
use Rattle.arrays.proofs.Every.{and-true, first-true, second-true, each, all}
use Rattle.bm25.specs.Limits.{weight_ok, average_ok}
use Rattle.notefile.specs.Refusal.{unless}
use Rattle.contents.specs.Contents.{Contents, lists, weight_of, count_of, list_at}
use Rattle.contents.specs.Refusal.{head_right, buffers_right, list_right, head_refusal}
use Rattle.contents.specs.Inner.HeadOk.{HeadOk}
use Rattle.contents.proofs.Places.{list-at-most}

holds : {b : Bool} → b ≡ true → T b
holds e = subst T (sym e) tt

-- no number: the row lets the contents through, and so do the rows after it
clear : (z : Bool) (n later : ℕ) → 0 < n → unless z n later ≡ 0 → (z ≡ true) × (later ≡ 0)
clear true n later h e = (refl, e)
clear false n later h e = absurd (omega arith)

-- a code beside its kind
module _ (kind code : ℕ) where
  code_of : (b : Bool) → eqb kind 0 ≡ b → cond b (eqb code 0) (leb code 255) ≡ true → (code < 256) × (kind ≡ 0 → code ≡ 0)
  code_of true t e = let z = eqb-true code 0 e in (omega (arith, z), λ k. z)
  code_of false t e = let z = leb-true code 255 e in (omega (arith, z), λ k. absurd (true≢false (sym (eq-eqb kind 0 k) ∙ t)))

  of_code : (b : Bool) → eqb kind 0 ≡ b → code < 256 → (kind ≡ 0 → code ≡ 0) → cond b (eqb code 0) (leb code 255) ≡ true
  of_code true t h z = eq-eqb code 0 (z (eqb-true kind 0 t))
  of_code false t h z = le-leb code 255 (omega arith)

module _ (c : Contents) where
  abbrev code_right : Bool
  code_right = cond (eqb c.kind 0) (eqb c.code 0) (leb c.code 255)

  abbrev norm_bytes : ℕ
  norm_bytes = cond (eqb c.kind 0) c.documents 0

  abbrev postings : ℕ
  postings = list_at c (lists c)

  -- row 1
  module _ (e : head_right c ≡ true) where
    pub few-lists : lists c ≤ 16
    unfolding head_right
    few-lists = leb-true (lists c) 16 (first-true (leb (lists c) 16) _ e)

    past-lists : leb c.documents 1048576 && (leb c.kind 1 && code_right) ≡ true
    unfolding head_right
    past-lists = second-true (leb (lists c) 16) _ e

    pub few-documents : c.documents ≤ 1048576
    few-documents = leb-true c.documents 1048576 (first-true (leb c.documents 1048576) _ past-lists)

    past-documents : leb c.kind 1 && code_right ≡ true
    past-documents = second-true (leb c.documents 1048576) _ past-lists

    pub kind-in : c.kind ≤ 1
    kind-in = leb-true c.kind 1 (first-true (leb c.kind 1) code_right past-documents)

    pub code_in : (c.code < 256) × (c.kind ≡ 0 → c.code ≡ 0)
    code_in = code_of c.kind c.code (eqb c.kind 0) refl (second-true (leb c.kind 1) code_right past-documents)

  -- row 3
  module _ (e : buffers_right c ≡ true) where
    pub norms-long : length c.norms ≡ norm_bytes
    unfolding buffers_right
    norms-long = eqb-true (length c.norms) norm_bytes (first-true (eqb (length c.norms) norm_bytes) _ e)

    past-norms : eqb (length c.weights) (lists c) && (eqb (length c.docs) postings && eqb (length c.freqs) postings) ≡ true
    unfolding buffers_right
    past-norms = second-true (eqb (length c.norms) norm_bytes) _ e

    pub weights-long : length c.weights ≡ lists c
    weights-long = eqb-true (length c.weights) (lists c) (first-true (eqb (length c.weights) (lists c)) _ past-norms)

    past-weights : eqb (length c.docs) postings && eqb (length c.freqs) postings ≡ true
    past-weights = second-true (eqb (length c.weights) (lists c)) _ past-norms

    pub docs-long : length c.docs ≡ postings
    docs-long = eqb-true (length c.docs) postings (first-true (eqb (length c.docs) postings) _ past-weights)

    pub freqs-long : length c.freqs ≡ postings
    freqs-long = eqb-true (length c.freqs) postings (second-true (eqb (length c.docs) postings) _ past-weights)

  -- row 4
  module _ (e : every (lists c) (list_right c) ≡ true) (l : ℕ) (h : l < lists c) where
    list-in : weight_ok (weight_of c l) && leb (count_of c l) c.documents ≡ true
    unfolding list_right
    list-in = each (list_right c) (lists c) l e h

    pub weight-in : T (weight_ok (weight_of c l))
    weight-in = holds (first-true (weight_ok (weight_of c l)) _ list-in)

    pub count-in : count_of c l ≤ c.documents
    count-in = leb-true (count_of c l) c.documents (second-true (weight_ok (weight_of c l)) _ list-in)

  -- what comes behind rows 3, 2 and 1
  abbrev pub after3 : ℕ
  after3 = unless (every (lists c) (list_right c)) 4 0

  abbrev pub after2 : ℕ
  after2 = unless (buffers_right c) 3 after3

  abbrev pub after1 : ℕ
  after1 = unless (average_ok c.average) 2 after2

  pub head_rows : head_refusal c ≡ unless (head_right c) 1 after1
  unfolding head_refusal
  head_rows = refl

  -- nothing refused: every number is within its limit
  pub head_ok : head_refusal c ≡ 0 → HeadOk c
  head_ok e =
      let r1 = clear (head_right c) 1 after1 (omega arith) (sym head_rows ∙ e) in
      let r2 = clear (average_ok c.average) 2 after2 (omega arith) r1.1 in
      let r3 = clear (buffers_right c) 3 after3 (omega arith) r2.1 in
      let r4 = clear (every (lists c) (list_right c)) 4 0 (omega arith) r3.1 in
      record {
        few-lists = few-lists r1.0;
        few-documents = few-documents r1.0;
        kind-in = kind-in r1.0;
        code_in = (code_in r1.0).0;
        no_code = (code_in r1.0).1;
        average-in = holds r2.0;
        norms-long = norms-long r3.0;
        weights-long = weights-long r3.0;
        docs-long = docs-long r3.0;
        freqs-long = freqs-long r3.0;
        weight-in = weight-in r4.0;
        count-in = count-in r4.0;
      }

  -- and back
  module _ (H : HeadOk c) where
    row1 : head_right c ≡ true
    unfolding head_right
    row1 =
        and-true (leb (lists c) 16) _ (le-leb (lists c) 16 H.few-lists)
        (and-true (leb c.documents 1048576) _ (le-leb c.documents 1048576 H.few-documents)
        (and-true (leb c.kind 1) code_right (le-leb c.kind 1 H.kind-in)
        (of_code c.kind c.code (eqb c.kind 0) refl H.code_in H.no_code)))

    pub buffers-right : buffers_right c ≡ true
    unfolding buffers_right
    buffers-right =
        and-true (eqb (length c.norms) norm_bytes) _ (eq-eqb (length c.norms) norm_bytes H.norms-long)
        (and-true (eqb (length c.weights) (lists c)) _ (eq-eqb (length c.weights) (lists c) H.weights-long)
        (and-true (eqb (length c.docs) postings) _ (eq-eqb (length c.docs) postings H.docs-long)
        (eq-eqb (length c.freqs) postings H.freqs-long)))

    one_list : (l : ℕ) → l < lists c → list_right c l ≡ true
    unfolding list_right
    one_list l h =
        and-true (weight_ok (weight_of c l)) _ (is_true (weight_ok (weight_of c l)) (H.weight-in l h))
        (le-leb (count_of c l) c.documents (H.count-in l h))

    pub none-refused : head_refusal c ≡ 0
    none-refused =
        head_rows
        ∙ ap (λ (z : Bool). unless z 1 after1) row1
        ∙ ap (λ (z : Bool). unless z 2 after2) (is_true (average_ok c.average) H.average-in)
        ∙ ap (λ (z : Bool). unless z 3 after3) buffers-right
        ∙ ap (λ (z : Bool). unless z 4 0) (all (list_right c) (lists c) one_list)

    -- where a list starts, and how many postings there are in all
    pub starts-below : (l : ℕ) → l ≤ lists c → list_at c l ≤ l * 1048576
    starts-below l h = list-at-most c 1048576 l (λ k j. let a = H.count-in k (omega arith) in omega (arith, a, H.few-documents))

    pub postings-few : list_at c (lists c) ≤ 16777216
    postings-few = let a = starts-below (lists c) (omega arith) in omega (arith, a, H.few-lists)
