-- Rows 1, 3 and 4 in the numbers that the code has.
use mathlib.Core.Path.{◌≡◌, sym, ap, ◌∙◌}
use mathlib.Core.Bool.{Bool, true, false, cond, ◌&&◌}
use mathlib.Core.List.{List}
use Prim.Native.Nat.{ℕ}
use lib.Dec.{eqb, leb}
use lib.Ieee.{Float}
use lib.ListN.{length}
use borrow.Author.Tests.{eq-eqb, ne_eqb}
use Rattle.bm25.specs.Limits.{weight_ok}
use Rattle.notefile.specs.Conditions.{list_fits}
use Rattle.contents.specs.Contents.{Contents, lists, list_at}
use Rattle.contents.specs.Refusal.{head_right, buffers_right}
use Rattle.contents.specs.Inner.Handed.{contents_of}
use Rattle.contents.specs.declared.Head.{Head}

-- row 1, of a head and a number of lists
module _ (h : Head) where
  abbrev pub head_tests : ℕ → Bool
  head_tests n =
      leb n 16
      && (leb h.documents 1048576 && (leb h.kind 1 && cond (eqb h.kind 0) (eqb h.code 0) (leb h.code 255)))

  pub by-head : (n : ℕ) {r : Bool} → head_tests n ≡ r
      → (norms : List ℕ) (weights : List Float) (counts docs freqs : List ℕ) → length counts ≡ n
      → r ≡ head_right (contents_of h norms weights counts docs freqs)
  unfolding head_right
  by-head n e norms weights counts docs freqs k = sym e ∙ ap head_tests (sym k)

-- row 3, of the bytes of norms and the postings in all
module _ (c : Contents) where
  abbrev pub buffer_tests : ℕ → ℕ → Bool
  buffer_tests bytes postings =
      eqb (length c.norms) bytes
      && (eqb (length c.weights) (lists c) && (eqb (length c.docs) postings && eqb (length c.freqs) postings))

  pub by-buffers : {bytes postings : ℕ} {r : Bool} → bytes ≡ cond (eqb c.kind 0) c.documents 0 → postings ≡ list_at c (lists c)
      → buffer_tests bytes postings ≡ r → r ≡ buffers_right c
  unfolding buffers_right
  by-buffers {postings = postings} b p e =
      sym e ∙ ap (λ (z : ℕ). buffer_tests z postings) b ∙ ap (buffer_tests (cond (eqb c.kind 0) c.documents 0)) p

-- how many bytes of norms there must be
module _ (kind documents : ℕ) {bytes : ℕ} where
  pub with-bytes : kind ≡ 0 → bytes ≡ documents → bytes ≡ cond (eqb kind 0) documents 0
  with-bytes k e = e ∙ ap (λ (z : Bool). cond z documents 0) (sym (eq-eqb kind 0 k))

  pub with_code : (kind ≡ 0 → ⊥) → bytes ≡ 0 → bytes ≡ cond (eqb kind 0) documents 0
  with_code k e = e ∙ ap (λ (z : Bool). cond z documents 0) (sym (ne_eqb kind 0 k))

-- row 4, of one list: by what was found of its weight
module _ (weight : Float) (count documents : ℕ) {t : Bool} (et : t ≡ weight_ok weight) where
  pub weight-fits : t ≡ true → leb count documents ≡ list_fits weight count documents
  weight-fits e = ap (λ (z : Bool). z && leb count documents) (sym e ∙ et)

  pub weight-wrong : t ≡ false → false ≡ list_fits weight count documents
  weight-wrong e = ap (λ (z : Bool). z && leb count documents) (sym e ∙ et)
