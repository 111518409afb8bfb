-- What a file is refused for, out of what its readers answered, in the table's order.
use mathlib.Core.Path.{◌≡◌, refl, sym, ap, ◌∙◌}
use mathlib.Core.Bool.{Bool, true, false, ◌&&◌}
use mathlib.Core.List.{List}
use mathlib.Core.Logic.{inl, inr}
use Prim.Native.Nat.{ℕ, zero, suc, ◌+◌, ◌*◌, ◌≤◌, ◌<◌}
use native.Mathlib.Nat.{le_of_suc-le-suc, eq-or-lt_of_le, not-suc-le-zero}
use native.Mathlib.Numerals.{add-one}
use native.Mathlib.Omega.{arith}
use lib.Dec.{eqb}
use lib.ListN.{length}
use lib.Ieee.{binary32, of_bits}
use borrow.Author.Tests.{le-leb, lt-leb, eq-eqb, ne_eqb}
use Rattle.arrays.specs.Every.{every}
use Rattle.bm25.specs.Limits.{average_ok}
use Rattle.notefile.specs.Header.{list_count, documents, average_bits, norms_at}
use Rattle.notefile.specs.Parts.{skips_at, part_of}
use Rattle.notefile.specs.Conditions.{header_right, average_right, length_right, entry_right}
use Rattle.notefile.specs.Refusal.{unless, file_refusal}
use Rattle.notefile.specs.Inner.Order.{or_else, list_refusal, lists_refusal}
use Rattle.notefile.specs.Inner.Structs.{header_of}
use Rattle.notefile.specs.declared.header.Header.{Header}
use Rattle.notefile.proofs.Order.{lists-next}
use Rattle.notefile.proofs.Accepted.{after1, after2, after3}

first-stays : (m n : ℕ) → (m ≡ 0 → ⊥) → or_else m n ≡ m
first-stays zero n h = absurd (h refl)
first-stays (suc m) n h = refl

-- the lists one after another
module _ (file : List ℕ) where
  pub list-refused : (l m : ℕ) {r : ℕ} → l < m → lists_refusal file l ≡ 0 → r ≡ list_refusal file (part_of file l) → (r ≡ 0 → ⊥) → r ≡ lists_refusal file m
  list-refused l zero h z e n = absurd (not-suc-le-zero h)
  list-refused l (suc m) h z e n = elim (eq-or-lt_of_le (le_of_suc-le-suc h)) [
    | inl q ↦ e ∙ sym (lists-next file m ∙ ap (λ (k : ℕ). or_else (lists_refusal file k) (list_refusal file (part_of file k))) (sym q) ∙ ap (λ (k : ℕ). or_else k (list_refusal file (part_of file l))) z)
    | inr k ↦ let g = list-refused l m k z e n in g ∙ sym (lists-next file m ∙ first-stays (lists_refusal file m) (list_refusal file (part_of file m)) (λ q. n (g ∙ q)))
  ]

  pub list-clear : (l : ℕ) {r : ℕ} → lists_refusal file l ≡ 0 → r ≡ list_refusal file (part_of file l) → r ≡ 0 → lists_refusal file (l + 1) ≡ 0
  list-clear l z e q = rw add-one (lists-next file l ∙ ap (λ (k : ℕ). or_else k (list_refusal file (part_of file l))) z ∙ sym e ∙ q)

  pub average-is : {bits : ℕ} {r : Bool} → bits ≡ average_bits file 0 → r ≡ average_ok (of_bits binary32 bits) → r ≡ average_right file
  unfolding average_right
  average-is e f = f ∙ rw e

  -- the fields in the header's struct
  module _ (h : Header) (eh : h ≡ header_of file) where
    pub lists-is : h.lists ≡ list_count file
    unfolding header_of
    lists-is = ap (λ (z : Header). z.lists) eh

    pub documents-is : h.documents ≡ documents file
    unfolding header_of
    documents-is = ap (λ (z : Header). z.documents) eh

    pub cut_short : length file < 9 + 13 * h.lists → length_right file ≡ false
    unfolding length_right
    cut_short l = ap (λ (z : Bool). z && eqb (length file) (skips_at file (list_count file))) (lt-leb (norms_at file) (length file) (omega (arith, lists-is)))

    module _ (i : 9 + 13 * h.lists ≤ length file) {end : ℕ} (ee : end ≡ skips_at file h.lists) where
      sum_is : length_right file ≡ eqb (length file) end
      unfolding length_right
      sum_is = ap (λ (z : Bool). z && eqb (length file) (skips_at file (list_count file))) (le-leb (norms_at file) (length file) (omega (arith, lists-is))) ∙ ap (eqb (length file)) (sym (ee ∙ ap (skips_at file) lists-is))

      pub wrong-sum : (length file ≡ end → ⊥) → length_right file ≡ false
      wrong-sum n = sum_is ∙ ne_eqb (length file) end n

      pub right-sum : length file ≡ end → length_right file ≡ true
      right-sum e = sum_is ∙ eq-eqb (length file) end e

-- the conditions in their order
module _ (file : List ℕ) where
  start : file_refusal file ≡ unless (header_right file) 1 (after1 file)
  unfolding file_refusal lists_refusal
  start = refl

  pub one : header_right file ≡ false → 1 ≡ file_refusal file
  one e = sym (start ∙ ap (λ (z : Bool). unless z 1 (after1 file)) e)

  module _ (h : header_right file ≡ true) where
    past1 : file_refusal file ≡ after1 file
    past1 = start ∙ ap (λ (z : Bool). unless z 1 (after1 file)) h

    pub two : average_right file ≡ false → 2 ≡ file_refusal file
    two e = sym (past1 ∙ ap (λ (z : Bool). unless z 2 (after2 file)) e)

    module _ (a : average_right file ≡ true) where
      past2 : file_refusal file ≡ after2 file
      past2 = past1 ∙ ap (λ (z : Bool). unless z 2 (after2 file)) a

      pub three : length_right file ≡ false → 3 ≡ file_refusal file
      three e = sym (past2 ∙ ap (λ (z : Bool). unless z 3 (after3 file)) e)

      module _ (l : length_right file ≡ true) {n : ℕ} (en : n ≡ list_count file) where
        past3 : file_refusal file ≡ unless (every n (entry_right file)) 4 (lists_refusal file n)
        past3 = past2 ∙ ap (λ (z : Bool). unless z 3 (after3 file)) l ∙ ap (λ (k : ℕ). unless (every k (entry_right file)) 4 (lists_refusal file k)) (sym en)

        pub four : every n (entry_right file) ≡ false → 4 ≡ file_refusal file
        four e = sym (past3 ∙ ap (λ (z : Bool). unless z 4 (lists_refusal file n)) e)

        pub lists : every n (entry_right file) ≡ true → {r : ℕ} → r ≡ lists_refusal file n → r ≡ file_refusal file
        lists e q = q ∙ sym (past3 ∙ ap (λ (z : Bool). unless z 4 (lists_refusal file n)) e)
