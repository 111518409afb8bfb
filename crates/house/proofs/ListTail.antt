-- The tail of a house list reads back: row 6 lets it through, its VInts are the shortest, and its values.
use mathlib.Core.Path.{◌≡◌, sym, ap, ◌∙◌, subst}
use mathlib.Core.Bool.{Bool, true, false, ◌&&◌, cond}
use mathlib.Core.List.{List}
use mathlib.Core.Logic.{inl, inr}
use Prim.Native.Nat.{ℕ, suc, ◌+◌, ◌*◌, ◌≤◌, ◌<◌}
use native.Mathlib.Nat.{le_refl, add-zero, eq-or-lt_of_le}
use native.Mathlib.Omega.{arith}
use lib.Dec.{ltb}
use lib.ListN.{length, length-append}
use lib.Ieee.{Float}
use borrow.Author.Tests.{eq-eqb, le-leb, le-ltb}
use Rattle.arrays.specs.Every.{every}
use Rattle.arrays.proofs.Every.{and-true, all}
use Rattle.codec.specs.VInts.{vint_place, vint_value, vint_whole}
use Rattle.bitpacker.specs.Packed.{packed_at}
use Rattle.compression.specs.Documents.{gap_of}
use Rattle.pieces.specs.Inner.Written.{Stands}
use Rattle.pieces.proofs.Standing.{first-stands, second-stands}
use Rattle.encode.specs.ShortVInt.{vint_row}
use Rattle.encode.specs.Inner.VIntBytes.{vint_length, row_length}
use Rattle.encode.proofs.ShortVInts.{vint-shortest}
use Rattle.encode.proofs.VIntRows.{row_more, row-place, row-value, row-whole}
use Rattle.notefile.specs.Header.{documents}
use Rattle.notefile.specs.Skips.{doc_width, freq_width, strict_block}
use Rattle.notefile.specs.Lists.{full_blocks, tail_size, block_size, freqs_at, tail_at, tail_freqs_at, doc_value, freq_value, strict_in}
use Rattle.notefile.specs.Conditions.{postings_right}
use Rattle.notefile.specs.declared.part.Part.{Part}
use Rattle.house.specs.House.{doc_differ, tail_bytes}
use Rattle.house.specs.Form.{Shortest}
use Rattle.house.specs.Inner.Sound.{Sound}
use Rattle.house.proofs.Given.{Laid}
use Rattle.house.proofs.ListValues.{differ-small}
use Rattle.house.proofs.ListDecoded.{Decodes}
use Rattle.house.proofs.ListBlocks.{tail-stands, tail-ends, full-decodes}
use Rattle.std.proofs.Common.{Some}

-- a row's VInts are the shortest
pub row-shortest : (v : ℕ → ℕ) (s : List ℕ) (e p n : ℕ) → ((k : ℕ) → k < n → v k < 4294967296) → Stands s p (vint_row n v)
    → p + row_length n v ≤ e → Shortest s e p n
row-shortest v s e p n small S inside k h t bytes end q next a =
    shorter p (row_length k v) (row_length (suc k) v) (vint_length (v k)) q next (row_more v k)
    (vint-shortest t end q (v k) bytes next (a ∙ ap (λ (y : ℕ). Some (y, next)) (row-value v s e p n small S inside k h)))
    (row-place v s e p n small S inside k (omega arith)) (row-place v s e p n small S inside (suc k) h)
  where
    shorter : (p l m u q next : ℕ) {a b : ℕ} → m ≡ l + u → q + u ≤ next → a ≡ p + l → b ≡ p + m → b + q ≤ next + a
    shorter p l m u q next e g i j = omega arith

-- two rows, one behind the other, up to e
pub record Rows (s : List ℕ) (e p n : ℕ) (v g : ℕ → ℕ) : Type 0 where
  pub first_small : (k : ℕ) → k < n → v k < 4294967296
  pub second-small : (k : ℕ) → k < n → g k < 4294967296
  pub first-row : Stands s p (vint_row n v)
  pub second-row : Stands s (p + row_length n v) (vint_row n g)
  pub ends : e ≡ p + row_length n v + row_length n g

module _ {s : List ℕ} {e p n : ℕ} {v g : ℕ → ℕ} (R : Rows s e p n v g) where
  first-in : p + row_length n v ≤ e
  first-in = omega arith

  between : vint_place s e p n ≡ p + row_length n v
  between = row-place v s e p n R.first_small R.first-row first-in n (le_refl n)

  second_at : Stands s (vint_place s e p n) (vint_row n g)
  second_at = subst (λ (y : ℕ). Stands s y (vint_row n g)) (sym between) R.second-row

  second-in : vint_place s e p n + row_length n g ≤ e
  second-in = omega (arith, between)

  pub second-ends : vint_place s e (vint_place s e p n) n ≡ e
  second-ends =
      row-place g s e (vint_place s e p n) n R.second-small second_at second-in n (le_refl n)
      ∙ ap (λ (y : ℕ). y + row_length n g) between ∙ sym R.ends

  pub first-value : (k : ℕ) → k < n → vint_value s e p k ≡ v k
  first-value = row-value v s e p n R.first_small R.first-row first-in

  pub second-value : (k : ℕ) → k < n → vint_value s e (vint_place s e p n) k ≡ g k
  second-value = row-value g s e (vint_place s e p n) n R.second-small second_at second-in

  pub first-whole : every n (vint_whole s e p) ≡ true
  first-whole = all (vint_whole s e p) n (row-whole v s e p n R.first_small R.first-row first-in)

  pub second-whole : every n (vint_whole s e (vint_place s e p n)) ≡ true
  second-whole = all (vint_whole s e (vint_place s e p n)) n (row-whole g s e (vint_place s e p n) n R.second-small second_at second-in)

  pub starts-in : p ≤ e
  starts-in = omega arith

  pub first-shortest : Shortest s e p n
  first-shortest = row-shortest v s e p n R.first_small R.first-row first-in

  pub second-shortest : Shortest s e (vint_place s e p n) n
  second-shortest = row-shortest g s e (vint_place s e p n) n R.second-small second_at second-in

-- the block behind all full ones
module _ (s : List ℕ) (x : Part) where
  tail-is : (A : Type 0) (a b : A) → cond (ltb (full_blocks x) (full_blocks x)) a b ≡ b
  tail-is A a b = ap (λ (z : Bool). cond z a b) (le-ltb (full_blocks x) (full_blocks x) (le_refl (full_blocks x)))

  pub tail-size : block_size x (full_blocks x) ≡ tail_size x
  tail-size = tail-is ℕ 128 (tail_size x)

  tail-doc : (i : ℕ) → doc_value s x (full_blocks x) i ≡ vint_value s x.end (tail_at s x) i
  unfolding doc_value
  tail-doc i = tail-is ℕ (packed_at s (tail_at s x) (doc_width s x (full_blocks x)) i) (vint_value s x.end (tail_at s x) i)

  tail-freq : (i : ℕ) → freq_value s x (full_blocks x) i ≡ vint_value s x.end (tail_freqs_at s x) i
  unfolding freq_value
  tail-freq i =
      tail-is ℕ (packed_at s (freqs_at s x (full_blocks x)) (freq_width s x (full_blocks x)) i) (vint_value s x.end (tail_freqs_at s x) i)

  tail-loose : strict_in s x (full_blocks x) ≡ false
  tail-loose = ap (λ (z : Bool). z && strict_block s x (full_blocks x)) (le-ltb (full_blocks x) (full_blocks x) (le_refl (full_blocks x)))

module _ {s : List ℕ} {x : Part} {d f norm : ℕ → ℕ} {score : ℕ → Float} (S : Sound d f x.count (documents s))
    (L : Laid s x d f norm score) where
  pub tail-rows : Rows s x.end (tail_at s x) (tail_size x) (doc_differ d f false (full_blocks x)) (λ i. f (128 * full_blocks x + i))
  unfolding tail_bytes
  tail-rows =
      let b = full_blocks x in
      let n = tail_size x in
      let v = vint_row n (doc_differ d f false b) in
      let g = vint_row n (λ i. f (128 * b + i)) in
      record {
        first_small = λ k h. omega (arith, differ-small S false b k (omega arith));
        second-small = λ k h. omega (arith, S.most (128 * b + k) (omega arith));
        first-row = first-stands s (tail_at s x) v g (tail-stands S L);
        second-row = second-stands s (tail_at s x) v g (tail-stands S L);
        ends = tail-ends S L ∙ regroup (tail_at s x) (length v) (length g) (length-append v g);
      }
    where
      regroup : (p l m : ℕ) {a : ℕ} → a ≡ l + m → p + a ≡ p + l + m
      regroup p l m e = omega arith

  pub tail-decodes : Decodes s x d f (full_blocks x)
  tail-decodes = record {
    inside = rw (tail-size s x) (omega arith);
    doc-values = λ i l.
        tail-doc s x i ∙ first-value tail-rows i (rw (tail-size s x) at l)
        ∙ ap (λ (z : Bool). doc_differ d f z (full_blocks x) i) (sym (tail-loose s x));
    freq-values = λ i l.
        ap (λ (z : Bool). freq_value s x (full_blocks x) i + gap_of z) (tail-loose s x)
        ∙ add-zero (freq_value s x (full_blocks x) i) ∙ tail-freq s x i ∙ second-value tail-rows i (rw (tail-size s x) at l);
  }

  -- every block decodes
  pub decodes : (b : ℕ) → b ≤ full_blocks x → Decodes s x d f b
  decodes b h = elim (eq-or-lt_of_le h) [
    | inl q ↦ subst (Decodes s x d f) (sym q) tail-decodes
    | inr l ↦ full-decodes S L b l
  ]

  -- row 6
  pub postings-right : postings_right s x ≡ true
  unfolding postings_right
  postings-right =
      and-true _ _ (le-leb _ _ (starts-in tail-rows))
      (and-true _ _ (first-whole tail-rows) (and-true _ _ (second-whole tail-rows) (eq-eqb _ _ (second-ends tail-rows))))
