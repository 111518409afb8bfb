-- The tail of an accepted list in house form is the house form's.
use mathlib.Core.Path.{◌≡◌, refl, sym, ap, ◌∙◌, subst}
use mathlib.Core.Bool.{true, false, ◌&&◌, true≢false}
use mathlib.Core.List.{List}
use Prim.Native.Nat.{ℕ, zero, suc, ◌+◌, ◌*◌, ◌≤◌, ◌<◌}
use native.Mathlib.Nat.{add-zero, zero-add}
use native.Mathlib.Omega.{arith}
use lib.Dec.{eqb, leb}
use lib.ListN.{length, get_or, length-append}
use borrow.Author.Tests.{le-ltb, eqb-true}
use Rattle.arrays.specs.Every.{every}
use Rattle.arrays.proofs.Every.{first-true, second-true, each}
use Rattle.codec.specs.VInt.{vint_from, vint_at, whole, value_of, next_of}
use Rattle.codec.specs.VInts.{vint_place, vint_value, vint_whole}
use Rattle.pieces.specs.Inner.Written.{Stands}
use Rattle.pieces.proofs.Standing.{both-stand}
use Rattle.encode.specs.ShortVInt.{short_vint, vint_row}
use Rattle.encode.specs.Inner.VIntBytes.{vint_length, row_length}
use Rattle.encode.proofs.WholeVInt.{uncapped}
use Rattle.encode.proofs.ShortVInts.{vint-back, vint-shortest}
use Rattle.encode.proofs.VIntRows.{row_more, row-only}
use Rattle.notefile.specs.Lists.{full_blocks, tail_size, doc_value, freq_value, tail_at, tail_freqs_at}
use Rattle.notefile.specs.Conditions.{postings_right}
use Rattle.notefile.specs.declared.part.Part.{Part}
use Rattle.house.specs.House.{doc_differ, tail_bytes}
use Rattle.house.specs.Form.{Shortest}
use Rattle.house.proofs.ShortBytes.{short-bytes}
use Rattle.house.proofs.Given.{Read}
use Rattle.house.proofs.OnlyRead.{doc-values, freq-values, tail-not-strict}
use Rattle.house.proofs.OnlyBlocks.{behind}
use Rattle.std.proofs.Common.{Option, Some, None}

-- VInts from place p on that are whole and the shortest
module _ (s : List ℕ) (e p : ℕ) (bytes : (i : ℕ) → get_or s i 0 < 256) where
  told : (q : ℕ) (r : Option (ℕ × ℕ)) → r ≡ vint_at s e q → whole r ≡ true → vint_at s e q ≡ Some (value_of r, next_of q r)
  told q (Some (y, m)) f w = sym f
  told q None f w = absurd (true≢false (sym w))

  one_at : (k : ℕ) → vint_whole s e p k ≡ true → vint_at s e (vint_place s e p k) ≡ Some (vint_value s e p k, vint_place s e p (suc k))
  unfolding vint_place vint_value vint_whole
  one_at k w = told (vint_place s e p k) (vint_at s e (vint_place s e p k)) refl w

  fits : (q v next : ℕ) → vint_at s e q ≡ Some (v, next) → v < 4294967296
  unfolding vint_at
  fits q v next t = (uncapped s e (vint_from 5 s e q) t).1

  -- the shortest of a number is one of its VInts
  itself : (v : ℕ) → v < 4294967296 → vint_at (short_vint v) (vint_length v) 0 ≡ Some (v, vint_length v)
  itself v h =
      vint-back (short_vint v) (vint_length v) 0 v h (omega arith)
      (record { at = λ k _. ap (λ (z : ℕ). get_or (short_vint v) z 0) (zero-add k) })
      ∙ ap (λ (y : ℕ). Some (v, y)) (zero-add (vint_length v))

  -- so each has its length, and they are the row of their values
  module _ (n : ℕ) (all : every n (vint_whole s e p) ≡ true) (least : Shortest s e p n) where
    step : (k : ℕ) → k < n → vint_place s e p (suc k) ≡ vint_place s e p k + vint_length (vint_value s e p k)
    step k h =
        let v = vint_value s e p k in
        let t = one_at k (each (vint_whole s e p) n k all h) in
        let low = vint-shortest s e (vint_place s e p k) v bytes (vint_place s e p (suc k)) t in
        let own = itself v (fits (vint_place s e p k) v (vint_place s e p (suc k)) t) in
        let top = least k h (short_vint v) (short-bytes v) (vint_length v) 0 (vint_length v) own in
        between (vint_place s e p (suc k)) (vint_place s e p k) (vint_length v) low top
      where
        between : (a b l : ℕ) → b + l ≤ a → a + 0 ≤ l + b → a ≡ b + l
        between a b l h g = omega arith

    pub short_row : (u : ℕ → ℕ) → ((k : ℕ) → k < n → vint_value s e p k ≡ u k)
        → (Stands s p (vint_row n u)) × (vint_place s e p n ≡ p + row_length n u)
    unfolding vint_place vint_row
    short_row u same = (row-only u s e p bytes n (λ k h. each (vint_whole s e p) n k all h) same along, places n (omega arith))
      where
        along : (k : ℕ) → k < n → vint_place s e p (suc k) ≡ vint_place s e p k + vint_length (u k)
        along k h = step k h ∙ ap (λ (z : ℕ). vint_place s e p k + vint_length z) (same k h)

        places : (k : ℕ) → k ≤ n → vint_place s e p k ≡ p + row_length k u
        places zero h = sym (add-zero p)
        places (suc k) h = along k h ∙ omega (arith, places k (omega arith), row_more u k)

-- what row 6 says of the tail
record TailRight (s : List ℕ) (x : Part) : Type 0 where
  docs : every (tail_size x) (vint_whole s x.end (tail_at s x)) ≡ true
  freqs : every (tail_size x) (vint_whole s x.end (tail_freqs_at s x)) ≡ true
  last : vint_place s x.end (tail_freqs_at s x) (tail_size x) ≡ x.end

module _ (s : List ℕ) (x : Part) where
  tail-right : postings_right s x ≡ true → TailRight s x
  unfolding postings_right
  tail-right R =
      let a = leb (tail_at s x) x.end in
      let b = every (tail_size x) (vint_whole s x.end (tail_at s x)) in
      let c = every (tail_size x) (vint_whole s x.end (tail_freqs_at s x)) in
      let e = eqb (vint_place s x.end (tail_freqs_at s x) (tail_size x)) x.end in
      let t : b && (c && e) ≡ true = second-true a (b && (c && e)) R in
      let u : c && e ≡ true = second-true b (c && e) t in
      record {
        docs = first-true b (c && e) t;
        freqs = first-true c e u;
        last = eqb-true (vint_place s x.end (tail_freqs_at s x) (tail_size x)) x.end (second-true c e u);
      }

  -- the tail's values are VInts
  doc-vint : (i : ℕ) → doc_value s x (full_blocks x) i ≡ vint_value s x.end (tail_at s x) i
  unfolding doc_value
  doc-vint i = rw (le-ltb (full_blocks x) (full_blocks x) (omega arith))

  freq-vint : (i : ℕ) → freq_value s x (full_blocks x) i ≡ vint_value s x.end (tail_freqs_at s x) i
  unfolding freq_value
  freq-vint i = rw (le-ltb (full_blocks x) (full_blocks x) (omega arith))

module _ {s : List ℕ} {x : Part} {d f : ℕ → ℕ} (bytes : (i : ℕ) → get_or s i 0 < 256) (R : Read s x d f) where
  small : tail_size x ≤ 128
  small = omega arith

  rest : 128 * full_blocks x + tail_size x ≤ x.count
  rest = omega arith

  docs-are : (i : ℕ) → i < tail_size x → vint_value s x.end (tail_at s x) i ≡ doc_differ d f false (full_blocks x) i
  docs-are i h = sym (doc-vint s x i) ∙ doc-values R (full_blocks x) (tail_size x) false (tail-not-strict s x) small rest i h

  freqs-are : (i : ℕ) → i < tail_size x → vint_value s x.end (tail_freqs_at s x) i ≡ f (128 * full_blocks x + i)
  freqs-are i h =
      sym (freq-vint s x i)
      ∙ sym (add-zero (freq_value s x (full_blocks x) i))
      ∙ freq-values R (full_blocks x) (tail_size x) false (tail-not-strict s x) small rest i h

  -- the tail stands behind the full blocks, and ends where the list does
  pub tail-only : (Stands s (tail_at s x) (tail_bytes d f (full_blocks x) (tail_size x)))
      × (x.end ≡ tail_at s x + length (tail_bytes d f (full_blocks x) (tail_size x)))
  unfolding tail_bytes
  tail-only =
      let T = tail-right s x R.right.postings in
      let docs = doc_differ d f false (full_blocks x) in
      let freqs : ℕ → ℕ = λ i. f (128 * full_blocks x + i) in
      let D = short_row s x.end (tail_at s x) bytes (tail_size x) T.docs R.form.docs-shortest docs docs-are in
      let F = short_row s x.end (tail_freqs_at s x) bytes (tail_size x) T.freqs R.form.freqs-shortest freqs freqs-are in (
        both-stand s (tail_at s x) (vint_row (tail_size x) docs) (vint_row (tail_size x) freqs) D.0
            (subst (λ (z : ℕ). Stands s z (vint_row (tail_size x) freqs)) D.1 F.0),
        behind (tail_at s x) (tail_freqs_at s x) x.end _ _ _ D.1 (sym T.last ∙ F.1)
            (length-append (vint_row (tail_size x) docs) (vint_row (tail_size x) freqs)),
      )
