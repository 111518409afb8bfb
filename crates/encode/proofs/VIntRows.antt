-- Rows of shortest VInts: they read back, and no other row as short does.
use mathlib.Core.Path.{◌≡◌, refl, sym, ap, ◌∙◌, subst}
use mathlib.Core.List.{List}
use mathlib.Core.Bool.{true, true≢false}
use Prim.Native.Nat.{ℕ, zero, suc, ◌+◌, ◌-◌, ◌*◌, ◌≤◌, ◌<◌}
use native.Mathlib.Nat.{add-zero, add-suc, add_assoc}
use native.Mathlib.Numerals.{add-one}
use native.Mathlib.Omega.{arith}
use lib.ListN.{length, get_or, length-append}
use Rattle.codec.specs.VInt.{vint_at, whole, value_of, next_of}
use Rattle.codec.specs.VInts.{vint_place, vint_value, vint_whole}
use Rattle.pieces.specs.Inner.Written.{Put, Stands}
use Rattle.encode.specs.ShortVInt.{short_vint, vint_row}
use Rattle.encode.specs.Inner.VIntBytes.{vint_length, row_length}
use Rattle.pieces.proofs.Puts.{put-nothing, put_as, put-behind}
use Rattle.encode.proofs.ShortVInts.{vint-back, vint-shortest, vint-only, vint-most}
use Rattle.pieces.proofs.Standing.{none-stands, first-stands, second-stands, both-stand}
use Rattle.std.proofs.Common.{Option, Some, None}

-- a row knows no more than its n numbers
pub row_same : (n : ℕ) (u v : ℕ → ℕ) → ((k : ℕ) → k < n → u k ≡ v k) → vint_row n u ≡ vint_row n v
unfolding vint_row
row_same zero u v h = refl
row_same (suc n) u v h = rw (row_same n u v (λ k l. h k (omega arith)), h n (omega arith))

module _ (v : ℕ → ℕ) where
  pub row_more : (n : ℕ) → row_length (suc n) v ≡ row_length n v + vint_length (v n)
  unfolding vint_row
  row_more n = length-append (vint_row n v) (short_vint (v n))

  pub row-grows : (k r : ℕ) → row_length k v ≤ row_length (k + r) v
  row-grows k zero = rw add-zero (omega arith)
  row-grows k (suc r) = rw add-suc (omega (arith, row-grows k r, row_more (k + r)))

  pub row-mono : (k n : ℕ) → k ≤ n → row_length k v ≤ row_length n v
  row-mono k n h = let e : n ≡ k + (n - k) = omega arith in rw e (row-grows k (n - k))

  pub row-most : (n : ℕ) → row_length n v ≤ 5 * n
  unfolding vint_row
  row-most zero = omega arith
  row-most (suc n) = omega (arith, row_more n, row-most n, vint-most (v n))

  module _ (s : List ℕ) (e p : ℕ) where
    fewer : (k r : ℕ) → Stands s p (vint_row (k + r) v) → Stands s p (vint_row k v)
    unfolding vint_row
    fewer k zero S = rw add-zero at S
    fewer k (suc r) S = fewer k r (first-stands s p (vint_row (k + r) v) (short_vint (v (k + r))) (rw add-suc at S))

    -- a row that stands at p is read
    module _ (n : ℕ) (small : (k : ℕ) → k < n → v k < 4294967296) (S : Stands s p (vint_row n v)) (inside : p + row_length n v ≤ e) where
      row_at : (k : ℕ) → k < n → vint_at s e (p + row_length k v) ≡ Some (v k, p + row_length (suc k) v)
      unfolding vint_row
      row_at k h =
          let q : n ≡ suc k + (n - suc k) = omega arith in
          let T : Stands s p (vint_row (suc k) v) = fewer (suc k) (n - suc k) (subst (λ (x : ℕ). Stands s p (vint_row x v)) q S) in
          let U : Stands s (p + length (vint_row k v)) (short_vint (v k)) = second-stands s p (vint_row k v) (short_vint (v k)) T in
          vint-back s e (p + row_length k v) (v k) (small k h) (omega (arith, row_more k, row-mono (suc k) n h)) U
          ∙ ap (λ (y : ℕ). Some (v k, y)) (add_assoc p (row_length k v) (vint_length (v k)) ∙ ap (λ (x : ℕ). p + x) (sym (row_more k)))

      pub row-place : (k : ℕ) → k ≤ n → vint_place s e p k ≡ p + row_length k v
      unfolding vint_place vint_row
      row-place zero h = sym (add-zero p)
      row-place (suc k) h =
          ap (λ (x : ℕ). next_of x (vint_at s e x)) (row-place k (omega arith))
          ∙ ap (next_of (p + row_length k v)) (row_at k h)

      pub row-value : (k : ℕ) → k < n → vint_value s e p k ≡ v k
      unfolding vint_value
      row-value k h = ap (λ (x : ℕ). value_of (vint_at s e x)) (row-place k (omega arith)) ∙ ap value_of (row_at k h)

      pub row-whole : (k : ℕ) → k < n → vint_whole s e p k ≡ true
      unfolding vint_whole
      row-whole k h = ap (λ (x : ℕ). whole (vint_at s e x)) (row-place k (omega arith)) ∙ ap whole (row_at k h)

    -- whole VInts of these values
    module _ (bytes : (i : ℕ) → get_or s i 0 < 256) where
      told : (q x : ℕ) (r : Option (ℕ × ℕ)) → r ≡ vint_at s e q → whole r ≡ true → value_of r ≡ x → vint_at s e q ≡ Some (x, next_of q r)
      told q x (Some (y, m)) f w g = sym f ∙ ap (λ (z : ℕ). Some (z, m)) g
      told q x None f w g = absurd (true≢false (sym w))

      next-at : (k : ℕ) → vint_whole s e p k ≡ true → vint_value s e p k ≡ v k
          → vint_at s e (vint_place s e p k) ≡ Some (v k, vint_place s e p (suc k))
      unfolding vint_place vint_value vint_whole
      next-at k w x = told (vint_place s e p k) (v k) (vint_at s e (vint_place s e p k)) refl w x

      -- whole VInts of these values take no fewer bytes than the row
      pub row-least : (n : ℕ) → ((k : ℕ) → k < n → vint_whole s e p k ≡ true) → ((k : ℕ) → k < n → vint_value s e p k ≡ v k)
          → p + row_length n v ≤ vint_place s e p n
      unfolding vint_place vint_row
      row-least zero w x = omega arith
      row-least (suc n) w x =
          let g = next-at n (w n (omega arith)) (x n (omega arith)) in
          let a = vint-shortest s e (vint_place s e p n) (v n) bytes (vint_place s e p (suc n)) g in
          let b = row-least n (λ k h. w k (omega arith)) (λ k h. x k (omega arith)) in
          omega (arith, a, b, row_more n)

      -- and of as many bytes they are the row
      pub row-tight : (n : ℕ) → ((k : ℕ) → k < n → vint_whole s e p k ≡ true) → ((k : ℕ) → k < n → vint_value s e p k ≡ v k)
          → vint_place s e p n ≡ p + row_length n v → Stands s p (vint_row n v)
      unfolding vint_row
      row-tight zero w x t = none-stands s p
      row-tight (suc n) w x t =
          let q = vint_place s e p n in
          let g = next-at n (w n (omega arith)) (x n (omega arith)) in
          let a = vint-shortest s e q (v n) bytes (vint_place s e p (suc n)) g in
          let b = row-least n (λ k h. w k (omega arith)) (λ k h. x k (omega arith)) in
          let c : q ≡ p + row_length n v = omega (arith, a, b, t, row_more n) in
          let d : vint_place s e p (suc n) ≡ q + vint_length (v n) = omega (arith, a, b, t, row_more n) in
          both-stand s p (vint_row n v) (short_vint (v n)) (row-tight n (λ k h. w k (omega arith)) (λ k h. x k (omega arith)) c)
          (subst (λ (y : ℕ). Stands s y (short_vint (v n))) c (vint-only s e q (v n) bytes (vint_place s e p (suc n)) g d))

      -- so they are if each is as short as can be
      pub row-only : (n : ℕ) → ((k : ℕ) → k < n → vint_whole s e p k ≡ true) → ((k : ℕ) → k < n → vint_value s e p k ≡ v k)
          → ((k : ℕ) → k < n → vint_place s e p (suc k) ≡ vint_place s e p k + vint_length (v k)) → Stands s p (vint_row n v)
      unfolding vint_place vint_row
      row-only n w x l = row-tight n w x (ends n l)
        where
          ends : (n : ℕ) → ((k : ℕ) → k < n → vint_place s e p (suc k) ≡ vint_place s e p k + vint_length (v k))
              → vint_place s e p n ≡ p + row_length n v
          ends zero l = sym (add-zero p)
          ends (suc n) l = omega (arith, l n (omega arith), ends n (λ k h. l k (omega arith)), row_more n)

-- i of n are written, and the next comes to p
pub record RowWriting (v : ℕ → ℕ) (before : List ℕ) (at n : ℕ) (out : List ℕ) (p i : ℕ) : Type 0 where
  pub within : i ≤ n
  pub place_is : p ≡ at + row_length i v
  pub place : Put before at (vint_row i v) out

pub begun : (v : ℕ → ℕ) (before : List ℕ) (at n : ℕ) → RowWriting v before at n before at 0
unfolding vint_row
begun v before at n = record { within = omega arith; place_is = sym (add-zero at); place = put-nothing before at }

module _ {v : ℕ → ℕ} {before : List ℕ} {at n : ℕ} {out : List ℕ} {p i : ℕ} (R : RowWriting v before at n out p i) where
  pub all-written : n ≤ i → (p ≡ at + row_length n v) × Put before at (vint_row n v) out
  all-written h =
      let e : i ≡ n = omega (arith, R.within) in
      (R.place_is ∙ ap (λ (x : ℕ). at + row_length x v) e, subst (λ (x : ℕ). Put before at (vint_row x v) out) e R.place)

  module _ (h : i < n) where
    pub room : at + row_length n v ≤ length before → {x : ℕ} → x ≡ v i → p + vint_length x ≤ length out
    room l e = rw e (omega (arith, R.place_is, R.place.written.long, row_more v i, row-mono v (suc i) n h))

    pub goes_on : {x next : ℕ} {after : List ℕ} → x ≡ v i → next ≡ p + vint_length x → Put out p (short_vint x) after
        → RowWriting v before at n after next (i + 1)
    unfolding vint_row
    goes_on {x} {next} {after} e f W = rw add-one (record {
      within = h;
      place_is = omega (arith, f, ap vint_length e, R.place_is, row_more v i);
      place = put-behind R.place R.place_is (put_as W (ap short_vint e));
    })

-- the lengths of i of n are summed
pub record Summing (v : ℕ → ℕ) (n sum i : ℕ) : Type 0 where
  pub within : i ≤ n
  pub sum_is : sum ≡ row_length i v

pub sum-begun : (v : ℕ → ℕ) (n : ℕ) → Summing v n 0 0
unfolding vint_row
sum-begun v n = record { within = omega arith; sum_is = refl }

module _ {v : ℕ → ℕ} {n sum i : ℕ} (S : Summing v n sum i) where
  pub sum_low : n ≤ 128 → sum ≤ 640
  sum_low h = omega (arith, S.within, S.sum_is, row-most v i)

  pub sum_more : i < n → {x y : ℕ} → x ≡ v i → y ≡ vint_length x → Summing v n (sum + y) (i + 1)
  sum_more h {x} {y} e f = rw add-one (record { within = h; sum_is = omega (arith, f, ap vint_length e, S.sum_is, row_more v i) })
