-- Pieces of a file, put together and taken apart.
use mathlib.Core.Path.{◌≡◌, refl, sym, ap, ◌∙◌}
use mathlib.Core.List.{List, [], ◌∷◌, ◌++◌}
use mathlib.Core.Logic.{⊎_elim}
use Prim.Native.Nat.{ℕ, zero, suc, ◌+◌, ◌-◌, ◌<◌}
use native.Mathlib.Nat.{not-suc-le-zero, add_assoc, zero-add}
use native.Mathlib.Omega.{arith}
use lib.ListN.{length, get_or, length-append, get_or-append}
use lib.Seq.{get_or-append-add, ext_get_or}
use Rattle.arrays.proofs.Order.{lt-or-ge}
use Rattle.pieces.specs.Bytes.{bytes_of}
use Rattle.pieces.specs.Inner.Written.{Stands}

-- an element of two lists put together
pub in-first : (l m : List ℕ) (k : ℕ) → k < length l → get_or (l ++ m) k 0 ≡ get_or l k 0
in-first l m k h = get_or-append l m 0 k h

pub in-second : (l m : List ℕ) (k : ℕ) → get_or (l ++ m) (length l + k) 0 ≡ get_or m k 0
in-second l m k = get_or-append-add l m k 0

pub long-bytes : (n : ℕ) (f : ℕ → ℕ) → length (bytes_of n f) ≡ n
unfolding bytes_of
long-bytes zero f = refl
long-bytes (suc n) f = length-append (bytes_of n f) (f n ∷ []) ∙ ap (λ (x : ℕ). x + 1) (long-bytes n f) ∙ omega arith

pub each-byte : (n : ℕ) (f : ℕ → ℕ) (k : ℕ) → k < n → get_or (bytes_of n f) k 0 ≡ f k
unfolding bytes_of
each-byte zero f k h = absurd (not-suc-le-zero h)
each-byte (suc n) f k h = ⊎_elim
    (λ l. in-first (bytes_of n f) (f n ∷ []) k (omega (arith, long-bytes n f)) ∙ each-byte n f k l)
    (λ l.
    let z : k ≡ length (bytes_of n f) + 0 = omega (arith, long-bytes n f) in
    let y : k ≡ n = omega arith in
    ap (λ (x : ℕ). get_or (bytes_of n f ++ (f n ∷ [])) x 0) z ∙ in-second (bytes_of n f) (f n ∷ []) 0 ∙ ap f (sym y))
    (lt-or-ge k n)

-- bytes that are equal place by place
pub bytes_same : (n : ℕ) (f g : ℕ → ℕ) → ((k : ℕ) → k < n → f k ≡ g k) → bytes_of n f ≡ bytes_of n g
unfolding bytes_of
bytes_same zero f g h = refl
bytes_same (suc n) f g h = rw (bytes_same n f g (λ k l. h k (omega arith)), h n (omega arith))

-- a list is its elements
pub all-bytes : (s : List ℕ) (n : ℕ) (f : ℕ → ℕ) → length s ≡ n → ((k : ℕ) → k < n → get_or s k 0 ≡ f k) → s ≡ bytes_of n f
all-bytes s n f e h =
    ext_get_or 0 s (bytes_of n f) (e ∙ sym (long-bytes n f)) (λ k l. let z : k < n = omega arith in h k z ∙ sym (each-byte n f k z))

module _ (s : List ℕ) (p : ℕ) where
  pub first-stands : (l m : List ℕ) → Stands s p (l ++ m) → Stands s p l
  first-stands l m S = record { at = λ k h. S.at k (omega (arith, length-append l m)) ∙ in-first l m k h }

  pub second-stands : (l m : List ℕ) → Stands s p (l ++ m) → Stands s (p + length l) m
  second-stands l m S = record {
    at = λ k h.
        ap (λ (x : ℕ). get_or s x 0) (add_assoc p (length l) k)
        ∙ S.at (length l + k) (omega (arith, length-append l m))
        ∙ in-second l m k;
  }

  pub both-stand : (l m : List ℕ) → Stands s p l → Stands s (p + length l) m → Stands s p (l ++ m)
  both-stand l m S T = record {
    at = λ k h. ⊎_elim
        (λ g. S.at k g ∙ sym (in-first l m k g))
        (λ g.
        let z : length l + (k - length l) ≡ k = omega arith in
        let y : p + k ≡ p + length l + (k - length l) = omega arith in
        ap (λ (x : ℕ). get_or s x 0) y
        ∙ T.at (k - length l) (omega (arith, length-append l m))
        ∙ sym (in-second l m (k - length l))
        ∙ ap (λ (x : ℕ). get_or (l ++ m) x 0) z)
        (lt-or-ge k (length l));
  }

  pub bytes-stand : (n : ℕ) (f : ℕ → ℕ) → ((k : ℕ) → k < n → get_or s (p + k) 0 ≡ f k) → Stands s p (bytes_of n f)
  bytes-stand n f h = record { at = λ k l. let z : k < n = omega (arith, long-bytes n f) in h k z ∙ sym (each-byte n f k z) }

  pub standing : (n : ℕ) (f : ℕ → ℕ) → Stands s p (bytes_of n f) → (k : ℕ) → k < n → get_or s (p + k) 0 ≡ f k
  standing n f S k l = S.at k (omega (arith, long-bytes n f)) ∙ each-byte n f k l

pub none-stands : (s : List ℕ) (p : ℕ) → Stands s p []
none-stands s p = record { at = λ k h. absurd (not-suc-le-zero h) }

-- what stands from the start to the end is all there is
pub whole-stands : (s l : List ℕ) → length s ≡ length l → Stands s 0 l → s ≡ l
whole-stands s l e S = ext_get_or 0 s l e (λ k h. ap (λ (x : ℕ). get_or s x 0) (sym (zero-add k)) ∙ S.at k (omega arith))
