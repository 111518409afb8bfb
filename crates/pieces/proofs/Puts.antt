-- Pieces written one after another.
use mathlib.Core.Path.{◌≡◌, sym, subst}
use mathlib.Core.List.{List, [], ◌++◌}
use Prim.Native.Nat.{ℕ, ◌+◌}
use lib.ListN.{length, get_or, length-append}
use Rattle.pieces.specs.Bytes.{bytes_of}
use Rattle.pieces.specs.Inner.Written.{Written, Put}
use Rattle.pieces.proofs.Writes.{none, also, recast, fully}
use Rattle.pieces.proofs.Standing.{in-first, in-second, long-bytes, each-byte}

pub put-nothing : (before : List ℕ) (p : ℕ) → Put before p [] before
put-nothing before p = record { written = none before p (λ k. get_or {A = ℕ} [] k 0) }

-- bytes by their places, as a piece
pub put-bytes : {before : List ℕ} {p n : ℕ} {f : ℕ → ℕ} {after : List ℕ} → Written before p n f after → Put before p (bytes_of n f) after
put-bytes {before} {p} {n} {f} {after} W = record {
  written = fully (recast W (λ k. get_or (bytes_of n f) k 0) (λ k l. sym (each-byte n f k l))) (sym (long-bytes n f));
}

module _ {before : List ℕ} {p : ℕ} {x mid : List ℕ} (X : Put before p x mid) where
  -- the same piece, said otherwise
  pub put_as : {y : List ℕ} → x ≡ y → Put before p y mid
  put_as e = subst (λ (l : List ℕ). Put before p l mid) e X

  -- a piece behind it, at place q
  pub put-behind : {q : ℕ} {y after : List ℕ} → q ≡ p + length x → Put mid q y after → Put before p (x ++ y) after
  put-behind {q} {y} {after} e Y = record {
    written =
        fully
        (also (recast X.written (λ k. get_or (x ++ y) k 0) (λ k l. sym (in-first x y k l))) Y.written e (λ k l. sym (in-second x y k)))
        (sym (length-append x y));
  }
