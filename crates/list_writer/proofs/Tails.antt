-- The tail's bytes, from a block that has its values.
use mathlib.Core.Path.{◌≡◌, sym, ap, ◌∙◌}
use mathlib.Core.Bool.{false}
use mathlib.Core.List.{List, ◌++◌}
use Prim.Native.Nat.{ℕ, ◌+◌, ◌*◌, ◌≤◌}
use native.Mathlib.Nat.{sub-zero}
use native.Mathlib.Omega.{arith}
use lib.ListN.{length, get_or, length-append}
use Rattle.pieces.specs.Inner.Written.{Put}
use Rattle.pieces.proofs.Puts.{put_as, put-behind}
use Rattle.encode.specs.ShortVInt.{vint_row}
use Rattle.encode.specs.Inner.VIntBytes.{row_length}
use Rattle.encode.proofs.VIntRows.{row_same}
use Rattle.notefile.specs.Inner.Reads.{docs_of, freqs_of}
use Rattle.house.specs.House.{doc_differ, tail_bytes}
use Rattle.list_writer.specs.Inner.Filled.{Filled}

module _ {d f : ℕ → ℕ} {b n : ℕ} {block : List (List ℕ)} (F : Filled d f false b n block) where
  docs-row : vint_row n (λ k. get_or (docs_of block) k 0) ≡ vint_row n (doc_differ d f false b)
  docs-row = row_same n (λ k. get_or (docs_of block) k 0) (doc_differ d f false b) F.docs-are

  freqs-row : vint_row n (λ k. get_or (freqs_of block) k 0) ≡ vint_row n (λ i. f (128 * b + i))
  freqs-row = row_same n (λ k. get_or (freqs_of block) k 0) (λ i. f (128 * b + i)) (λ k h. F.freqs-are k h ∙ sub-zero (f (128 * b + k)))

  tail-is : vint_row n (λ k. get_or (docs_of block) k 0) ++ vint_row n (λ k. get_or (freqs_of block) k 0) ≡ tail_bytes d f b n
  unfolding tail_bytes
  tail-is = rw (docs-row, freqs-row)

  tail-long : row_length n (λ k. get_or (docs_of block) k 0) + row_length n (λ k. get_or (freqs_of block) k 0) ≡ length (tail_bytes d f b n)
  tail-long =
      sym (length-append (vint_row n (λ k. get_or (docs_of block) k 0)) (vint_row n (λ k. get_or (freqs_of block) k 0))) ∙ ap length tail-is

  module _ (place : ℕ) (before : List ℕ) (room : place + length (tail_bytes d f b n) ≤ length before) where
    pub docs-room : place + row_length n (λ k. get_or (docs_of block) k 0) ≤ length before
    docs-room = omega (arith, tail-long)

    module _ {middle : ℕ} {mid : List ℕ} (M : middle ≡ place + row_length n (λ k. get_or (docs_of block) k 0))
        (D : Put before place (vint_row n (λ k. get_or (docs_of block) k 0)) mid)
      where
        pub tail-room : middle + row_length n (λ k. get_or (freqs_of block) k 0) ≤ length mid
        tail-room = omega (arith, tail-long, D.written.long, M)

        pub tail_written : {after : List ℕ} {r : ℕ} → r ≡ middle + row_length n (λ k. get_or (freqs_of block) k 0)
            → Put mid middle (vint_row n (λ k. get_or (freqs_of block) k 0)) after
            → (r ≡ place + length (tail_bytes d f b n)) × Put before place (tail_bytes d f b n) after
        tail_written e P = (omega (arith, tail-long, M, e), put_as (put-behind D M P) tail-is)
