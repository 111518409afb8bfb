-- A loop that joins the bits of 128 values: it begins, it goes on, it ends.
use Rattle.std.proofs.Common.{◌≡◌, ℕ, ◌+◌, ◌^◌, ◌<◌, ◌≤◌, sym, ◌∙◌, subst, lt_of_le_of_lt, arith}
use lib.Bits.{bit_or, or_zero_l}
use Rattle.pieces.specs.Bytes.{bytes_of}
use Rattle.pieces.proofs.Standing.{each-byte}
use Rattle.packing.proofs.Widths.{Gathering, begun, goes_on, width_is}
use Rattle.block_look.specs.Inner.Joint.{Joint}

-- the bits of the first i values, all together
abbrev pub Joining : (ℕ → ℕ) → ℕ → ℕ → Type 0
Joining f all i = Gathering (bytes_of 128 f) all i

module _ (f : ℕ → ℕ) where
  pub none-joined : Joining f 0 0
  none-joined = begun (bytes_of 128 f)

  pub next-joined : {all i x : ℕ} → Joining f all i → i < 128 → x ≡ f i → x < 4294967296 → Joining f (bit_or all x) (i + 1)
  next-joined {i = i} G h e s = goes_on G h (e ∙ sym (each-byte 128 f i h)) s

  pub first-joined : {x : ℕ} → x ≡ f 0 → x < 4294967296 → Joining f x 1
  first-joined {x} e s = subst (λ (y : ℕ). Joining f y 1) (or_zero_l x) (next-joined none-joined (omega arith) e s)

  pub joined : {all i : ℕ} → Joining f all i → 128 ≤ i → Joint f all
  joined {all} G h = record {
    width = width_is G h;
    each = λ u l k m. lt_of_le_of_lt (subst (λ (y : ℕ). y ≤ all) (each-byte 128 f k m) (G.covers k (omega arith))) l;
    below = λ u g. G.least u (λ k l.
        let m : k < 128 = omega (arith, G.top) in
        subst (λ (y : ℕ). y < 2 ^ u) (sym (each-byte 128 f k m)) (g k m));
  }
