-- What is found of a full block, each way that the code goes.
use Rattle.std.proofs.Common.{◌≡◌, ℕ, ◌+◌, ◌-◌, ◌≤◌, Bool, true, false, List, get_or, sym, ap, ◌∙◌}
use lib.Count.{count_leading_zeros}
use Rattle.compression.specs.Documents.{start_of, rising_below}
use Rattle.frequencies.specs.Frequencies.{freqs_right}
use Rattle.notefile.specs.Inner.Order.{first_of}
use Rattle.std.specs.Prelude.{Ok, Err}
use Rattle.outcome.specs.declared.refusal.Refusal.TheVariants.{Documents, Frequencies}
use Rattle.block_look.specs.Inner.Joint.{steps, less_one, Joint}
use Rattle.block_look.specs.Inner.Looked.{Looked}
use Rattle.block_look.proofs.Judged.{docs-width, freqs-width}

module _ (docs freqs : List ℕ) (at : ℕ) (first : Bool) (previous limit : ℕ) where
  abbrev d : ℕ → ℕ
  d i = get_or docs (at + i) 0

  abbrev f : ℕ → ℕ
  f i = get_or freqs (at + i) 0

  abbrev docs-right : Bool
  docs-right = rising_below d first previous 128 limit

  -- row 7 refuses
  pub refused-docs : {t : Bool} → t ≡ docs-right → t ≡ false
      → Looked docs freqs at first previous limit (Err Documents)
  refused-docs e n = sym (ap (λ (b : Bool). first_of b (freqs_right f 128) true) (sym e ∙ n))

  module _ {t : Bool} (e : t ≡ docs-right) (y : t ≡ true) {u : Bool} (g : u ≡ freqs_right f 128) where
    first-is : {b : Bool} → u ≡ b → first_of docs-right (freqs_right f 128) true ≡ first_of true b true
    first-is {b} n =
        ap (λ (x : Bool). first_of x (freqs_right f 128) true) (sym e ∙ y) ∙ ap (λ (x : Bool). first_of true x true) (sym g ∙ n)

    -- row 8 does
    pub refused-freqs : u ≡ false → Looked docs freqs at first previous limit (Err Frequencies)
    refused-freqs n = sym (first-is n)

    -- neither does, and the bits are counted
    pub let_through : {a b v w : ℕ} → limit ≤ 1048576 → u ≡ true → Joint (steps d (start_of true previous first)) a → Joint (less_one f) b
        → v ≡ 32 - count_leading_zeros 32 a → w ≡ 32 - count_leading_zeros 32 b
        → Looked docs freqs at first previous limit (Ok (record { doc_bits = v; freq_bits = w }))
    let_through lim n J K p q = record {
      none = sym (first-is n);
      doc-bits-are = p ∙ docs-width d first previous limit lim (sym e ∙ y) J;
      freq-bits-are = q ∙ freqs-width f (sym g ∙ n) K;
    }
