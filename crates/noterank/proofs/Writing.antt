-- A file written, as numbers.
use mathlib.Core.Path.{◌≡◌, refl, sym, ◌∙◌, subst}
use mathlib.Core.List.{List}
use Prim.Native.Nat.{ℕ, zero, suc, ◌<◌}
use native.Mathlib.Omega.{arith}
use lib.ListN.{length}
use Rattle.std.specs.Prelude.{Result}
use Rattle.outcome.specs.Refusals.{refusal_number}
use Rattle.outcome.specs.declared.refusal.Refusal.{Refusal}
use Rattle.contents.specs.Contents.{Contents}
use Rattle.contents.proofs.Refused.{contents-head}
use Rattle.house.specs.House.{house_file}
use Rattle.house.proofs.FileSmall.{house-short}
use Rattle.note_writer.specs.Writes.{length_of, length_for, write_refusal, WriteIs}
use Rattle.note_writer.proofs.Answering.{clear-contents}
use Rattle.noterank.specs.Interface.{WroteFile}

answer-short : (n : ℕ) (file : List ℕ) → (n ≡ 0 → length file < 4294967296) → length_for n file < 4294967296
answer-short zero file h = h refl
answer-short (suc n) file h = omega arith

module _ (c : Contents) (old : List ℕ) {r : Result ℕ Refusal} {new : List ℕ} (W : WriteIs c old r new) where
  -- its length fits 32 bits
  pub file-short : length_of r < 4294967296
  file-short =
      subst (λ (n : ℕ). n < 4294967296) (sym W.length-is)
      (answer-short (write_refusal c (length old)) (house_file c)
      (λ e. omega (arith, house-short c (contents-head c (clear-contents c old e)))))

  pub wrote : {number size : ℕ} → number ≡ refusal_number r → size ≡ length_of r → WroteFile c old number size new
  wrote e f = record {
    number_is = e ∙ W.number_is;
    size_is = f ∙ W.length-is;
    output-is = W.output-is;
  }
