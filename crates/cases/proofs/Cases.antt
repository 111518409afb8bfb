-- Every case of the table holds: each request's answer is worked out by its definition, and the promises carry it to its runs.
use mathlib.Core.Path.{◌≡◌, refl, ap, ◌∙◌, subst}
use mathlib.Core.List.{List, [], ◌∷◌}
use mathlib.Core.Bool.{Bool, true, ◌&&◌}
use Prim.Native.Nat.{ℕ, zero, suc, ◌<◌}
use lib.Dec.{lit<, ltb}
use lib.ListN.{set}
use lib.Ieee.{Float, add, mul, div, sub, round, of_int, le, lt, of_bits}
use borrow.Author.Tests.{ltb-true}
use Rattle.arrays.proofs.Every.{first-true, second-true}
use Rattle.floats.specs.Step.{grid_f, step_down}
use Rattle.floats.proofs.Worked.{case-l}
use Rattle.codec.specs.Bits.{bits_at}
use Rattle.codec.specs.VInts.{vint_place, vint_value, vint_whole}
use Rattle.codec.specs.VInt.{vint_at}
use Rattle.fieldnorm.specs.Code.{fieldnorm}
use Rattle.arrays.specs.Every.{All}
use Rattle.route.specs.Rule as rules
use Rattle.compression.specs.Documents.{doc_at}
use Rattle.bm25.specs.Score.{score_of}
use Rattle.bm25.specs.Limits.{average_ok}
use Rattle.bm25.specs.declared.Scoring.TheVariants.{Stepped}
use Rattle.rule.specs.declared.Rule.{Rule}
use Rattle.notefile.specs.Header.{norm_code_of}
use Rattle.notefile.specs.Parts.{part_of}
use Rattle.notefile.specs.Lists.{block_score, list_bound}
use Rattle.notefile.specs.Conditions.{header_right, average_right, length_right, entry_right, skips_right, postings_right, block_docs_right, block_freqs_right, bounds_right}
use Rattle.notefile.specs.Refusal.{file_refusal}
use Rattle.decoded.specs.Lists.{list_of, queried}
use Rattle.decoded.specs.Inner.Bytes.{Bytes}
use Rattle.request.specs.Request.{asked, refusal_of}
use Rattle.request.specs.Lists.{plain_list}
use Rattle.request.specs.declared.Mode.{Mode}
use Rattle.ranking.specs.Answers.{answer, Answered}
use Rattle.ranking.proofs.Demand.{run-plain}
use Rattle.cases.specs.Table.{small, Runs, Holds, cases}

-- an answer that is worked out is every run's
runs : (file query : List ℕ) → Bytes file → (mode : Mode) (rule : Rule) (script : List Float) (n : ℕ) (a : rules.Outcome Float)
    → let q = asked file query mode Stepped rule script in answer (refusal_of q) n (plain_list q) ≡ a → Runs q n a
runs file query bytes mode rule script n a e old r new k =
    let q = asked file query mode Stepped rule script in
    let by = subst (λ (z : rules.Outcome Float). Answered z old r new) (ap (λ (z : ℕ). answer (refusal_of q) z (plain_list q)) k ∙ e) in
    ((λ R. by (run-plain file query bytes mode rule script R)), (λ P. by P))

-- a list of bytes
below : List ℕ → Bool
below [] = true
below (x ∷ xs) = ltb x 256 && below xs

bytes_of : (xs : List ℕ) → below xs ≡ true → Bytes xs
unfolding below
bytes_of [] e i = lit< tt
bytes_of (x ∷ xs) e zero = ltb-true x 256 (first-true (ltb x 256) (below xs) e)
bytes_of (x ∷ xs) e (suc i) = bytes_of xs (second-true (ltb x 256) (below xs) e) i

-- ALL OF THE TABLE
pub all_hold : All Holds cases
unfolding below refusal_of queried list_of step_down vint_at file_refusal header_right average_right length_right entry_right skips_right postings_right block_docs_right block_freqs_right bounds_right bits_at part_of vint_place vint_value vint_whole doc_at norm_code_of block_score list_bound average_ok score_of fieldnorm grid_f add mul div sub of_int round le lt of_bits
all_hold = (
  runs small _ (bytes_of small refl) _ _ _ _ _ refl,
  (
    runs small _ (bytes_of small refl) _ _ _ _ _ refl,
    (
      runs small _ (bytes_of small refl) _ _ _ _ _ refl,
      (
        runs small _ (bytes_of small refl) _ _ _ _ _ refl,
        (
          runs small _ (bytes_of small refl) _ _ _ _ _ refl,
          (
            runs small _ (bytes_of small refl) _ _ _ _ _ refl,
            (
              runs small _ (bytes_of small refl) _ _ _ _ _ refl,
              (
                runs small _ (bytes_of small refl) _ _ _ _ _ refl,
                (
                  runs (set small 38 0x84) _ (bytes_of (set small 38 0x84) refl) _ _ _ _ _ refl,
                  (refl, (refl, (refl, (case-l.0, (case-l.1, tt))))),
                ),
              ),
            ),
          ),
        ),
      ),
    ),
  ),
)
