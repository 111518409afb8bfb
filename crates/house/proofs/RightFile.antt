-- A file whose rows are all right is accepted.
use mathlib.Core.Path.{◌≡◌, refl, ap, ◌∙◌}
use mathlib.Core.Bool.{Bool, true}
use mathlib.Core.List.{List}
use Prim.Native.Nat.{ℕ, zero, suc, ◌<◌}
use native.Mathlib.Nat.{le_of_suc-le-suc}
use native.Mathlib.Omega.{arith}
use Rattle.arrays.specs.Every.{every}
use Rattle.arrays.proofs.Every.{all}
use Rattle.notefile.specs.Header.{list_count}
use Rattle.notefile.specs.Parts.{part_of}
use Rattle.notefile.specs.Lists.{full_blocks}
use Rattle.notefile.specs.Conditions.{header_right, average_right, length_right, entry_right, block_docs_right, block_freqs_right, bounds_right}
use Rattle.notefile.specs.Refusal.{unless, lists_tests, file_tests, file_refusal}
use Rattle.notefile.specs.Inner.Order.{blocks_refusal, list_refusal, lists_refusal}
use Rattle.notefile.specs.Inner.Given.{ListRight}
use Rattle.notefile.specs.declared.part.Part.{Part}
use Rattle.notefile.proofs.Accepted.{after1}
use Rattle.notefile.proofs.Order.{lists-next}
use Rattle.contents.proofs.Either.{both-none}

passes : {z : Bool} (n : ℕ) {later : ℕ} → z ≡ true → later ≡ 0 → unless z n later ≡ 0
passes {z} n {later} e f = ap (λ (b : Bool). unless b n later) e ∙ f

module _ (file : List ℕ) where
  right-list : (x : Part) → ListRight file x → list_refusal file x ≡ 0
  unfolding list_refusal blocks_refusal
  right-list x R =
      let n = suc (full_blocks x) in
      passes 5 R.skips
      (passes 6 R.postings
      (passes 7 (all (block_docs_right file x) n (λ b h. R.docs b (le_of_suc-le-suc h)))
      (passes 8 (all (block_freqs_right file x) n (λ b h. R.freqs b (le_of_suc-le-suc h)))
      (passes 9 (all (bounds_right file x) n (λ b h. R.bounds b (le_of_suc-le-suc h))) refl))))

  none : lists_refusal file 0 ≡ 0
  unfolding lists_refusal lists_tests
  none = refl

  right-lists : (n : ℕ) → ((l : ℕ) → l < n → ListRight file (part_of file l)) → lists_refusal file n ≡ 0
  right-lists zero R = none
  right-lists (suc n) R =
      lists-next file n ∙ both-none (right-lists n (λ l h. R l (omega arith))) (right-list (part_of file n) (R n (omega arith)))

  whole : file_refusal file ≡ unless (header_right file) 1 (after1 file)
  unfolding file_refusal file_tests lists_refusal
  whole = refl

  pub right-file : header_right file ≡ true → average_right file ≡ true → length_right file ≡ true
      → every (list_count file) (entry_right file) ≡ true → ((l : ℕ) → l < list_count file → ListRight file (part_of file l))
      → file_refusal file ≡ 0
  right-file r1 r2 r3 r4 R = whole ∙ passes 1 r1 (passes 2 r2 (passes 3 r3 (passes 4 r4 (right-lists (list_count file) R))))
