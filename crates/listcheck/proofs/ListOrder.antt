-- What a list is refused for, out of what its readers answered.
use mathlib.Core.Path.{◌≡◌, refl, sym, ap, ◌∙◌}
use mathlib.Core.Bool.{Bool, true, false, ◌&&◌}
use mathlib.Core.List.{List}
use Prim.Native.Nat.{ℕ, suc, ◌+◌, ◌*◌}
use lib.Dec.{eqb, leb}
use borrow.Author.Tests.{eqb-true, leb-true}
use Rattle.std.specs.Prelude.{Result, Ok, Err}
use Rattle.outcome.specs.Inner.Lower.{lower}
use Rattle.outcome.specs.Refusals.{number_of}
use Rattle.outcome.specs.declared.refusal.Refusal.{Refusal}
use Rattle.arrays.specs.Every.{every}
use Rattle.arrays.proofs.Every.{first-true, second-true}
use Rattle.notefile.specs.Lists.{full_blocks, tail_at}
use Rattle.notefile.specs.Conditions.{skip_right, skips_right, postings_right, block_docs_right, block_freqs_right, bounds_right}
use Rattle.notefile.specs.Refusal.{unless}
use Rattle.notefile.specs.Inner.Order.{first_of, blocks_refusal, list_refusal}
use Rattle.notefile.specs.Inner.Given.{Parted, Skipped, BlocksIn}
use Rattle.notefile.specs.Inner.Reads.{TailRead, block_refusal}
use Rattle.notefile.specs.declared.part.Part.{Part}
use Rattle.skipcheck.specs.Inner.Answers.{tail_or}
use Rattle.listcheck.proofs.Judged.{docs-right-unless, docs-wrong-if, one-block-more}

-- what an answer about the tail's place says
is-wrong : (z : Bool) (p : ℕ) {r : Refusal} → Err r ≡ tail_or z p → (z ≡ false) × (number_of r ≡ 5)
is-wrong true p e = cc
is-wrong false p e = (refl, cc)

is_right : (z : Bool) (p : ℕ) {q : ℕ} → Ok q ≡ tail_or z p → (z ≡ true) × (q ≡ p)
is_right true p e = (refl, cc)
is_right false p e = cc

module _ (file : List ℕ) (x : Part) {place : Result ℕ Refusal} (ep : place ≡ tail_or (skips_right file x) (tail_at file x)) where
  pub skips-wrong : {r : Refusal} → place ≡ Err r → number_of r ≡ list_refusal file x
  unfolding list_refusal
  skips-wrong w = let e = is-wrong (skips_right file x) (tail_at file x) (sym w ∙ ep) in rw (e.0, e.1)

  module _ {at : ℕ} (p : place ≡ Ok at) where
    skips-right : skips_right file x ≡ true
    skips-right = (is_right (skips_right file x) (tail_at file x) (sym p ∙ ep)).0

    pub tail-is : at ≡ tail_at file x
    tail-is = (is_right (skips_right file x) (tail_at file x) (sym p ∙ ep)).1

    pub skipped : Parted file x → Skipped file x
    unfolding skips_right
    skipped P = record {
      parted = P;
      exact = eqb-true (x.skips + x.skip_entry_len * full_blocks x) x.postings (first-true (eqb (x.skips + x.skip_entry_len * full_blocks x) x.postings) (every (full_blocks x) (skip_right file x)) skips-right);
    }

    module _ {t : Bool} {docs₀ freqs₀ docs freqs : List ℕ} (R : TailRead file x docs₀ freqs₀ t docs freqs) where
      pub postings-wrong : t ≡ false → 6 ≡ list_refusal file x
      unfolding list_refusal
      postings-wrong f = rw (skips-right, sym R.same ∙ f)

      module _ (y : t ≡ true) where
        pub blocks-in : Parted file x → BlocksIn file x
        unfolding skips_right postings_right
        blocks-in P = record {
          skipped = skipped P;
          right = second-true (eqb (x.skips + x.skip_entry_len * full_blocks x) x.postings) (every (full_blocks x) (skip_right file x)) skips-right;
          inside = leb-true (tail_at file x) x.end (first-true (leb (tail_at file x) x.end) _ (sym R.same ∙ y));
        }

        rest-is : list_refusal file x ≡ blocks_refusal file x (suc (full_blocks x))
        unfolding list_refusal
        rest-is = ap (λ (z : Bool). unless z 5 (unless (postings_right file x) 6 (blocks_refusal file x (suc (full_blocks x))))) skips-right ∙ ap (λ (z : Bool). unless z 6 (blocks_refusal file x (suc (full_blocks x)))) (sym R.same ∙ y)

        module _ {full : ℕ} (ef : full ≡ blocks_refusal file x (full_blocks x)) where
          pub full-seven : full ≡ 7 → 7 ≡ list_refusal file x
          unfolding blocks_refusal
          full-seven e =
              sym (rest-is
              ∙ ap (λ (z : Bool). first_of (z && block_docs_right file x (full_blocks x)) (every (suc (full_blocks x)) (block_freqs_right file x)) (every (suc (full_blocks x)) (bounds_right file x)))
              (docs-wrong-if (every (full_blocks x) (block_docs_right file x)) (every (full_blocks x) (block_freqs_right file x)) (every (full_blocks x) (bounds_right file x)) (sym ef ∙ e)))

          pub docs-before : (full ≡ 7 → ⊥) → every (full_blocks x) (block_docs_right file x) ≡ true
          unfolding blocks_refusal
          docs-before n = docs-right-unless (every (full_blocks x) (block_docs_right file x)) (every (full_blocks x) (block_freqs_right file x)) (every (full_blocks x) (bounds_right file x)) (λ q. n (ef ∙ q))

          pub with_tail : {r q : ℕ} → r ≡ block_refusal file x (full_blocks x) → q ≡ lower full r → q ≡ list_refusal file x
          with_tail er eq = eq ∙ one-block-more file x (full_blocks x) ef er ∙ sym rest-is
