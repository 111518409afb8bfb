-- Condition 5: what the loop over a list's skip entries finds.
use mathlib.Core.Path.{◌≡◌, refl, sym, ap, ◌∙◌}
use mathlib.Core.Bool.{Bool, true, false, ◌&&◌}
use mathlib.Core.List.{List}
use Prim.Native.Nat.{ℕ, ◌+◌, ◌*◌, ◌/◌, ◌%◌, ◌≤◌, ◌<◌}
use native.Mathlib.Nat.{le_trans, mul-le-mul_right}
use native.Mathlib.Numerals.{add-one}
use native.Mathlib.Omega.{arith}
use lib.Dec.{eqb, leb}
use lib.ListN.{get_or}
use borrow.Author.Tests.{ne_eqb, eq-eqb}
use Rattle.std.specs.Prelude.{Ok, Err}
use Rattle.arrays.specs.Every.{every}
use Rattle.arrays.proofs.Every.{fails, one_more}
use Rattle.notefile.specs.Skips.{skip_entry_at}
use Rattle.notefile.specs.Lists.{full_blocks, tail_at, block_at}
use Rattle.notefile.specs.Conditions.{skip_right, skips_right}
use Rattle.notefile.specs.declared.part.Part.{Part}
use Rattle.outcome.specs.declared.refusal.Refusal.TheVariants.{Skips}
use Rattle.skipcheck.specs.Inner.Answers.{tail_or}

-- all of a list's skip entries are few bytes
pub skips-small : (entry count : ℕ) → entry ≤ 12 → count < 2097152 → entry * (count / 128) ≤ 196608
skips-small entry count h k = le_trans (mul-le-mul_right (count / 128) h) (omega arith)

module _ (file : List ℕ) (x : Part) where
  pub wrong-length : (x.skips + x.skip_entry_len * full_blocks x ≡ x.postings → ⊥) → Err Skips ≡ tail_or (skips_right file x) (tail_at file x)
  unfolding skips_right
  wrong-length n = simp (ne_eqb (x.skips + x.skip_entry_len * full_blocks x) x.postings n)

  -- the first b entries are right, and the block after theirs stands at a place
  pub record Passed (at b : ℕ) : Type 0 where
    pub within : b ≤ full_blocks x
    pub right : every b (skip_right file x) ≡ true
    pub place : at ≡ block_at file x b
    pub near : at ≤ x.postings + 4576 * b

  module _ (exact : x.skips + x.skip_entry_len * full_blocks x ≡ x.postings) where
    pub begun : Passed x.postings 0
    unfolding block_at
    begun = record { within = omega arith; right = refl; place = refl; near = omega arith }

    skips-are : skips_right file x ≡ every (full_blocks x) (skip_right file x)
    unfolding skips_right
    skips-are = simp (eq-eqb (x.skips + x.skip_entry_len * full_blocks x) x.postings exact)

    module _ {at b : ℕ} (P : Passed at b) where
      pub all-passed : full_blocks x ≤ b → Ok at ≡ tail_or (skips_right file x) (tail_at file x)
      all-passed h =
          let e : b ≡ full_blocks x = omega (arith, P.within) in
          sym (ap (λ (z : Bool). tail_or z (tail_at file x)) (skips-are ∙ (rw e at P.right)) ∙ ap Ok (sym (P.place ∙ ap (block_at file x) e)))

      module _ (h : b < full_blocks x) (place byte freqs : ℕ) (ep : place ≡ skip_entry_at x b) (ew : byte ≡ get_or file (place + 4) 0) (ef : freqs ≡ get_or file (place + 5) 0)
          (r : Bool) (er : r ≡ eqb (byte / 32 % 2) 0 && (eqb (byte / 128 % 2) 0 && leb freqs 32)) where
        test-is : skip_right file x b ≡ r
        unfolding skip_right
        test-is = sym (er ∙ rw (ew, ef, ep))

        pub one-wrong : r ≡ false → Err Skips ≡ tail_or (skips_right file x) (tail_at file x)
        one-wrong f = sym (ap (λ (z : Bool). tail_or z (tail_at file x)) (skips-are ∙ fails (skip_right file x) (full_blocks x) b h (test-is ∙ f)))

        pub one_right : freqs ≤ 255 → r ≡ true → Passed (at + 16 * (byte % 32 + freqs)) (b + 1)
        unfolding block_at
        one_right l t = record {
          within = omega arith;
          right = one_more (skip_right file x) b P.right (test-is ∙ t);
          place = rw (add-one, P.place, ew, ef, ep);
          near = omega (arith, P.near);
        }
