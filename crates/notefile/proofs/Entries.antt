-- Entries and parts: where a list's parts end, that those of a file whose length is right lie in it, and the limits that right entries give.
use mathlib.Core.Path.{◌≡◌, sym, ap}
use mathlib.Core.Bool.{true}
use mathlib.Core.List.{List}
use Prim.Native.Nat.{ℕ, suc, ◌+◌, ◌*◌, ◌≤◌, ◌<◌}
use native.Mathlib.Numerals.{add-one}
use native.Mathlib.Omega.{arith}
use lib.Dec.{leb}
use lib.ListN.{length}
use lib.Ieee.{binary32, of_bits}
use Rattle.arrays.specs.Every.{every}
use Rattle.arrays.proofs.Order.{climbs}
use Rattle.arrays.proofs.Every.{first-true, each}
use Rattle.codec.proofs.BitFields.{bits-lt}
use Rattle.bm25.specs.Limits.{weight_ok}
use Rattle.notefile.specs.Header.{documents}
use Rattle.notefile.specs.Parts.{skips_at, part_of, weight_bits, document_count}
use Rattle.notefile.specs.Conditions.{entry_right, average_right}
use Rattle.notefile.specs.Inner.Given.{Parted, Limits}

module _ (file : List ℕ) (l : ℕ) where
  pub next_place : (part_of file l).end ≡ skips_at file (l + 1)
  unfolding part_of
  next_place = ap (skips_at file) (sym (add-one l))

  pub part-short : (part_of file l).end ≤ skips_at file l + 134217728
  unfolding part_of skips_at
  part-short = omega (arith, bits-lt file (8 * (9 + 13 * l) + 54) 24, bits-lt file (8 * (9 + 13 * l) + 78) 26)

  step-up : skips_at file l ≤ skips_at file (suc l)
  unfolding skips_at
  step-up = omega arith

parts-rise : (file : List ℕ) (l m : ℕ) → l ≤ m → skips_at file l ≤ skips_at file m
parts-rise file l m h = climbs (skips_at file) l m h (λ k _. step-up file k)

-- every list of a file whose length is the sum of its parts
pub parted : (file : List ℕ) (l n : ℕ) → l < n → length file ≡ skips_at file n → Parted file (part_of file l)
unfolding part_of skips_at
parted file l n h e = record {
  few = bits-lt file (8 * (9 + 13 * l) + 32) 21;
  least = omega arith;
  most = omega (arith, bits-lt file (8 * (9 + 13 * l) + 53) 1);
  skips-first = omega arith;
  then-postings = omega arith;
  inside = omega (arith, e, parts-rise file (suc l) n h);
}

-- and of one whose average and entries are right, the limits
pub limits : (file : List ℕ) (l n : ℕ) → l < n → average_right file ≡ true → every n (entry_right file) ≡ true → Limits (part_of file l)
unfolding part_of average_right entry_right
limits file l n h a e = record {
  weight = first-true (weight_ok (of_bits binary32 (weight_bits file l))) (leb (document_count file l) (documents file)) (each (entry_right file) n l e h);
  average = a;
}
