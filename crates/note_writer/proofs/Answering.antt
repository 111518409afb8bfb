-- The writer's answers: refused, too short an output, or written.
use mathlib.Core.Path.{◌≡◌, refl, sym, ap, ◌∙◌}
use mathlib.Core.Bool.{Bool}
use mathlib.Core.List.{List, [], ◌∷◌, ◌++◌}
use mathlib.Core.Logic.{⊎_elim}
use Prim.Native.Nat.{ℕ, zero, suc, ◌+◌, ◌-◌, ◌≤◌, ◌<◌}
use native.Mathlib.Nat.{zero-add, not-suc-le-zero}
use native.Mathlib.Omega.{arith}
use lib.Dec.{leb}
use lib.ListN.{length, get_or, drop, length-append, length-drop}
use lib.Seq.{ext_get_or, get_or-drop}
use borrow.Author.Tests.{le-leb, lt-leb}
use Rattle.std.specs.Prelude.{Result, Ok, Err}
use Rattle.outcome.specs.Refusals.{number_of, refusal_number}
use Rattle.outcome.specs.declared.refusal.Refusal.{Refusal}
use Rattle.outcome.specs.declared.refusal.Refusal.TheVariants.{Output}
use Rattle.outcome.proofs.ByNumber.{no-refusal, number-injective}
use Rattle.arrays.proofs.Order.{lt-or-ge}
use Rattle.pieces.specs.Inner.Written.{Put}
use Rattle.pieces.proofs.Standing.{in-first, in-second}
use Rattle.notefile.specs.Refusal.{test, unless}
use Rattle.notefile.specs.Inner.Order.{or_else}
use Rattle.notefile.proofs.Order.{first-append}
use Rattle.contents.specs.Contents.{Contents}
use Rattle.contents.specs.Refusal.{contents_tests, contents_refusal}
use Rattle.contents.proofs.Either.{some, or_some, or-none, first-none}
use Rattle.contents.proofs.Refused.{contents-numbered}
use Rattle.house.specs.House.{house_file}
use Rattle.note_writer.specs.Writes.{length_of, length_for, write_tests, write_refusal, output_for, WriteIs}

-- a file that is put in front of what stood there
put-output : (old file new : List ℕ) → Put old 0 file new → length file ≤ length old → new ≡ file ++ drop (length file) old
put-output old file new P h =
    ext_get_or 0 new (file ++ drop (length file) old) (omega (arith, P.written.long, length-append file (drop (length file) old), length-drop (length file) old))
    (λ k l. ⊎_elim
    (λ m. ap (λ (z : ℕ). get_or new z 0) (sym (zero-add k)) ∙ P.written.inside k m ∙ sym (in-first file (drop (length file) old) k m))
    (λ m.
    let z : length file + (k - length file) ≡ k = omega arith in
    P.written.past k (omega arith)
    ∙ ap (λ (j : ℕ). get_or old j 0) (sym z)
    ∙ sym (get_or-drop (length file) old (k - length file) 0)
    ∙ sym (in-second file (drop (length file) old) (k - length file))
    ∙ ap (λ (j : ℕ). get_or (file ++ drop (length file) old) j 0) z)
    (lt-or-ge k (length file)))

module _ (c : Contents) (old : List ℕ) where
  refusal_is : write_refusal c (length old) ≡ or_else (contents_refusal c) (unless (leb (length (house_file c)) (length old)) 13 0)
  unfolding write_refusal write_tests contents_refusal
  refusal_is = first-append 9 (contents_tests c) (test 13 (leb (length (house_file c)) (length old)) ∷ []) (contents-numbered c)

  -- by the refusal of both
  answered : {n : ℕ} → write_refusal c (length old) ≡ n → {r : Result ℕ Refusal} {new : List ℕ} → refusal_number r ≡ n → length_of r ≡ length_for n (house_file c)
      → new ≡ output_for n (house_file c) old → WriteIs c old r new
  answered e f l g = record {
    number_is = f ∙ sym e;
    length-is = l ∙ ap (λ (k : ℕ). length_for k (house_file c)) (sym e);
    output-is = g ∙ ap (λ (k : ℕ). output_for k (house_file c) old) (sym e);
  }

  refused_as : (n : ℕ) → 0 < n → (0 ≡ length_for n (house_file c)) × (old ≡ output_for n (house_file c) old)
  refused_as zero h = absurd (not-suc-le-zero h)
  refused_as (suc n) h = (refl, refl)

  -- the contents are refused
  pub refused : (r : Refusal) → number_of r ≡ contents_refusal c → WriteIs c old (Err r) old
  refused r e =
      let h = some (no-refusal r).0 in
      let s = refused_as (number_of r) h in
      answered (refusal_is ∙ ap (λ (z : ℕ). or_else z (unless (leb (length (house_file c)) (length old)) 13 0)) (sym e) ∙ or_some (number_of r) _ h) refl s.0 s.1

  -- the output is too short
  pub short : contents_refusal c ≡ 0 → length old < length (house_file c) → WriteIs c old (Err Output) old
  short e h =
      answered (refusal_is ∙ or-none e ∙ ap (λ (b : Bool). unless b 13 0) (lt-leb (length (house_file c)) (length old) h)) refl refl refl

  -- it is written
  pub written : contents_refusal c ≡ 0 → length (house_file c) ≤ length old → {n : ℕ} → n ≡ length (house_file c) → {new : List ℕ}
      → Put old 0 (house_file c) new → WriteIs c old (Ok n) new
  written e h en {new} P =
      answered (refusal_is ∙ or-none e ∙ ap (λ (b : Bool). unless b 13 0) (le-leb (length (house_file c)) (length old) h))
      refl en (put-output old (house_file c) new P h)

  -- THE ANSWER IS THE ONLY ONE WITH ITS NUMBER AND ITS LENGTH
  pub answer-is : {r : Result ℕ Refusal} {new : List ℕ} → WriteIs c old r new → (s : Result ℕ Refusal) → refusal_number s ≡ write_refusal c (length old)
      → length_of s ≡ length_for (write_refusal c (length old)) (house_file c) → r ≡ s
  answer-is {r} W s e k = one r s (W.number_is ∙ sym e) (W.length-is ∙ sym k)
    where
      one : (r s : Result ℕ Refusal) → refusal_number r ≡ refusal_number s → length_of r ≡ length_of s → r ≡ s
      one (Ok n) (Ok m) e k = ap Ok k
      one (Ok n) (Err s) e k = absurd ((no-refusal s).0 (sym e))
      one (Err r) (Ok m) e k = absurd ((no-refusal r).0 e)
      one (Err r) (Err s) e k = ap Err (number-injective r s e)

  -- nothing is refused, so the contents are not
  pub clear-contents : write_refusal c (length old) ≡ 0 → contents_refusal c ≡ 0
  clear-contents e = first-none (contents_refusal c) (unless (leb (length (house_file c)) (length old)) 13 0) (sym refusal_is ∙ e)
