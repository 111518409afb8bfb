-- A list bound whose bits stand in a slot's row.
use mathlib.Core.Path.{◌≡◌, sym, ap, ◌∙◌, subst}
use mathlib.Core.Bool.{Bool, not}
use mathlib.Core.List.{List, []}
use Prim.Native.Nat.{ℕ, ◌<◌}
use lib.Dec.{T}
use lib.ListN.{get_or}
use lib.Ieee.{Float, binary32, fits, is_nan, nan_bits, of_bits, to_bits}
use lib.Ieee.Bits.{nan_bits_is, of_bits-to_bits, to_bits-lt}
use Rattle.bm25.specs.declared.Scoring.{Scoring}
use Rattle.notefile.specs.declared.part.Part.{Part}
use Rattle.decoded.specs.Lists.{list_of}
use Rattle.term_scorer.specs.Inner.Slots.{part_at}
use Rattle.term_scorer.specs.Inner.Weights.{TopKept}

pub top_kept : (scoring : Scoring) (file : List ℕ) (lists : List (List ℕ)) (q : ℕ) {x : Part} (top : Float) → q < 16 → get_or (get_or lists q []) 7 0 ≡ to_bits binary32 top → T (fits binary32 top)
    → T (not (is_nan top)) → part_at lists q ≡ x → top ≡ (list_of scoring file x).top → TopKept scoring file lists q
top_kept scoring file lists q {x} top h e p n part-is top-is =
    let b = to_bits binary32 top in
    let back : of_bits binary32 b ≡ top = of_bits-to_bits binary32 top p in
    let small : b < 4294967296 = to_bits-lt binary32 top p in
    let number : T (not (nan_bits binary32 b)) = subst (λ (z : Bool). T (not z)) (sym (nan_bits_is binary32 b ∙ ap is_nan back)) n in
    record {
      read = record {
        slot-in = h;
        small = rw e small;
        number = subst (λ (z : ℕ). T (not (nan_bits binary32 z))) (sym e) number;
      };
      top-is = ap (of_bits binary32) e ∙ back ∙ top-is ∙ ap (λ (z : Part). (list_of scoring file z).top) (sym part-is);
    }
