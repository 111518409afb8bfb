-- The entries of the lists, written one after another.
use mathlib.Core.Path.{◌≡◌, refl, sym, ap, ◌∙◌}
use mathlib.Core.Bool.{not}
use mathlib.Core.List.{List, [], ◌++◌}
use Prim.Native.Nat.{ℕ, zero, suc, ◌+◌, ◌*◌, ◌/◌, ◌≤◌, ◌<◌}
use native.Mathlib.Omega.{arith}
use native.Mathlib.Numerals.{add-one}
use lib.Dec.{T}
use lib.ListN.{length, get_or, length-append}
use lib.Ieee.{Float, nan, binary32, fits, is_nan, to_bits}
use lib.Ieee.Bits.{to_bits-lt}
use Rattle.floats.proofs.Pattern.{within-not-nan}
use Rattle.pieces.specs.Inner.Written.{Put}
use Rattle.pieces.proofs.Puts.{put-nothing, put_as, put-behind}
use Rattle.encode.specs.Fields.{Field, field_bytes, entry_fields}
use Rattle.encode.specs.Inner.FieldsFit.{Fit}
use Rattle.encode.proofs.FieldBytes.{fields-long}
use Rattle.note_front.specs.Inner.Front.{entry_bytes, entries_bytes, EntriesFit}

-- a weight's bits, beside numbers within their limits
pub bits_in : (w : Float) → T (fits binary32 w) → to_bits binary32 w < 4294967296
bits_in w f = to_bits-lt binary32 w f

fields_fit : (w : Float) (n p : ℕ) → T (fits binary32 w) → n ≤ 1048576 → p < 67108864
    → Fit (entry_fields (to_bits binary32 w) n 0 (8 * (n / 128)) p)
fields_fit w n p f h k = (bits_in w f, (omega arith, (omega arith, (omega arith, (k, tt)))))

module _ (weights : List Float) (counts postings : List ℕ) where
  abbrev entry_of : ℕ → List ℕ
  entry_of = entry_bytes weights counts postings

  abbrev entries_to : ℕ → List ℕ
  entries_to = entries_bytes weights counts postings

  entries_none : entries_to 0 ≡ []
  unfolding entries_bytes
  entries_none = refl

  entries-more : (l : ℕ) → entries_to (suc l) ≡ entries_to l ++ entry_of l
  unfolding entries_bytes
  entries-more l = refl

  abbrev pub fields_of : ℕ → List Field
  fields_of l =
      let n = get_or counts l 0 in
      entry_fields (to_bits binary32 (get_or weights l nan)) n 0 (8 * (n / 128)) (get_or postings l 0)

  entry-is : (l : ℕ) → entry_of l ≡ field_bytes 13 (fields_of l)
  unfolding entry_bytes
  entry-is l = refl

  entry-long : (l : ℕ) → length (entry_of l) ≡ 13
  entry-long l = ap length (entry-is l) ∙ fields-long 13 (fields_of l)

  pub entries-long : (l : ℕ) → length (entries_to l) ≡ 13 * l
  entries-long zero = ap length entries_none
  entries-long (suc l) =
      ap length (entries-more l) ∙ length-append (entries_to l) (entry_of l) ∙ omega (arith, entries-long l, entry-long l)

  -- l entries stand behind the header
  pub record Entering (before : List ℕ) (l : ℕ) (out : List ℕ) : Type 0 where
    pub inside : l ≤ length counts
    pub put : Put before 9 (entries_to l) out

  pub begun : (out : List ℕ) → Entering out 0 out
  begun out = record { inside = omega arith; put = put_as (put-nothing out 9) (sym entries_none) }

  module _ {before : List ℕ} (F : EntriesFit weights counts postings before) {l : ℕ} (h : l < length counts) where
    -- a weight that the table lets through is no NaN
    pub number : T (not (is_nan (get_or weights l nan)))
    number = within-not-nan 1000 (get_or weights l nan) (F.weight-in l h)

    -- the next entry fits, and there is room for it
    pub next_fits : T (fits binary32 (get_or weights l nan)) → {out : List ℕ} → Entering before l out
        → Fit (fields_of l) × (9 + 13 * l + 13 ≤ length out)
    next_fits f {out} E = (
      fields_fit (get_or weights l nan) (get_or counts l 0) (get_or postings l 0) f (F.count-in l h) (F.short l h),
      omega (arith, E.put.written.long, F.room, h),
    )

  module _ {before out : List ℕ} {l : ℕ} (E : Entering before l out) where
    pub goes_on : l < length counts → {after : List ℕ} → Put out (9 + 13 * l) (field_bytes 13 (fields_of l)) after
        → Entering before (l + 1) after
    goes_on h P = record {
      inside = omega arith;
      put =
          put_as
          (put-behind E.put (omega (arith, entries-long l)) (put_as P (sym (entry-is l))))
          (sym (entries-more l) ∙ ap entries_to (sym (add-one l)));
    }
