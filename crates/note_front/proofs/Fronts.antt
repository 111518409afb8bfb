-- The header, the entries and the norm bytes, one behind another.
use mathlib.Core.Path.{◌≡◌, refl, sym, ap, ◌∙◌}
use mathlib.Core.Bool.{not}
use mathlib.Core.List.{List, ◌++◌}
use Prim.Native.Nat.{ℕ, ◌+◌, ◌*◌, ◌≤◌}
use native.Mathlib.Omega.{arith}
use lib.Dec.{T}
use lib.ListN.{length, length-append}
use lib.Ieee.{Float, binary32, fits, is_nan, to_bits}
use lib.Ieee.Bits.{is_true, of_bits-to_bits, nan_bits_is}
use Rattle.bm25.specs.Limits.{average_ok}
use Rattle.bm25.proofs.Numbers.{average-number}
use Rattle.pieces.specs.Inner.Written.{Put}
use Rattle.pieces.proofs.Puts.{put_as, put-behind}
use Rattle.encode.specs.Fields.{Field, field_bytes, header_fields}
use Rattle.encode.specs.Inner.FieldsFit.{Fit}
use Rattle.encode.proofs.FieldBytes.{fields-long}
use Rattle.contents.specs.declared.Head.{Head}
use Rattle.note_front.specs.Inner.Front.{all_entries, head_bytes, front_bytes, FrontFits}
use Rattle.note_front.proofs.Entries.{bits_in, entries-long}

-- an average that the table lets through is no NaN
pub average-is-number : (x : Float) → T (fits binary32 x) → T (average_ok x) → T (not (is_nan x))
average-is-number x f a =
    let n = to_bits binary32 x in
    let e = of_bits-to_bits binary32 x f in
    rw (sym (ap is_nan e), sym (nan_bits_is binary32 n)) (average-number n (ap average_ok e ∙ is_true (average_ok x) a))

module _ (h : Head) (norms : List ℕ) (weights : List Float) (counts postings : List ℕ) where
  abbrev pub head_fields : List Field
  head_fields = header_fields h.kind (length counts) h.code h.documents (to_bits binary32 h.average)

  abbrev front : List ℕ
  front = front_bytes h norms weights counts postings

  head-is : head_bytes h norms weights counts postings ≡ field_bytes 9 head_fields
  unfolding head_bytes
  head-is = refl

  head-long : length (head_bytes h norms weights counts postings) ≡ 9
  head-long = ap length head-is ∙ fields-long 9 head_fields

  pub front_long : length front ≡ 9 + 13 * length counts + length norms
  unfolding front_bytes
  front_long =
      let entries = all_entries weights counts postings in
      let a = length-append (head_bytes h norms weights counts postings) (entries ++ norms) in
      let b = length-append entries norms in
      omega (arith, a, b, head-long, entries-long weights counts postings (length counts))

  module _ {out : List ℕ} (F : FrontFits h norms weights counts postings out) where
    pub header-fits : T (fits binary32 h.average) → Fit head_fields × (9 ≤ length out)
    header-fits f = (
      (
        omega arith,
        (
          omega (arith, F.kind-in),
          (
            omega (arith, F.few-lists),
            (
              omega (arith, F.code_in),
              (omega (arith, F.few-documents), (omega arith, (bits_in h.average f, tt))),
            ),
          ),
        ),
      ),
      omega (arith, F.room),
    )

  -- the three pieces are the front
  pub front-put : {out mid next after : List ℕ} → Put out 0 (field_bytes 9 head_fields) mid
      → Put mid 9 (all_entries weights counts postings) next → Put next (9 + 13 * length counts) norms after
      → Put out 0 front after
  unfolding front_bytes
  front-put H E N =
      put-behind (put_as H (sym head-is)) (omega (arith, head-long))
      (put-behind E (omega (arith, entries-long weights counts postings (length counts))) N)
