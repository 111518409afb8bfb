-- Contents priced list by list.
use mathlib.Core.Path.{◌≡◌, refl, sym, ap, ◌∙◌, subst}
use mathlib.Core.List.{List}
use mathlib.Core.Logic.{inl, inr}
use Prim.Native.Nat.{ℕ, zero, suc, ◌+◌, ◌*◌, ◌/◌, ◌≤◌, ◌<◌}
use native.Mathlib.Nat.{eq-or-lt_of_le, le_of_suc-le-suc, not-suc-le-zero}
use native.Mathlib.Numerals.{add-one}
use native.Mathlib.Omega.{arith}
use lib.Dec.{eqb}
use lib.ListN.{length, get_or, set, length-set}
use lib.Seq.{get_or-set_same, get_or-set_other}
use Rattle.std.specs.Prelude.{Result}
use Rattle.outcome.specs.declared.refusal.Refusal.{Refusal}
use Rattle.contents.specs.Contents.{Contents, lists, weight_of, count_of, list_at, reader_of}
use Rattle.contents.specs.Refusal.{head_refusal, contents_refusal}
use Rattle.contents.specs.Inner.HeadOk.{HeadOk}
use Rattle.contents.specs.Inner.ListOk.{list_refusal, lists_refusal}
use Rattle.contents.specs.declared.Price.{Price}
use Rattle.contents.proofs.Places.{list-at-zero, list-at-next}
use Rattle.contents.proofs.Either.{or_some, or-none}
use Rattle.contents.proofs.Heads.{none-refused}
use Rattle.contents.proofs.Refused.{refusal_is, lists-none, lists-next}
use Rattle.house.specs.House.{list_skips, list_postings}
use Rattle.house.specs.Inner.Listed.{Listed, listed, listed_refusal, postings_in, Fits, Topped, listed_of, blocks_at}
use Rattle.list_price.specs.Inner.Prices.{Priced}
use Rattle.fieldnorm.specs.declared.FieldNormReader.{FieldNormReader}
use Rattle.house.specs.Inner.Whole.{PricedWhole}
use Rattle.house.proofs.FilePlaces.{list_place, next-list, parts_none, house-long}
use Rattle.house.proofs.FileParts.{skips-size}
use Rattle.house.proofs.ListedLaws.{listed-refusal, listed-postings, listed-fits, blocks-none, blocks-next, blocks-rise, blocks-in}

-- a refused list ends it
module _ (c : Contents) where
  stays : (l : ℕ) → lists_refusal c l ≡ 0 → 0 < list_refusal c l → (n : ℕ) → l < n → lists_refusal c n ≡ list_refusal c l
  stays l e h zero k = absurd (not-suc-le-zero k)
  stays l e h (suc n) k = elim (eq-or-lt_of_le (le_of_suc-le-suc k)) [
    | inl q ↦ subst (λ (m : ℕ). lists_refusal c (suc m) ≡ list_refusal c l) q (lists-next c l ∙ or-none e)
    | inr g ↦ let s = stays l e h n g in lists-next c n ∙ or_some (lists_refusal c n) (list_refusal c n) (omega (arith, s)) ∙ s
  ]

  -- l lists are priced, and none of them is refused
  pub record Pricing (postings : List ℕ) (total from start l : ℕ) (tops : List ℕ) : Type 0 where
    pub within : l ≤ lists c
    pub clear : lists_refusal c l ≡ 0
    pub long : length postings ≡ 16
    pub postings-are : (k : ℕ) → k < l → get_or postings k 0 ≡ length (list_postings c k)
    pub total-is : total ≡ list_place c l
    pub from_is : from ≡ list_at c l
    pub start_is : start ≡ blocks_at c l
    pub tops_are : (k : ℕ) → k < l → Topped (listed_of c k) (blocks_at c k) tops

  pub begun : {postings : List ℕ} {total : ℕ} (tops : List ℕ) → length postings ≡ 16 → total ≡ 9 + 13 * lists c + length c.norms
      → Pricing postings total 0 0 0 tops
  begun tops n e = record {
    within = omega arith;
    clear = lists-none c;
    long = n;
    postings-are = λ k h. absurd (not-suc-le-zero h);
    total-is = omega (arith, e, ap length (parts_none c));
    from_is = sym (list-at-zero c);
    start_is = sym (blocks-none c);
    tops_are = λ k h. absurd (not-suc-le-zero h);
  }

  module _ {postings : List ℕ} {total from start l : ℕ} {tops : List ℕ} (P : Pricing postings total from start l tops) (H : HeadOk c) where
    -- the next list is refused: so are the contents
    pub refused : l < lists c → {r : ℕ} → r ≡ listed_refusal (listed_of c l) c.documents → 0 < r → r ≡ contents_refusal c
    refused h {r} e k =
        let z = e ∙ listed-refusal c l in
        z ∙ sym (refusal_is c ∙ or-none (none-refused c H) ∙ stays l P.clear (omega (arith, z)) (lists c) h)

    pub goes_on : l < lists c → {r x n total' from' start' : ℕ} {tops' : List ℕ} → r ≡ listed_refusal (listed_of c l) c.documents → r ≡ 0
        → x ≡ length (postings_in (listed_of c l)) → n ≡ count_of c l
        → Topped (listed_of c l) (blocks_at c l) tops' → ((k : ℕ) → k < start → get_or tops' k 0 ≡ get_or tops k 0)
        → total' ≡ total + (8 * (n / 128) + x) → from' ≡ from + n → start' ≡ start + n / 128
        → Pricing (set postings l x) total' from' start' (l + 1) tops'
    goes_on h {r} {x} {n} {total'} {from'} {start'} {tops'} e r0 ex en T kept et ef es =
        let s = add-one l in
        let own : x ≡ length (list_postings c l) = ex ∙ ap length (listed-postings c l) in
        let skips : 8 * (n / 128) ≡ length (list_skips c l) = ap (λ (z : ℕ). 8 * (z / 128)) en ∙ sym (skips-size c l) in
        record {
          within = omega arith;
          clear = ap (lists_refusal c) s ∙ lists-next c l ∙ or-none P.clear ∙ sym (listed-refusal c l) ∙ sym e ∙ r0;
          long = length-set postings l x ∙ P.long;
          postings-are = λ k g. elim (eq-or-lt_of_le (le_of_suc-le-suc (subst (λ (z : ℕ). k < z) s g))) [
            | inl q ↦ subst (λ (z : ℕ). get_or (set postings l x) z 0 ≡ length (list_postings c z)) (sym q) (get_or-set_same postings l x 0 (omega (arith, P.long, H.few-lists)) ∙ own)
            | inr m ↦ get_or-set_other postings l k x 0 (λ q. omega (arith, q)) ∙ P.postings-are k m
          ];
          total-is = subst (λ (k : ℕ). total' ≡ list_place c k) (sym s) (omega (arith, et, skips, own, P.total-is, next-list c l));
          from_is = subst (λ (k : ℕ). from' ≡ list_at c k) (sym s) (omega (arith, ef, en, P.from_is, list-at-next c l));
          start_is = subst (λ (k : ℕ). start' ≡ blocks_at c k) (sym s)
              (es ∙ ap (λ (k : ℕ). start + k / 128) en ∙ ap (λ (k : ℕ). k + count_of c l / 128) P.start_is ∙ sym (blocks-next c l));
          tops_are = λ k g. elim (eq-or-lt_of_le (le_of_suc-le-suc (subst (λ (z : ℕ). k < z) s g))) [
            | inl q ↦ subst (λ (z : ℕ). Topped (listed_of c z) (blocks_at c z) tops') (sym q) T
            | inr m ↦ record { at = λ b o. kept (blocks_at c k + b) (omega (arith, blocks-rise c k l m, P.start_is, o)) ∙ (P.tops_are k m).at b o }
          ];
        }

    pub all-priced : lists c ≤ l → {r : Price} → r.postings ≡ postings → r.total ≡ total → (contents_refusal c ≡ 0) × PricedWhole c r tops
    all-priced h {r} ep et =
        let z : l ≡ lists c = omega (arith, P.within) in (
          refusal_is c ∙ or-none (none-refused c H) ∙ ap (lists_refusal c) (sym z) ∙ P.clear,
          record {
            postings-are = λ k g. ap (λ (x : List ℕ). get_or x k 0) ep ∙ P.postings-are k (omega arith);
            total-is = et ∙ P.total-is ∙ ap (list_place c) z ∙ sym (house-long c);
            tops_are = λ k g. P.tops_are k (omega arith);
          },
        )

-- a call of `price_list`, and what it leaves, by the contents
module _ (c : Contents) (l : ℕ) {reader : FieldNormReader} {from start : ℕ} (er : reader ≡ reader_of c (eqb c.kind 0)) (ef : from ≡ list_at c l)
    (es : start ≡ blocks_at c l) where
  abbrev pub called : Listed
  called = listed reader c.norms (weight_of c l) c.average c.docs c.freqs from (count_of c l)

  called_is : called ≡ listed_of c l
  called_is = rw (er, ef) refl

  pub call_fits : HeadOk c → l < lists c → Fits called c.documents
  call_fits H h = subst (λ (y : Listed). Fits y c.documents) (sym called_is) (listed-fits c l H h)

  pub call-room : HeadOk c → l < lists c → start + count_of c l / 128 ≤ 131072
  call-room H h = rw es (blocks-in c H l h)

  pub call-gives : {tops₀ tops : List ℕ} {r : Result ℕ Refusal} → Priced called c.documents start tops₀ r tops
      → Priced (listed_of c l) c.documents (blocks_at c l) tops₀ r tops
  call-gives {tops₀} {tops} {r} P =
      subst (λ (y : Listed). Priced y c.documents (blocks_at c l) tops₀ r tops) called_is
      (subst (λ (k : ℕ). Priced called c.documents k tops₀ r tops) es P)

-- contents that rows 1 to 4 refuse
pub head-refused : (c : Contents) {n : ℕ} → n ≡ head_refusal c → 0 < n → n ≡ contents_refusal c
head-refused c {n} f h = f ∙ sym (refusal_is c ∙ or_some (head_refusal c) (lists_refusal c (lists c)) (omega (arith, f)))
