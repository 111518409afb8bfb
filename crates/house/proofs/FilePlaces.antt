-- Where the pieces of a house file stand: in the file of contents, and in no other.
use mathlib.Core.Path.{◌≡◌, refl, sym, ap, ◌∙◌, subst}
use mathlib.Core.List.{List, [], ◌++◌}
use mathlib.Core.Logic.{inl, inr}
use Prim.Native.Nat.{ℕ, zero, suc, ◌+◌, ◌*◌, ◌<◌}
use native.Mathlib.Nat.{zero-add, eq-or-lt_of_le, le_of_suc-le-suc, not-suc-le-zero}
use native.Mathlib.Omega.{arith}
use lib.ListN.{length, get_or, length-append}
use lib.Ieee.{binary32, to_bits}
use Rattle.pieces.specs.Inner.Written.{Stands}
use Rattle.pieces.proofs.Standing.{first-stands, second-stands, both-stand, none-stands, whole-stands}
use Rattle.encode.specs.Fields.{Field, header_fields, entry_fields}
use Rattle.encode.proofs.FieldBytes.{fields-long}
use Rattle.contents.specs.Contents.{Contents, lists, weight_of, count_of}
use Rattle.house.specs.House.{list_skips, list_postings, header, entry, entries, parts, house_file}

-- pieces in a row: the first n
module _ (row piece : ℕ → List ℕ) (none : row 0 ≡ []) (more : (l : ℕ) → row (suc l) ≡ row l ++ piece l) (s : List ℕ) (p : ℕ) where
  pub row_apart : (n l : ℕ) → l < n → Stands s p (row n) → Stands s (p + length (row l)) (piece l)
  row_apart zero l h S = absurd (not-suc-le-zero h)
  row_apart (suc n) l h S =
      let T : Stands s p (row n ++ piece n) = subst (Stands s p) (more n) S in
      elim (eq-or-lt_of_le (le_of_suc-le-suc h)) [
        | inl q ↦ subst (λ (k : ℕ). Stands s (p + length (row k)) (piece k)) (sym q) (second-stands s p (row n) (piece n) T)
        | inr k ↦ row_apart n l k (first-stands s p (row n) (piece n) T)
      ]

  pub row-together : (n : ℕ) → ((l : ℕ) → l < n → Stands s (p + length (row l)) (piece l)) → Stands s p (row n)
  row-together zero h = subst (Stands s p) (sym none) (none-stands s p)
  row-together (suc n) h =
      subst (Stands s p) (sym (more n)) (both-stand s p (row n) (piece n) (row-together n (λ l k. h l (omega arith))) (h n (omega arith)))

module _ (c : Contents) where
  abbrev pub list_piece : ℕ → List ℕ
  list_piece l = list_skips c l ++ list_postings c l

  -- the places after the entries, and of list l
  abbrev pub norms_place : ℕ
  norms_place = 9 + 13 * lists c

  abbrev pub list_place : ℕ → ℕ
  list_place l = norms_place + length c.norms + length (parts c l)

  -- the fields of the header, and of list l's entry
  abbrev pub head_fields : List Field
  head_fields = header_fields c.kind (lists c) c.code c.documents (to_bits binary32 c.average)

  abbrev pub list_fields : ℕ → List Field
  list_fields l = entry_fields (to_bits binary32 (weight_of c l)) (count_of c l) 0 (length (list_skips c l)) (length (list_postings c l))

  entry-long : (l : ℕ) → length (entry c l) ≡ 13
  unfolding entry
  entry-long l = fields-long 13 (list_fields l)

  pub header-long : length (header c) ≡ 9
  unfolding header
  header-long = fields-long 9 head_fields

  entries_none : entries c 0 ≡ []
  unfolding entries
  entries_none = refl

  entries-more : (l : ℕ) → entries c (suc l) ≡ entries c l ++ entry c l
  unfolding entries
  entries-more l = refl

  pub parts_none : parts c 0 ≡ []
  unfolding parts
  parts_none = refl

  pub parts_more : (l : ℕ) → parts c (suc l) ≡ parts c l ++ list_piece l
  unfolding parts
  parts_more l = refl

  pub entries-long : (l : ℕ) → length (entries c l) ≡ 13 * l
  unfolding entries
  entries-long zero = refl
  entries-long (suc l) = length-append (entries c l) (entry c l) ∙ omega (arith, entries-long l, entry-long l)

  pub next-list : (l : ℕ) → list_place (suc l) ≡ list_place l + length (list_skips c l) + length (list_postings c l)
  next-list l =
      let e = ap length (parts_more l) ∙ length-append (parts c l) (list_piece l) in
      let f = length-append (list_skips c l) (list_postings c l) in
      omega (arith, e, f)

  -- every piece stands at its place, and nothing is behind them
  pub record Housed (s : List ℕ) : Type 0 where
    pub header-stands : Stands s 0 (header c)
    pub entry-stands : (l : ℕ) → l < lists c → Stands s (9 + 13 * l) (entry c l)
    pub norms-stand : Stands s norms_place c.norms
    pub list-stands : (l : ℕ) → l < lists c → Stands s (list_place l) (list_piece l)
    pub long : length s ≡ list_place (lists c)

  pub house-long : length (house_file c) ≡ list_place (lists c)
  unfolding house_file
  house-long =
      let a = length-append (header c) (entries c (lists c) ++ (c.norms ++ parts c (lists c))) in
      let b = length-append (entries c (lists c)) (c.norms ++ parts c (lists c)) in
      let d = length-append c.norms (parts c (lists c)) in
      omega (arith, a, b, d, header-long, entries-long (lists c))

  -- the file of contents has them so
  module _ (s : List ℕ) where
    abbrev ends : List ℕ
    ends = c.norms ++ parts c (lists c)

    moved : (q r : ℕ) {l : List ℕ} → q ≡ r → Stands s q l → Stands s r l
    moved q r {l} e S = subst (λ (x : ℕ). Stands s x l) e S

    file-apart : length s ≡ list_place (lists c) → Stands s 0 (house_file c) → Housed s
    unfolding house_file
    file-apart long S =
        let rest = second-stands s 0 (header c) (entries c (lists c) ++ ends) S in
        let all-entries = first-stands s (0 + length (header c)) (entries c (lists c)) ends rest in
        let behind = second-stands s (0 + length (header c)) (entries c (lists c)) ends rest in
        let place = 0 + length (header c) + length (entries c (lists c)) in
        let at-norms : place ≡ norms_place = omega (arith, header-long, entries-long (lists c)) in
        let all-parts = second-stands s place c.norms (parts c (lists c)) behind in
        record {
          header-stands = first-stands s 0 (header c) (entries c (lists c) ++ ends) S;
          entry-stands = λ l h.
              moved (0 + length (header c) + length (entries c l)) (9 + 13 * l) (omega (arith, header-long, entries-long l))
              (row_apart (entries c) (entry c) entries_none entries-more s (0 + length (header c)) (lists c) l h all-entries);
          norms-stand = moved place norms_place at-norms (first-stands s place c.norms (parts c (lists c)) behind);
          list-stands = λ l h.
              row_apart (parts c) list_piece parts_none parts_more s (norms_place + length c.norms) (lists c) l h
              (moved (place + length c.norms) (norms_place + length c.norms) (ap (λ (x : ℕ). x + length c.norms) at-norms) all-parts);
          long = long;
        }

    file-together : Housed s → Stands s 0 (house_file c)
    unfolding house_file
    file-together H =
        let h9 = header-long in
        let place = 0 + length (header c) + length (entries c (lists c)) in
        let at-norms : norms_place ≡ place = omega (arith, header-long, entries-long (lists c)) in
        both-stand s 0 (header c) (entries c (lists c) ++ ends) H.header-stands
        (both-stand s (0 + length (header c)) (entries c (lists c)) ends
        (row-together (entries c) (entry c) entries_none entries-more s (0 + length (header c)) (lists c)
        (λ l h. moved (9 + 13 * l) (0 + length (header c) + length (entries c l)) (omega (arith, h9, entries-long l)) (H.entry-stands l h)))
        (both-stand s place c.norms (parts c (lists c)) (moved norms_place place at-norms H.norms-stand)
        (row-together (parts c) list_piece parts_none parts_more s (place + length c.norms) (lists c)
        (λ l h. moved (list_place l) (place + length c.norms + length (parts c l)) (ap (λ (x : ℕ). x + length c.norms + length (parts c l)) at-norms) (H.list-stands l h)))))

  pub house-housed : Housed (house_file c)
  house-housed = file-apart (house_file c) house-long (itself (house_file c))
    where
      itself : (l : List ℕ) → Stands l 0 l
      itself l = record { at = λ k h. ap (λ (x : ℕ). get_or l x 0) (zero-add k) }

  -- and is the only one
  pub housed-house : (s : List ℕ) → Housed s → s ≡ house_file c
  housed-house s H = whole-stands s (house_file c) (H.long ∙ sym house-long) (file-together s H)
