-- What is written before the lists of contents is the file's own front: its header, its entries and its norm bytes.
use mathlib.Core.Path.{◌≡◌, refl, sym, ap, ap₂, ◌∙◌}
use mathlib.Core.List.{List, ◌++◌}
use Prim.Native.Nat.{ℕ, zero, suc, ◌+◌, ◌*◌, ◌≤◌, ◌<◌}
use native.Mathlib.Nat.{le_refl}
use native.Mathlib.Omega.{arith}
use lib.ListN.{length, get_or}
use lib.Ieee.{Float, nan, binary32, to_bits}
use Rattle.encode.specs.Fields.{field_bytes, entry_fields}
use Rattle.contents.specs.Contents.{Contents, lists}
use Rattle.contents.specs.Inner.Handed.{contents_of}
use Rattle.contents.specs.Inner.HeadOk.{HeadOk}
use Rattle.contents.specs.declared.Head.{Head}
use Rattle.house.specs.House.{list_skips, list_postings, header, entry, entries}
use Rattle.house.proofs.FileParts.{skips-size}
use Rattle.house.proofs.FileSmall.{list-short}
use Rattle.note_front.specs.Inner.Front.{entry_bytes, entries_bytes, head_bytes, front_bytes, FrontFits}

module _ (h : Head) (norms : List ℕ) (weights : List Float) (counts docs freqs postings : List ℕ) where
  abbrev c : Contents
  c = contents_of h norms weights counts docs freqs

  -- the table that is handed over has the lengths of the lists' postings
  abbrev pub Priced : Type 0
  Priced = (l : ℕ) → l < lists c → get_or postings l 0 ≡ length (list_postings c l)

  entry-same : (l : ℕ) → get_or postings l 0 ≡ length (list_postings c l) → entry_bytes weights counts postings l ≡ entry c l
  unfolding entry_bytes entry
  entry-same l e =
      let w = to_bits binary32 (get_or weights l nan) in
      let n = get_or counts l 0 in
      ap (λ (k : ℕ). field_bytes 13 (entry_fields w n 0 k (get_or postings l 0))) (sym (skips-size c l))
      ∙ ap (λ (k : ℕ). field_bytes 13 (entry_fields w n 0 (length (list_skips c l)) k)) e

  module _ (priced : Priced) where
    entries-same : (n : ℕ) → n ≤ lists c → entries_bytes weights counts postings n ≡ entries c n
    unfolding entries_bytes entries
    entries-same zero k = refl
    entries-same (suc l) k = ap₂ ◌++◌ (entries-same l (omega arith)) (entry-same l (priced l k))

    pub front-is : front_bytes h norms weights counts postings ≡ header c ++ (entries c (lists c) ++ c.norms)
    unfolding front_bytes head_bytes header
    front-is = ap (λ (x : List ℕ). header c ++ (x ++ norms)) (entries-same (lists c) (le_refl (lists c)))

    -- contents that rows 1 to 4 let through have fields that fit
    module _ (H : HeadOk c) where
      pub front_fits : {out : List ℕ} → 9 + 13 * lists c + length norms ≤ length out → FrontFits h norms weights counts postings out
      front_fits room = record {
        few-lists = H.few-lists;
        few-documents = H.few-documents;
        kind-in = H.kind-in;
        code_in = H.code_in;
        average-in = H.average-in;
        weights-long = H.weights-long;
        weight-in = H.weight-in;
        count-in = λ l k. omega (arith, H.count-in l k, H.few-documents);
        short = λ l k. omega (arith, priced l k, list-short c H l k);
        room = room;
      }
