-- The file of contents is shorter than 32 bits can say.
use mathlib.Core.Path.{◌≡◌, ap, ◌∙◌}
use mathlib.Core.Bool.{Bool, true, false, cond}
use Prim.Native.Nat.{ℕ, zero, suc, ◌*◌, ◌≤◌, ◌<◌}
use native.Mathlib.Omega.{arith}
use lib.Dec.{eqb}
use lib.ListN.{length, length-append}
use Rattle.contents.specs.Contents.{Contents, lists, count_of, doc_of, freq_of}
use Rattle.contents.specs.Inner.HeadOk.{HeadOk}
use Rattle.house.specs.House.{list_skips, list_postings, parts, house_file}
use Rattle.house.proofs.FilePlaces.{list_piece, list_place, parts_none, parts_more, house-long}
use Rattle.house.proofs.FileParts.{postings-short, skips-size}

module _ (c : Contents) (H : HeadOk c) where
  pub list-short : (l : ℕ) → l < lists c → length (list_postings c l) ≤ 8400000
  unfolding list_postings
  list-short l h = omega (arith, postings-short (doc_of c l) (freq_of c l) (count_of c l), H.count-in l h, H.few-documents)

  parts-short : (l : ℕ) → l ≤ lists c → length (parts c l) ≤ 8500000 * l
  parts-short zero h = omega (arith, ap length (parts_none c))
  parts-short (suc l) h =
      let a = ap length (parts_more c l) ∙ length-append (parts c l) (list_piece c l) in
      let b = length-append (list_skips c l) (list_postings c l) in
      omega (arith, a, b, parts-short l (omega arith), skips-size c l, list-short l h, H.count-in l h, H.few-documents)

  norms-few : length c.norms ≤ 1048576
  norms-few = go (eqb c.kind 0) H.norms-long
    where
      go : (b : Bool) → length c.norms ≡ cond b c.documents 0 → length c.norms ≤ 1048576
      go true e = omega (arith, e, H.few-documents)
      go false e = omega (arith, e)

  pub house-short : length (house_file c) ≤ 140000000
  house-short = omega (arith, house-long c, parts-short (lists c) (omega arith), norms-few, H.few-lists)

  -- and so is each place in it
  pub place_short : (l : ℕ) → l ≤ lists c → list_place c l ≤ 140000000
  place_short l h = omega (arith, parts-short l h, norms-few, H.few-lists)
