-- A file written list by list, behind its header, entries and norms.
use mathlib.Core.Path.{◌≡◌, refl, sym, ap, ◌∙◌, subst}
use mathlib.Core.List.{List, ◌++◌, append_assoc}
use Prim.Native.Nat.{ℕ, suc, ◌+◌, ◌*◌, ◌/◌, ◌≤◌, ◌<◌}
use native.Mathlib.Numerals.{add-one}
use native.Mathlib.Omega.{arith}
use lib.Dec.{eqb}
use lib.ListN.{length, length-append}
use Rattle.arrays.proofs.Order.{climbs}
use Rattle.fieldnorm.specs.declared.FieldNormReader.{FieldNormReader}
use Rattle.pieces.specs.Inner.Written.{Put}
use Rattle.pieces.proofs.Puts.{put_as, put-behind, put-nothing}
use Rattle.contents.specs.Contents.{Contents, lists, count_of, list_at, reader_of}
use Rattle.contents.specs.Refusal.{contents_refusal}
use Rattle.contents.proofs.Places.{list-at-zero, list-at-next}
use Rattle.contents.proofs.Refused.{contents-head, contents-list}
use Rattle.house.specs.House.{header, entries, parts, house_file, list_skips, list_postings, postings_bytes}
use Rattle.house.specs.Inner.Sound.{Sound}
use Rattle.house.specs.Inner.Listed.{doc_in, freq_in, postings_in, Topped, listed_of, blocks_at}
use Rattle.house.proofs.FilePlaces.{list_piece, list_place, next-list, parts_none, parts_more, house-long, header-long, entries-long}
use Rattle.house.proofs.ListedLaws.{blocks-next, blocks-none, blocks-in, listed-skips, listed-postings, listed-fits, listed-sound}
use Rattle.list_writer.specs.Inner.Skips.{numbers_from, skips_by, TopsIn}
use Rattle.list_writer.proofs.Tops.{tops-in, bytes-by}

-- contents that are not refused, where their norm codes are read, the table of their highest postings, and room for their file
pub record Ready (c : Contents) (reader : FieldNormReader) (tops old : List ℕ) : Type 0 where
  pub ok : contents_refusal c ≡ 0
  pub reader-is : reader ≡ reader_of c (eqb c.kind 0)
  pub tops_are : (l : ℕ) → l < lists c → Topped (listed_of c l) (blocks_at c l) tops
  pub room : length (house_file c) ≤ length old

module _ (c : Contents) where
  -- header, entries and norms
  abbrev pub front_of : List ℕ
  front_of = header c ++ (entries c (lists c) ++ c.norms)

  whole : front_of ++ parts c (lists c) ≡ house_file c
  unfolding house_file
  whole =
      append_assoc (header c) (entries c (lists c) ++ c.norms) (parts c (lists c))
      ∙ ap (λ (x : List ℕ). header c ++ x) (append_assoc (entries c (lists c)) c.norms (parts c (lists c)))

  front_long : length front_of ≡ list_place c 0
  front_long =
      let a = length-append (header c) (entries c (lists c) ++ c.norms) in
      let b = length-append (entries c (lists c)) c.norms in
      omega (arith, a, b, header-long c, entries-long c (lists c), ap length (parts_none c))

  pub places-rise : (k l : ℕ) → k ≤ l → list_place c k ≤ list_place c l
  places-rise k l h = climbs (list_place c) k l h (λ m _. omega (arith, next-list c m))

  pub front-room : {room : ℕ} → length (house_file c) ≤ room → 9 + 13 * lists c + length c.norms ≤ room
  front-room r = omega (arith, r, house-long c)

  -- l lists are written
  pub record Filing (old out : List ℕ) (place from start l : ℕ) : Type 0 where
    pub within : l ≤ lists c
    pub place_is : place ≡ list_place c l
    pub from_is : from ≡ list_at c l
    pub start_is : start ≡ blocks_at c l
    pub put : Put old (list_place c 0) (parts c l) out

  pub begun : (old : List ℕ) {place : ℕ} → place ≡ 9 + 13 * lists c + length c.norms → Filing old old place 0 0 0
  begun old e = record {
    within = omega arith;
    place_is = omega (arith, e, ap length (parts_none c));
    from_is = sym (list-at-zero c);
    start_is = sym (blocks-none c);
    put = put_as (put-nothing old (list_place c 0)) (sym (parts_none c));
  }

  module _ {old out : List ℕ} {place from start l : ℕ} (F : Filing old out place from start l) where
    pub goes_on : l < lists c → {next after : List ℕ} {place' from' start' n : ℕ} → next ≡ list_piece c l → Put out place next after
        → place' ≡ place + length next → n ≡ count_of c l → from' ≡ from + n → start' ≡ start + n / 128
        → Filing old after place' from' start' (l + 1)
    goes_on h {next} {after} {place'} {from'} {start'} {n} e P ep en ef es =
        let long = ap length e ∙ length-append (list_skips c l) (list_postings c l) in
        let z : place ≡ list_place c 0 + length (parts c l) = omega (arith, F.place_is, ap length (parts_none c)) in
        let all : Put old (list_place c 0) (parts c l ++ list_piece c l) after = put-behind F.put z (put_as P e) in
        let s = add-one l in
        record {
          within = omega arith;
          place_is = subst (λ (k : ℕ). place' ≡ list_place c k) (sym s) (omega (arith, ep, long, F.place_is, next-list c l));
          from_is = subst (λ (k : ℕ). from' ≡ list_at c k) (sym s) (omega (arith, ef, en, F.from_is, list-at-next c l));
          start_is = subst (λ (k : ℕ). start' ≡ blocks_at c k) (sym s)
              (es ∙ ap (λ (k : ℕ). start + k / 128) en ∙ ap (λ (k : ℕ). k + count_of c l / 128) F.start_is ∙ sym (blocks-next c l));
          put = subst (λ (k : ℕ). Put old (list_place c 0) (parts c k) after) (sym s) (put_as all (sym (parts_more c l)));
        }

    -- behind the front they are the file
    pub all-written : lists c ≤ l → {first : List ℕ} → Put first 0 front_of old → Put first 0 (house_file c) out
    all-written h P =
        let z : l ≡ lists c = omega (arith, F.within) in
        let q : list_place c 0 ≡ 0 + length front_of = omega (arith, front_long) in
        put_as (put-behind P q (subst (λ (k : ℕ). Put old (list_place c 0) (parts c k) out) z F.put)) whole

-- what a call of `write_list` asks, and what it leaves, by the contents
pub record Asked (c : Contents) (reader : FieldNormReader) (tops out : List ℕ) (place from start n : ℕ) : Type 0 where
  pub sound : Sound (numbers_from c.docs from) (numbers_from c.freqs from) n 1048576
  pub docs-in : from + n ≤ length c.docs
  pub freqs-in : from + n ≤ length c.freqs
  pub tops-in : TopsIn tops start (n / 128)
  pub few : n ≤ 1048576
  pub room : place + length (skips_by c.norms reader (numbers_from c.docs from) (numbers_from c.freqs from) tops start (n / 128))
      + length (postings_bytes (numbers_from c.docs from) (numbers_from c.freqs from) n) ≤ length out

-- the same of list l, where the numbers are its own
module _ (c : Contents) (tops : List ℕ) (l : ℕ) where
  abbrev its : FieldNormReader
  its = reader_of c (eqb c.kind 0)

  abbrev its-skips : List ℕ
  its-skips = skips_by c.norms its (doc_in (listed_of c l)) (freq_in (listed_of c l)) tops (blocks_at c l) (count_of c l / 128)

  abbrev its-postings : List ℕ
  its-postings = postings_bytes (doc_in (listed_of c l)) (freq_in (listed_of c l)) (count_of c l)

  module _ (h : l < lists c) {old : List ℕ} (R : Ready c its tops old) where
    bytes-are : its-skips ++ its-postings ≡ list_piece c l
    bytes-are =
        bytes-by (listed_of c l) (blocks_at c l) tops (R.tops_are l h)
        ∙ ap (λ (x : List ℕ). x ++ postings_in (listed_of c l)) (listed-skips c l)
        ∙ ap (λ (x : List ℕ). list_skips c l ++ x) (listed-postings c l)

    its-room : (out : List ℕ) {place : ℕ} → place ≡ list_place c l → length out ≡ length old
        → place + length its-skips + length its-postings ≤ length out
    its-room out {place} e q =
        let a : length its-skips + length its-postings ≡ length (list_piece c l) = sym (length-append its-skips its-postings) ∙ ap length bytes-are in
        let b = length-append (list_skips c l) (list_postings c l) in
        omega (arith, a, b, e, q, next-list c l, places-rise c (suc l) (lists c) h, house-long c, R.room)

    its-asked : {out : List ℕ} {place : ℕ} → place ≡ list_place c l → length out ≡ length old
        → Asked c its tops out place (list_at c l) (blocks_at c l) (count_of c l)
    its-asked {out} e q =
        let K = contents-head c R.ok in
        let fits = listed-fits c l K h in
        record {
          sound = listed-sound c l K h (contents-list c R.ok l h);
          docs-in = fits.docs-in;
          freqs-in = fits.freqs-in;
          tops-in = tops-in (listed_of c l) (blocks_at c l) tops (R.tops_are l h) (blocks-in c K l h);
          few = omega (arith, fits.count-in, fits.few);
          room = its-room out e q;
        }

module _ {c : Contents} {reader : FieldNormReader} {tops old out : List ℕ} {place from start l n : ℕ} (R : Ready c reader tops old)
    (F : Filing c old out place from start l) (h : l < lists c) (en : n ≡ count_of c l) where
  own : Ready c (reader_of c (eqb c.kind 0)) tops old
  own = record { ok = R.ok; reader-is = refl; tops_are = R.tops_are; room = R.room }

  pub asked : Asked c reader tops out place from start n
  asked = rw (R.reader-is, F.from_is, F.start_is, en) (its-asked c tops l h own F.place_is F.put.written.long)

  -- the list's bytes, by the table
  abbrev pub list_bytes : List ℕ
  list_bytes =
      skips_by c.norms reader (numbers_from c.docs from) (numbers_from c.freqs from) tops start (n / 128)
      ++ postings_bytes (numbers_from c.docs from) (numbers_from c.freqs from) n

  pub list-bytes : list_bytes ≡ list_piece c l
  list-bytes = rw (R.reader-is, F.from_is, F.start_is, en) (bytes-are c tops l h own)
