-- Bytes made of fields read back field by field, and no other bytes do.
use mathlib.Core.Path.{◌≡◌, refl, sym, ap, ◌∙◌, subst}
use mathlib.Core.List.{List, [], ◌∷◌}
use mathlib.Core.Logic.{⊎_elim}
use Prim.Native.Nat.{ℕ, zero, suc, ◌+◌, ◌-◌, ◌*◌, ◌/◌, ◌%◌, ◌^◌, ◌≤◌, ◌<◌}
use native.Mathlib.Nat.{not-suc-le-zero, div-one, mul_comm, add_comm}
use native.Mathlib.Numerals.{add-one}
use native.Mathlib.Omega.{arith}
use lib.ListN.{length, get_or}
use lib.Pow.{pow-add, high, low, shr-shr, shr_lt}
use lib.Arith.{digits_lt}
use Rattle.arrays.proofs.Order.{lt-or-ge}
use Rattle.codec.specs.Bits.{bits_at}
use Rattle.codec.proofs.BitFields.{bits-join, bits-lt, bits-more}
use Rattle.bitpacker.proofs.Lanes.{cut}
use Rattle.pieces.specs.Bytes.{big_byte}
use Rattle.pieces.specs.Inner.Written.{Written, Put, Stands}
use Rattle.pieces.proofs.Writes.{also, recast}
use Rattle.pieces.proofs.Standing.{long-bytes, bytes-stand, standing}
use Rattle.pieces.proofs.Puts.{put-bytes}
use Rattle.encode.specs.Fields.{Field, bits_of, joined, field_bytes, header_fields, entry_fields}
use Rattle.encode.specs.Inner.FieldsFit.{Fit, Stand}

pub joined-lt : (fs : List Field) → Fit fs → joined fs < 2 ^ bits_of fs
joined-lt [] h = omega arith
joined-lt (f ∷ fs) h = rw (pow-add 2 f.width (bits_of fs)) (digits_lt h.0 (joined-lt fs h.1))

module _ (s : List ℕ) where
  -- the number stands there, so the fields do
  pub fields-stand : (fs : List Field) (p : ℕ) → Fit fs → bits_at s p (bits_of fs) ≡ joined fs → Stand s p fs
  fields-stand [] p h e = tt
  fields-stand (f ∷ fs) p h e =
      let u = 2 ^ bits_of fs in
      let t : bits_at s p f.width * u + bits_at s (p + f.width) (bits_of fs) ≡ f.value * u + joined fs
      = sym (bits-join s p f.width (bits_of fs)) ∙ e in (
        sym (high (bits_at s p f.width) (bits_of fs) (bits-lt s (p + f.width) (bits_of fs)))
            ∙ ap (λ (x : ℕ). x / 2 ^ bits_of fs) t
            ∙ high f.value (bits_of fs) (joined-lt fs h.1),
        fields-stand fs (p + f.width) h.1
            (sym (low (bits_at s p f.width) (bits_of fs) (bits-lt s (p + f.width) (bits_of fs)))
            ∙ ap (λ (x : ℕ). x % 2 ^ bits_of fs) t
            ∙ low f.value (bits_of fs) (joined-lt fs h.1)),
      )

  -- and back
  pub fields-only : (fs : List Field) (p : ℕ) → Stand s p fs → bits_at s p (bits_of fs) ≡ joined fs
  unfolding bits_at
  fields-only [] p h = refl
  fields-only (f ∷ fs) p h =
      bits-join s p f.width (bits_of fs)
      ∙ ap (λ (x : ℕ). x * 2 ^ bits_of fs + bits_at s (p + f.width) (bits_of fs)) h.0
      ∙ ap (λ (x : ℕ). f.value * 2 ^ bits_of fs + x) (fields-only fs (p + f.width) h.1)

-- a byte more at the low end
pub byte-up : (n v k : ℕ) → k < n → big_byte (suc n) v k ≡ big_byte n (v / 256) k
byte-up n v k h = ap (λ (x : ℕ). v / 2 ^ x % 256) (place n k h) ∙ ap (λ (x : ℕ). x % 256) (sym (shr-shr v 8 (8 * (n - suc k))))
  where
    place : (n k : ℕ) → k < n → 8 * (suc n - suc k) ≡ 8 + 8 * (n - suc k)
    place n k h = omega arith

pub byte_low : (n v : ℕ) → big_byte (suc n) v n ≡ v % 256
byte_low n v = ap (λ (x : ℕ). v / 2 ^ x % 256) (place n) ∙ ap (λ (x : ℕ). x % 256) (div-one v)
  where
    place : (n : ℕ) → 8 * (suc n - suc n) ≡ 0
    place n = omega arith

module _ (s : List ℕ) (p : ℕ) where
  -- the n bytes of a number, read as bits
  pub bytes_read : (n v : ℕ) → v < 2 ^ (8 * n) → ((k : ℕ) → k < n → get_or s (p + k) 0 ≡ big_byte n v k) → bits_at s (8 * p) (8 * n) ≡ v
  unfolding bits_at
  bytes_read zero v h b = omega arith
  bytes_read (suc n) v h b =
      let e : get_or s (p + n) 0 ≡ v % 256 = b n (omega arith) ∙ byte_low n v in
      ap (λ (x : ℕ). bits_at s (8 * p) (8 * x)) (sym (add-one n))
      ∙ sym (bits-more s p n (omega arith))
      ∙ ap (λ (x : ℕ). x * 256 + get_or s (p + n) 0)
      (bytes_read n (v / 256) (shr_lt (8 * n) 8 (subst (λ (x : ℕ). v < 2 ^ x) (up n) h)) (λ k l. b k (omega arith) ∙ byte-up n v k l))
      ∙ whole v (get_or s (p + n) 0) e
    where
      up : (n : ℕ) → 8 * suc n ≡ 8 * n + 8
      up n = omega arith

      whole : (v b : ℕ) → b ≡ v % 256 → v / 256 * 256 + b ≡ v
      whole v b e = omega arith

  -- and back
  pub bytes-only : ((i : ℕ) → get_or s i 0 < 256) → (n v : ℕ) → bits_at s (8 * p) (8 * n) ≡ v
      → (k : ℕ) → k < n → get_or s (p + k) 0 ≡ big_byte n v k
  bytes-only B zero v e k h = absurd (not-suc-le-zero h)
  bytes-only B (suc n) v e k h =
      let t : bits_at s (8 * p) (8 * n) * 256 + get_or s (p + n) 0 ≡ v
      = bits-more s p n (B (p + n)) ∙ ap (λ (x : ℕ). bits_at s (8 * p) (8 * x)) (add-one n) ∙ e in
      let u = apart (bits_at s (8 * p) (8 * n)) (get_or s (p + n) 0) (B (p + n)) t in
      ⊎_elim
      (λ l. bytes-only B n (v / 256) (sym u.0) k l ∙ sym (byte-up n v k l))
      (λ l. let z : k ≡ n = omega arith in rw z (sym (byte_low n v ∙ u.1)))
      (lt-or-ge k n)
    where
      apart : (x b : ℕ) → b < 256 → x * 256 + b ≡ v → (v / 256 ≡ x) × (v % 256 ≡ b)
      apart x b h e = (omega arith, omega arith)

-- two numbers one after the other: a bytes, then b
module _ (a b x y : ℕ) (h : y < 2 ^ (8 * b)) where
  pub upper : (k : ℕ) → k < a → big_byte (a + b) (x * 2 ^ (8 * b) + y) k ≡ big_byte a x k
  upper k l =
      ap (λ (z : ℕ). (x * 2 ^ (8 * b) + y) / 2 ^ z % 256) (place a b k l)
      ∙ ap (λ (z : ℕ). z % 256) (sym (shr-shr (x * 2 ^ (8 * b) + y) (8 * b) (8 * (a - suc k))))
      ∙ ap (λ (z : ℕ). z / 2 ^ (8 * (a - suc k)) % 256) (high x (8 * b) h)
    where
      place : (a b k : ℕ) → k < a → 8 * (a + b - suc k) ≡ 8 * b + 8 * (a - suc k)
      place a b k l = omega arith

  pub lower : (k : ℕ) → k < b → big_byte (a + b) (x * 2 ^ (8 * b) + y) (a + k) ≡ big_byte b y k
  lower k l =
      ap (λ (z : ℕ). (x * 2 ^ (8 * b) + y) / 2 ^ z % 256) (place a b k l)
      ∙ ap (λ (z : ℕ). z / 2 ^ (8 * (b - suc k)) % 256) (add_comm (x * 2 ^ (8 * b)) y ∙ ap (λ (z : ℕ). y + z) (mul_comm x (2 ^ (8 * b))))
      ∙ cut y x (8 * (b - suc k)) 8 (8 * b) (fits b k l)
    where
      place : (a b k : ℕ) → k < b → 8 * (a + b - suc (a + k)) ≡ 8 * (b - suc k)
      place a b k l = omega arith

      fits : (b k : ℕ) → k < b → 8 * (b - suc k) + 8 ≤ 8 * b
      fits b k l = omega arith

  pub both-written : {before mid after : List ℕ} {p q v : ℕ} → Written before p a (big_byte a x) mid
      → Written mid q b (big_byte b y) after → q ≡ p + a → x * 2 ^ (8 * b) + y ≡ v
      → Written before p (a + b) (big_byte (a + b) v) after
  both-written {before} {mid} {after} {p} {q} {v} X Y e f =
      also (recast X (big_byte (a + b) v) (λ k l. sym (rw (sym f) (upper k l)))) Y e (λ k l. sym (rw (sym f) (lower k l)))

-- n bytes of fields
pub fields-long : (n : ℕ) (fs : List Field) → length (field_bytes n fs) ≡ n
unfolding field_bytes
fields-long n fs = long-bytes n (big_byte n (joined fs))

module _ (s : List ℕ) (p n : ℕ) (fs : List Field) (size : bits_of fs ≡ 8 * n) where
  -- the fields stand in them
  pub fields_back : Fit fs → Stands s p (field_bytes n fs) → Stand s (8 * p) fs
  unfolding field_bytes
  fields_back h S =
      fields-stand s fs (8 * p) h
      (ap (bits_at s (8 * p)) size
      ∙ bytes_read s p n (joined fs) (subst (λ (x : ℕ). joined fs < 2 ^ x) size (joined-lt fs h))
      (standing s p n (big_byte n (joined fs)) S))

  -- and in no others
  pub fields-bytes : ((i : ℕ) → get_or s i 0 < 256) → Stand s (8 * p) fs → Stands s p (field_bytes n fs)
  unfolding field_bytes
  fields-bytes B h =
      bytes-stand s p n (big_byte n (joined fs))
      (bytes-only s p B n (joined fs) (ap (bits_at s (8 * p)) (sym size) ∙ fields-only s fs (8 * p) h))

-- a header in two parts
module _ (kind lists code documents average : ℕ) (h : Fit (header_fields kind lists code documents average)) where
  abbrev front : ℕ
  front = 68719476736 + kind * 34359738368 + lists * 1073741824 + code * 4194304 + documents * 2

  pub header-written : {before mid after : List ℕ} {p : ℕ} → Written before p 5 (big_byte 5 front) mid
      → Written mid (p + 5) 4 (big_byte 4 average) after
      → Put before p (field_bytes 9 (header_fields kind lists code documents average)) after
  unfolding field_bytes
  header-written X Y = put-bytes (both-written 5 4 front average h.1.1.1.1.1.1.0 X Y refl (omega arith))

-- an entry in three
module _ (weight count kind skips postings : ℕ) (h : Fit (entry_fields weight count kind skips postings)) where
  abbrev middle : ℕ
  middle = count * 524288 + kind * 262144 + skips / 64

  pub entry-written : {before mid next after : List ℕ} {p : ℕ} → Written before p 4 (big_byte 4 weight) mid
      → Written mid (p + 4) 5 (big_byte 5 middle) next → Written next (p + 9) 4 (big_byte 4 (skips % 64 * 67108864 + postings)) after
      → Put before p (field_bytes 13 (entry_fields weight count kind skips postings)) after
  unfolding field_bytes
  entry-written X Y Z =
      let post : postings < 67108864 = h.1.1.1.1.0 in
      let skip : skips < 16777216 = h.1.1.1.0 in
      let bit : kind < 2 = h.1.1.0 in
      let c : count < 2097152 = h.1.0 in
      put-bytes
      (both-written 9 4 (weight * 2 ^ 40 + middle) (skips % 64 * 67108864 + postings) (omega arith)
      (both-written 4 5 weight middle (omega arith) X Y refl refl)
      Z refl (omega arith))

-- an entry's fields, at their places
pub record EntryAt (s : List ℕ) (p weight count kind skips postings : ℕ) : Type 0 where
  pub weight_is : bits_at s (8 * p) 32 ≡ weight
  pub count-is : bits_at s (8 * p + 32) 21 ≡ count
  pub kind-is : bits_at s (8 * p + 53) 1 ≡ kind
  pub skips-is : bits_at s (8 * p + 54) 24 ≡ skips
  pub postings-is : bits_at s (8 * p + 78) 26 ≡ postings

at53 : (p : ℕ) → 8 * p + 53 ≡ 8 * p + 32 + 21
at53 p = omega arith

at54 : (p : ℕ) → 8 * p + 54 ≡ 8 * p + 32 + 21 + 1
at54 p = omega arith

at78 : (p : ℕ) → 8 * p + 78 ≡ 8 * p + 32 + 21 + 1 + 24
at78 p = omega arith

module _ (s : List ℕ) (p weight count kind skips postings : ℕ) where
  pub entry-back : Fit (entry_fields weight count kind skips postings)
      → Stands s p (field_bytes 13 (entry_fields weight count kind skips postings))
      → EntryAt s p weight count kind skips postings
  entry-back h b =
      let S = fields_back s p 13 (entry_fields weight count kind skips postings) refl h b in
      record {
        weight_is = S.0;
        count-is = S.1.0;
        kind-is = ap (λ (x : ℕ). bits_at s x 1) (at53 p) ∙ S.1.1.0;
        skips-is = ap (λ (x : ℕ). bits_at s x 24) (at54 p) ∙ S.1.1.1.0;
        postings-is = ap (λ (x : ℕ). bits_at s x 26) (at78 p) ∙ S.1.1.1.1.0;
      }

  pub entry-only : ((i : ℕ) → get_or s i 0 < 256) → EntryAt s p weight count kind skips postings
      → Stands s p (field_bytes 13 (entry_fields weight count kind skips postings))
  entry-only B E =
      let kind_at = ap (λ (x : ℕ). bits_at s x 1) (sym (at53 p)) ∙ E.kind-is in
      let skips-at = ap (λ (x : ℕ). bits_at s x 24) (sym (at54 p)) ∙ E.skips-is in
      let postings-at = ap (λ (x : ℕ). bits_at s x 26) (sym (at78 p)) ∙ E.postings-is in
      fields-bytes s p 13 (entry_fields weight count kind skips postings) refl B
      (E.weight_is, (E.count-is, (kind_at, (skips-at, (postings-at, tt)))))

-- a header's fields, at the file's start
pub record HeaderAt (s : List ℕ) (kind lists code documents average : ℕ) : Type 0 where
  pub version-is : bits_at s 0 4 ≡ 1
  pub kind-is : bits_at s 4 1 ≡ kind
  pub lists-is : bits_at s 5 5 ≡ lists
  pub code_is : bits_at s 10 8 ≡ code
  pub documents-is : bits_at s 18 21 ≡ documents
  pub spare-is : bits_at s 39 1 ≡ 0
  pub average-is : bits_at s 40 32 ≡ average

module _ (s : List ℕ) (kind lists code documents average : ℕ) where
  pub header-back : Fit (header_fields kind lists code documents average)
      → Stands s 0 (field_bytes 9 (header_fields kind lists code documents average))
      → HeaderAt s kind lists code documents average
  header-back h b =
      let S = fields_back s 0 9 (header_fields kind lists code documents average) refl h b in
      record {
        version-is = S.0;
        kind-is = S.1.0;
        lists-is = S.1.1.0;
        code_is = S.1.1.1.0;
        documents-is = S.1.1.1.1.0;
        spare-is = S.1.1.1.1.1.0;
        average-is = S.1.1.1.1.1.1.0;
      }

  pub header-only : ((i : ℕ) → get_or s i 0 < 256) → HeaderAt s kind lists code documents average
      → Stands s 0 (field_bytes 9 (header_fields kind lists code documents average))
  header-only B H =
      fields-bytes s 0 9 (header_fields kind lists code documents average) refl B
      (H.version-is, (H.kind-is, (H.lists-is, (H.code_is, (H.documents-is, (H.spare-is, (H.average-is, tt)))))))
