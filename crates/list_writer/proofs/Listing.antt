-- A list's skip entries and blocks, written in turn, and its tail behind them.
use mathlib.Core.Path.{◌≡◌, refl, sym, ap, ◌∙◌, subst}
use mathlib.Core.List.{List, ◌++◌, append_assoc}
use Prim.Native.Nat.{ℕ, zero, suc, ◌+◌, ◌-◌, ◌*◌, ◌/◌, ◌%◌, ◌≤◌, ◌<◌}
use native.Mathlib.Nat.{add-zero, add-suc}
use native.Mathlib.Numerals.{add-one}
use native.Mathlib.Omega.{arith}
use lib.ListN.{length, get_or, length-append}
use Rattle.fieldnorm.specs.Reader.{fieldnorm_id}
use Rattle.fieldnorm.specs.declared.FieldNormReader.{FieldNormReader}
use Rattle.pieces.specs.Inner.Written.{Put}
use Rattle.pieces.specs.Inner.Two.{TwoPieces}
use Rattle.pieces.proofs.Puts.{put_as, put-behind}
use Rattle.pieces.proofs.TwoPuts.{two-begun, two-more, two-meet}
use Rattle.encode.specs.SkipEntry.{skip_entry}
use Rattle.bm25_pair.specs.Pair.{freq_code}
use Rattle.house.specs.House.{doc_bits, freq_bits, block_bytes, blocks_bytes, tail_bytes, postings_bytes}
use Rattle.house.specs.Inner.Sound.{Sound}
use Rattle.list_writer.specs.Inner.Skips.{numbers_from, entry_by, skips_by}
use Rattle.list_writer.specs.Inner.Filled.{PostingsIn}
use Rattle.list_writer.proofs.Values.{sound-less}

-- fewer postings stand in the buffers too
pub postings-less : {docs freqs : List ℕ} {from n : ℕ} (m : ℕ) → m ≤ n → from + n ≤ length docs → from + n ≤ length freqs
    → Sound (numbers_from docs from) (numbers_from freqs from) n 1048576 → PostingsIn docs freqs from m
postings-less m h k l S = record { docs-in = omega arith; freqs-in = omega arith; sound = sound-less m h S }

-- lengths of blocks and postings
module _ (d f : ℕ → ℕ) where
  blocks_more : (b : ℕ) → length (blocks_bytes d f (suc b)) ≡ length (blocks_bytes d f b) + length (block_bytes d f b)
  unfolding blocks_bytes
  blocks_more b = length-append (blocks_bytes d f b) (block_bytes d f b)

  blocks-grow : (b r : ℕ) → length (blocks_bytes d f b) ≤ length (blocks_bytes d f (b + r))
  blocks-grow b zero = rw add-zero (omega arith)
  blocks-grow b (suc r) = rw add-suc (omega (arith, blocks-grow b r, blocks_more (b + r)))

  blocks-mono : (b n : ℕ) → b ≤ n → length (blocks_bytes d f b) ≤ length (blocks_bytes d f n)
  blocks-mono b n h = let e : n ≡ b + (n - b) = omega arith in rw e (blocks-grow b (n - b))

  postings-long : (n : ℕ) → length (postings_bytes d f n) ≡ length (blocks_bytes d f (n / 128)) + length (tail_bytes d f (n / 128) (n % 128))
  unfolding postings_bytes
  postings-long n = length-append (blocks_bytes d f (n / 128)) (tail_bytes d f (n / 128) (n % 128))

  joined : (s : List ℕ) (n : ℕ) → (s ++ blocks_bytes d f (n / 128)) ++ tail_bytes d f (n / 128) (n % 128) ≡ s ++ postings_bytes d f n
  unfolding postings_bytes
  joined s n = append_assoc s (blocks_bytes d f (n / 128)) (tail_bytes d f (n / 128) (n % 128))

module _ (norms : List ℕ) (reader : FieldNormReader) (d f : ℕ → ℕ) (tops : List ℕ) (start : ℕ) where
  -- 8 bytes an entry
  pub skips-long : (b : ℕ) → length (skips_by norms reader d f tops start b) ≡ 8 * b
  unfolding skips_by entry_by
  skips-long zero = refl
  skips-long (suc b) =
      length-append (skips_by norms reader d f tops start b) (entry_by norms reader d f tops start b)
      ∙ ap (λ (x : ℕ). x + 8) (skips-long b)
      ∙ omega arith

  -- b of a list's full blocks are written, with their entries, and the next comes to p
  pub record Writing (count : ℕ) (before : List ℕ) (place : ℕ) (out : List ℕ) (p b : ℕ) : Type 0 where
    pub within : b ≤ count
    pub place_is : p ≡ place + 8 * count + length (blocks_bytes d f b)
    pub two : TwoPieces before place (skips_by norms reader d f tops start b) (place + 8 * count) (blocks_bytes d f b) out

  pub begun : (count : ℕ) (before : List ℕ) (place : ℕ) → Writing count before place before (place + 8 * count) 0
  unfolding skips_by blocks_bytes
  begun count before place = record {
    within = omega arith;
    place_is = omega arith;
    two = two-begun before place (place + 8 * count) (omega arith);
  }

  entry-is : (v w b : ℕ) → v ≡ fieldnorm_id reader norms (d (128 * b + get_or tops (start + b) 0))
      → w ≡ freq_code (f (128 * b + get_or tops (start + b) 0))
      → skip_entry (d (128 * b + 127)) (doc_bits d f b) (freq_bits d f b) v w ≡ entry_by norms reader d f tops start b
  unfolding entry_by
  entry-is v w b e g =
      let entry : ℕ → ℕ → List ℕ = skip_entry (d (128 * b + 127)) (doc_bits d f b) (freq_bits d f b) in
      ap (λ (x : ℕ). entry x w) e ∙ ap (entry (fieldnorm_id reader norms (d (128 * b + get_or tops (start + b) 0)))) g

module _ {norms : List ℕ} {reader : FieldNormReader} {d f : ℕ → ℕ} {tops : List ℕ} {start : ℕ} (n : ℕ) {before : List ℕ} {place : ℕ}
    {out : List ℕ} {p b : ℕ} (W : Writing norms reader d f tops start (n / 128) before place out p b)
  where
    -- room for one block more
    pub entry-room : b < n / 128 → place + 8 * b + 8 ≤ p
    entry-room h = omega (arith, W.place_is)

    module _ (room : place + length (skips_by norms reader d f tops start (n / 128)) + length (postings_bytes d f n) ≤ length before) where
      pub block_room : b < n / 128 → p + length (block_bytes d f b) ≤ length out
      block_room h =
          omega (
            arith,
            room,
            W.place_is,
            W.two.long,
            skips-long norms reader d f tops start (n / 128),
            postings-long d f n,
            blocks_more d f b,
            blocks-mono d f (suc b) (n / 128) h,
          )

      pub tail-room : n / 128 ≤ b → p + length (tail_bytes d f (n / 128) (n % 128)) ≤ length out
      tail-room h =
          let e : b ≡ n / 128 = omega (arith, W.within) in
          omega (
            arith,
            room,
            W.place_is,
            ap (λ (x : ℕ). length (blocks_bytes d f x)) e,
            W.two.long,
            skips-long norms reader d f tops start (n / 128),
            postings-long d f n,
          )

    pub goes_on : b < n / 128 → {v w r : ℕ} {after : List ℕ} → v ≡ fieldnorm_id reader norms (d (128 * b + get_or tops (start + b) 0))
        → w ≡ freq_code (f (128 * b + get_or tops (start + b) 0)) → r ≡ p + length (block_bytes d f b)
        → TwoPieces out (place + 8 * b) (skip_entry (d (128 * b + 127)) (doc_bits d f b) (freq_bits d f b) v w) p (block_bytes d f b) after
        → Writing norms reader d f tops start (n / 128) before place after r (b + 1)
    unfolding skips_by blocks_bytes
    goes_on h {v} {w} {r} {after} e g k T = rw add-one (record {
      within = h;
      place_is = omega (arith, k, W.place_is, blocks_more d f b);
      two =
          two-more W.two (ap (λ (x : ℕ). place + x) (sym (skips-long norms reader d f tops start b))) W.place_is (omega arith)
          (subst (λ (x : List ℕ). TwoPieces out (place + 8 * b) x p (block_bytes d f b) after)
          (entry-is norms reader d f tops start v w b e g) T);
    })

    -- all blocks are written, and then the tail
    pub all-written : n / 128 ≤ b → {r : ℕ} {after : List ℕ} → r ≡ p + length (tail_bytes d f (n / 128) (n % 128))
        → Put out p (tail_bytes d f (n / 128) (n % 128)) after
        → let bytes = skips_by norms reader d f tops start (n / 128) ++ postings_bytes d f n in
        (r ≡ place + length bytes) × Put before place bytes after
    all-written h {r} {after} e P =
        let s = skips_by norms reader d f tops start (n / 128) in
        let q : b ≡ n / 128 = omega (arith, W.within) in
        let A = subst (λ (x : ℕ). Writing norms reader d f tops start (n / 128) before place out p x) q W in
        let met : place + length s ≡ place + 8 * (n / 128) = ap (λ (x : ℕ). place + x) (skips-long norms reader d f tops start (n / 128)) in
        let both = length-append s (blocks_bytes d f (n / 128)) in
        let behind : p ≡ place + length (s ++ blocks_bytes d f (n / 128)) = omega (arith, A.place_is, met, both) in (
          omega (arith, e, behind, both, postings-long d f n, length-append s (postings_bytes d f n)),
          put_as (put-behind (two-meet A.two met) behind P) (joined d f s n),
        )
