-- The entries by a table of highest scores are those of the house form.
use mathlib.Core.Path.{◌≡◌, refl, sym, ap, ◌∙◌, subst}
use mathlib.Core.List.{List, ◌++◌}
use Prim.Native.Nat.{ℕ, zero, suc, ◌+◌, ◌*◌, ◌/◌, ◌≤◌, ◌<◌}
use native.Mathlib.Omega.{arith}
use Rattle.bm25_pair.specs.Pair.{freq_code}
use Rattle.bm25_pair.proofs.Highest.{highest-in}
use Rattle.house.specs.House.{top_of, entry_of, skips_bytes, postings_bytes, doc_bits, freq_bits}
use Rattle.house.specs.Inner.Listed.{Listed, doc_in, freq_in, norm_in, score_in, top_in, skips_in, postings_in, Topped}
use Rattle.encode.specs.SkipEntry.{skip_entry}
use Rattle.list_writer.specs.Inner.Skips.{entry_by, skips_by, TopsIn}

module _ (y : Listed) where
  -- the place of a block's highest score, below 128
  top-low : (b : ℕ) → top_in y b < 128
  unfolding top_in
  top-low b = highest-in (λ i. score_in y (128 * b + i)) 128 (omega arith)

  module _ (start : ℕ) (tops : List ℕ) (T : Topped y start tops) where
    -- such a table names one of 128 postings of each block
    pub tops-in : start + y.count / 128 ≤ 131072 → TopsIn tops start (y.count / 128)
    tops-in h = record { room = h; low = λ b l. subst (λ (x : ℕ). x < 128) (sym (T.at b l)) (top-low b) }

    entry-by : (b : ℕ) → b < y.count / 128
        → entry_by y.norms y.reader (doc_in y) (freq_in y) tops start b ≡ entry_of (doc_in y) (freq_in y) (norm_in y) (score_in y) b
    unfolding entry_by entry_of top_of top_in
    entry-by b h =
        ap
        (λ (m : ℕ). skip_entry (doc_in y (128 * b + 127)) (doc_bits (doc_in y) (freq_in y) b) (freq_bits (doc_in y) (freq_in y) b)
        (norm_in y (doc_in y (128 * b + m))) (freq_code (freq_in y (128 * b + m))))
        (T.at b h)

    first_by : (b : ℕ) → b ≤ y.count / 128
        → skips_by y.norms y.reader (doc_in y) (freq_in y) tops start b ≡ skips_bytes (doc_in y) (freq_in y) (norm_in y) (score_in y) b
    unfolding skips_by skips_bytes
    first_by zero h = refl
    first_by (suc b) h =
        ap (λ (x : List ℕ). x ++ entry_by y.norms y.reader (doc_in y) (freq_in y) tops start b) (first_by b (omega arith))
        ∙ ap (λ (x : List ℕ). skips_bytes (doc_in y) (freq_in y) (norm_in y) (score_in y) b ++ x) (entry-by b h)

    pub skips-by : skips_by y.norms y.reader (doc_in y) (freq_in y) tops start (y.count / 128) ≡ skips_in y
    unfolding skips_in
    skips-by = first_by (y.count / 128) (omega arith)

    -- so what is written is the list's bytes
    pub bytes-by :
        skips_by y.norms y.reader (doc_in y) (freq_in y) tops start (y.count / 128) ++ postings_bytes (doc_in y) (freq_in y) y.count
        ≡ skips_in y ++ postings_in y
    unfolding postings_in
    bytes-by = ap (λ (x : List ℕ). x ++ postings_bytes (doc_in y) (freq_in y) y.count) skips-by
