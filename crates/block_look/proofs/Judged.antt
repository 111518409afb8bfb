-- A block judged by its joined bits: rows 7 and 8, and the widths of a block that both let through.
use Rattle.std.proofs.Common.{◌≡◌, ℕ, zero, suc, ◌+◌, ◌-◌, ◌*◌, ◌<◌, ◌≤◌, Bool, true, false, ◌&&◌, ltb, leb, sym, refl, ap, ◌∙◌, subst, le_of_lt, arith, ltb-true, lt-ltb, le-leb, leb-true}
use lib.Count.{count_leading_zeros}
use Rattle.arrays.proofs.Every.{each, all, and-true, first-true, second-true, same_test}
use Rattle.arrays.proofs.Order.{climbs}
use Rattle.compression.specs.Documents.{start_of, above_last, rises, rising_below}
use Rattle.frequencies.specs.Frequencies.{freq_right, freqs_right}
use Rattle.pieces.specs.Bytes.{bytes_of}
use Rattle.pieces.proofs.Standing.{bytes_same}
use Rattle.packing.specs.Width.{least_width}
use Rattle.encode.specs.Differences.{differ}
use Rattle.block_look.specs.Inner.Joint.{behind, steps, less_one, Joint}

not-true : (b : Bool) → (b ≡ true → ⊥) → false ≡ b
not-true true f = absurd (f refl)
not-true false f = refl

-- a difference of numbers in order does not wrap
near : (a b : ℕ) → b ≤ a → a < 4294967296 → behind a b ≡ a - b
near a b h k = omega arith

-- and a short one is of numbers in order, the first being low
short-near : (a b : ℕ) → a < 4294967296 → b ≤ 268435456 → behind a b < 1048576 → (b ≤ a) × (a < b + 1048576)
short-near a b h k l = (omega arith, omega arith)

pub start-low : (first : Bool) (previous : ℕ) → previous ≤ 1048576 → start_of true previous first ≤ 1048577
start-low true previous h = omega arith
start-low false previous h = omega arith

module _ (d : ℕ → ℕ) (first : Bool) (previous limit : ℕ) where
  abbrev base : ℕ
  base = start_of true previous first

  abbrev right : Bool
  right = rising_below d first previous 128 limit

  abbrev each_right : ℕ → Bool
  each_right i = rises d first previous i && ltb (d i) limit

  -- the steps of right documents are their differences
  module _ (lim : limit ≤ 1048576) (r : right ≡ true) where
    low : (i : ℕ) → i < 128 → d i < limit
    low i h = ltb-true (d i) limit (second-true (rises d first previous i) (ltb (d i) limit) (each each_right 128 i r h))

    floor : base ≤ d 0
    floor = go first (first-true _ _ (each each_right 128 0 r (omega arith)))
      where
        go : (b : Bool) → above_last d first previous b ≡ true → start_of true previous b ≤ d 0
        go true e = omega arith
        go false e = omega (arith, ltb-true previous (d 0) e)

    step_is : (i : ℕ) → i < 128 → steps d base i ≡ differ d true first previous i
    unfolding steps differ
    step_is zero h = near (d 0) base floor (omega (arith, low 0 h))
    step_is (suc i) h =
        let u = ltb-true (d i) (d (suc i)) (first-true _ _ (each each_right 128 (suc i) r h)) in
        near (d (suc i)) (d i + 1) (omega (arith, u)) (omega (arith, low (suc i) h))

    differ-low : (i : ℕ) → i < 128 → differ d true first previous i < 1048576
    unfolding differ
    differ-low i h = omega (arith, low i h)

    pub docs-width : {all : ℕ} → Joint (steps d base) all
        → 32 - count_leading_zeros 32 all ≡ least_width (bytes_of 128 (differ d true first previous))
    docs-width J = J.width ∙ ap least_width (bytes_same 128 (steps d base) (differ d true first previous) step_is)

    right-short : {all : ℕ} → Joint (steps d base) all → all < 1048576
    right-short J = J.below 20 (λ i h. subst (λ (x : ℕ). x < 1048576) (sym (step_is i h)) (differ-low i h))

  -- a long step is not right
  pub docs-long : {all : ℕ} → limit ≤ 1048576 → Joint (steps d base) all → 1048576 ≤ all → false ≡ right
  docs-long lim J h = not-true right (λ r. omega (arith, right-short lim r J))

  -- documents of short steps rise, since 128 of them do not wrap
  module _ (prev : previous ≤ 1048576) (small : (i : ℕ) → d i < 4294967296) (short : (i : ℕ) → i < 128 → steps d base i < 1048576) where
    first-near : (base ≤ d 0) × (d 0 < base + 1048576)
    unfolding steps
    first-near = short-near (d 0) base (small 0) (omega (arith, start-low first previous prev)) (short 0 (omega arith))

    next-near : (i : ℕ) → suc i < 128 → d i < 268435456 → (d i + 1 ≤ d (suc i)) × (d (suc i) < d i + 1 + 1048576)
    unfolding steps
    next-near i h k = short-near (d (suc i)) (d i + 1) (small (suc i)) (omega arith) (short (suc i) h)

    reach : (i : ℕ) → i < 128 → d i < base + (i + 1) * 1048576
    reach zero h = omega (arith, first-near.1)
    reach (suc i) h =
        let q = reach i (omega arith) in
        omega (arith, q, (next-near i h (omega (arith, q, start-low first previous prev))).1)

    up : (i : ℕ) → suc i < 128 → d i < d (suc i)
    up i h = omega (arith, (next-near i h (omega (arith, reach i (omega arith), start-low first previous prev))).0)

    rise : (i : ℕ) → i < 128 → rises d first previous i ≡ true
    rise zero h = go first first-near.0
      where
        go : (b : Bool) → start_of true previous b ≤ d 0 → above_last d first previous b ≡ true
        go true e = refl
        go false e = lt-ltb previous (d 0) (omega arith)
    rise (suc i) h = lt-ltb (d i) (d (suc i)) (up i h)

    rising : ltb (d 127) limit ≡ true → right ≡ true
    rising e = all each_right 128 (λ i h.
        let c = climbs d i 127 (omega arith) (λ k l. le_of_lt (up k (omega arith))) in
        and-true _ _ (rise i h) (lt-ltb (d i) limit (omega (arith, c, ltb-true (d 127) limit e))))

  -- so the last says the rest
  pub docs-short : {all : ℕ} → previous ≤ 1048576 → limit ≤ 1048576 → ((i : ℕ) → d i < 4294967296) → Joint (steps d base) all
      → all < 1048576 → ltb (d 127) limit ≡ right
  docs-short p lim s J h =
      same_test (ltb (d 127) limit) right (rising p s (J.each 20 h)) (λ r. lt-ltb (d 127) limit (low lim r 127 (omega arith)))

module _ (f : ℕ → ℕ) where
  -- frequencies below 2^30 + 1, and none of them 0
  pub freqs-low : {all : ℕ} → ((i : ℕ) → f i < 4294967296) → Joint (less_one f) all → all < 1073741824 → true ≡ freqs_right f 128
  unfolding less_one
  freqs-low s J h = sym (all (λ i. freq_right (f i)) 128 (λ i l.
      let q = between (f i) (s i) (J.each 30 h i l) in
      and-true _ _ (lt-ltb 0 (f i) q.0) (le-leb (f i) 2013265944 q.1)))
    where
      between : (x : ℕ) → x < 4294967296 → behind x 1 < 1073741824 → (0 < x) × (x ≤ 2013265944)
      between x h l = (omega arith, omega arith)

  less-is : freqs_right f 128 ≡ true → (i : ℕ) → i < 128 → less_one f i ≡ f i - 1
  unfolding less_one
  less-is r i h =
      let e = each (λ i. freq_right (f i)) 128 i r h in
      let most = leb-true (f i) 2013265944 (second-true (ltb 0 (f i)) (leb (f i) 2013265944) e) in
      near (f i) 1 (ltb-true 0 (f i) (first-true _ _ e)) (omega (arith, most))

  pub freqs-width : {all : ℕ} → freqs_right f 128 ≡ true → Joint (less_one f) all
      → 32 - count_leading_zeros 32 all ≡ least_width (bytes_of 128 (λ i. f i - 1))
  freqs-width r J = J.width ∙ ap least_width (bytes_same 128 (less_one f) (λ i. f i - 1) (less-is r))
