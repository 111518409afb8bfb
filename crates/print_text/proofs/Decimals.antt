-- The fewest digits that hold a number are its decimal.
use Rattle.std.proofs.Common.{◌≡◌, ℕ, zero, suc, ◌+◌, ◌-◌, ◌/◌, ◌%◌, ◌^◌, ◌<◌, ◌≤◌, leb, List, [], ◌∷◌, ◌++◌, refl, ap, ◌∙◌, subst, suc-add, pow-suc, arith, lit<, lit≤, lt-ltb, leb-false, leb-true}
use Rattle.route.proofs.Cases.{on_test}
use Rattle.io.specs.Digits.{hex_digit_ascii, last_digits, IsDigitCount}
use Rattle.print_text.specs.Text.{digit, digits_of, decimal}

-- below 10 a glyph is a digit
glyph-is : (n : ℕ) → hex_digit_ascii (n % 10) ≡ digit n
glyph-is n = rw (lt-ltb (n % 10) 10 (omega arith))

ten-pos : (j : ℕ) → 0 < 10 ^ j
ten-pos zero = lit< tt
ten-pos (suc j) = let p = ten-pos j in omega (arith, pow-suc 10 j)

-- the least of j digits, none of which is a 0 in front
abbrev Least : ℕ → ℕ → Type 0
Least zero m = Unit {0}
Least (suc j) m = 10 ^ j ≤ m

least-less : (j m : ℕ) → Least (suc j) m → Least j (m / 10)
least-less zero m h = tt
least-less (suc j) m h = omega (arith, pow-suc 10 j)

front : (j k m : ℕ) → m ≤ k → m < 10 ^ j → Least j m → last_digits 10 j m ≡ digits_of k m
front zero zero m h most least = refl
front zero (suc k) zero h most least = refl
front zero (suc k) (suc m) h most least = absurd (omega arith)
front (suc j) k zero h most least = absurd (omega (arith, ten-pos j))
front (suc j) zero (suc m) h most least = absurd (omega arith)
front (suc j) (suc k) (suc m) h most least =
    ap (λ (l : List ℕ). l ++ (hex_digit_ascii (suc m % 10) ∷ [])) (front j k (suc m / 10) (omega arith) (omega (arith, pow-suc 10 j)) (least-less j (suc m) least))
    ∙ ap (λ (d : ℕ). digits_of k (suc m / 10) ++ (d ∷ [])) (glyph-is (suc m))

pub decimal-is : (n k : ℕ) → IsDigitCount 10 1 n k → last_digits 10 k n ≡ decimal n
unfolding decimal
decimal-is n zero F = absurd (omega (arith, F.0))
decimal-is n (suc j) F =
    let most = F.1 in
    ap (λ (l : List ℕ). l ++ (hex_digit_ascii (n % 10) ∷ [])) (front j n (n / 10) (omega arith) (omega (arith, pow-suc 10 j)) (in-front j n F))
    ∙ ap (λ (d : ℕ). digits_of n (n / 10) ++ (d ∷ [])) (glyph-is n)
  where
    in-front : (j n : ℕ) → IsDigitCount 10 1 n (suc j) → Least j (n / 10)
    in-front zero n F = tt
    in-front (suc j) n F =
        let e : suc (suc j) - 1 ≡ suc j = omega arith in
        let least : 10 ^ suc j ≤ n = subst (λ (z : ℕ). 10 ^ z ≤ n) e (F.2 (omega arith)) in
        omega (arith, pow-suc 10 j)

-- ---- 64 bits take 20 digits at most

twenty : (j : ℕ) → 10 ^ 20 ≤ 10 ^ (j + 20)
twenty zero = lit≤ tt
twenty (suc j) = rw (suc-add j 20, pow-suc 10 (j + 20)) (let h = twenty j in omega arith)

pub digits-few : (n k : ℕ) → n < 2 ^ 64 → IsDigitCount 10 1 n k → k ≤ 20
digits-few n k h F =
    on_test (leb k 20) (λ e. leb-true k 20 e)
    (λ e.
    let l = leb-false k 20 e in
    let z : k - 1 ≡ (k - 21) + 20 = omega arith in
    let m = subst (λ (i : ℕ). 10 ^ i ≤ n) z (F.2 (omega arith)) in
    let g : 2 ^ 64 < 10 ^ 20 = lit< tt in
    absurd (omega (arith, twenty (k - 21))))
