-- Values on the grid of multiples of 1/1024, of either sign: their sums, differences and comparisons are those of whole numbers.
use mathlib.Core.Path.{◌≡◌, sym, ap, ◌∙◌, subst}
use mathlib.Core.Logic.{inl, inr}
use mathlib.Core.Bool.{Bool, true, false, not, ◌||◌, cond, true≢false, false≢true}
use Prim.Native.Nat.{ℕ, ◌+◌, ◌-◌, ◌*◌, ◌^◌, ◌≤◌, ◌<◌}
use native.Mathlib.Nat.{le_of_eq, le_of_lt, lt_of_le_of_lt, mul_comm, mul_assoc, mul_right_comm, mul-pos, add-mul, mul-le-mul_right, le_of_mul-le-mul_right, mul-lt-mul_of_pos_right, lt_of_mul-lt-mul_right, eq_of_mul-eq-mul_right, eq-or-lt_of_le}
use native.Mathlib.Omega.{arith}
use lib.Dec.{T, leb, ltb, eqb, lit<, leb→le, le→leb, ltb→lt, lt→ltb, nltb→le, eqb→eq}
use lib.Ieee.{Float, nan, inf, fin, binary32, up, down, round, level, add, sub, neg, sum, lt, le, eq}
use lib.Ieee.Fits.{down_pos, eq→eqb, and_i, and_l, and_r}
use lib.Ieee.Exact.{HasValue}
use lib.Ieee.Scale.{round_same}
use mir.Facts.{or_yes}
use Rattle.floats.specs.Inner.Steps.{Steps}
use Rattle.floats.proofs.Tests.{and-true, same_test, same-ltb, same-eqb, or_left, or_right}
use Rattle.floats.proofs.Value.{round-exact-le}
use Rattle.floats.proofs.Sum.{sub-mul}

-- ---- n / 1024 is exact
small : (n : ℕ) → n ≤ 2 ^ 24 → n * 2 ^ 139 < 2 ^ 277
small n h = lt_of_le_of_lt (mul-le-mul_right (2 ^ 139) h) (lit< tt)

pub grid-value : (s : Bool) (n : ℕ) → n ≤ 2 ^ 24 → HasValue (round binary32 s n 1024) s n 1024
grid-value s n h = round-exact-le binary32 s n 1024 n 139 (lit< tt) h (small n h) (sym (mul_assoc n (2 ^ 139) 1024))

-- a fraction P / C that is n / 1024
pub round-grid : (s : Bool) (P C n : ℕ) → 0 < C → P * 1024 ≡ n * C → n ≤ 2 ^ 24 → HasValue (round binary32 s P C) s n 1024
round-grid s P C n c e h = subst (λ (x : Float). HasValue x s n 1024) (sym (round_same binary32 s P C n 1024 c (lit< tt) e)) (grid-value s n h)

-- ---- from a fraction to steps
net : (P C u v : ℕ) → 0 < C → P * 1024 + v * C ≡ u * C → (v ≤ u) × (P * 1024 ≡ (u - v) * C)
net P C u v c e =
    let o : v * C ≤ u * C = omega arith in
    (le_of_mul-le-mul_right o c, let q : (u - v) * C ≡ u * C - v * C = sub-mul u v C in omega arith)

pub pos-steps : (x : Float) (u v : ℕ) → v ≤ u → HasValue x false (u - v) 1024 → Steps x u v
pos-steps nan u v h w = w
pos-steps (inf s) u v h w = w
pos-steps (fin true m e) u v h w = absurd (true≢false w.0)
pos-steps (fin false m e) u v h w =
    let k : v * down e ≤ u * down e = mul-le-mul_right (down e) h in
    omega (arith, w.1, sub-mul u v (down e))

neg-steps : (x : Float) (u v : ℕ) → v ≤ u → HasValue x true (u - v) 1024 → Steps x v u
neg-steps nan u v h w = w
neg-steps (inf s) u v h w = w
neg-steps (fin false m e) u v h w = absurd (false≢true w.0)
neg-steps (fin true m e) u v h w =
    let k : v * down e ≤ u * down e = mul-le-mul_right (down e) h in
    omega (arith, w.1, sub-mul u v (down e))

round-pos : (P C u v : ℕ) → 0 < C → P * 1024 + v * C ≡ u * C → u ≤ v + 2 ^ 24 → Steps (round binary32 false P C) u v
round-pos P C u v c e h =
    let n = net P C u v c e in
    pos-steps (round binary32 false P C) u v n.0 (round-grid false P C (u - v) c n.1 (omega arith))

round-neg : (P C u v : ℕ) → 0 < C → P * 1024 + v * C ≡ u * C → u ≤ v + 2 ^ 24 → Steps (round binary32 true P C) v u
round-neg P C u v c e h =
    let n = net P C u v c e in
    neg-steps (round binary32 true P C) u v n.0 (round-grid true P C (u - v) c n.1 (omega arith))

-- ---- to a common denominator
spread : (M E D a b : ℕ) → M * 1024 + b * E ≡ a * E → M * D * 1024 + b * (E * D) ≡ a * (E * D)
spread M E D a b h =
    ap (λ (z : ℕ). z + b * (E * D)) (mul_right_comm M D 1024)
    ∙ ap (λ (z : ℕ). M * 1024 * D + z) (sym (mul_assoc b E D))
    ∙ sym (add-mul (M * 1024) (b * E) D)
    ∙ ap (λ (z : ℕ). z * D) h
    ∙ mul_assoc a E D

spread' : (N D E a b : ℕ) → N * 1024 + b * D ≡ a * D → N * E * 1024 + b * (E * D) ≡ a * (E * D)
spread' N D E a b h = subst (λ (z : ℕ). N * E * 1024 + b * z ≡ a * z) (mul_comm D E) (spread N D E a b h)

-- the four signs
module _ (A B C a b c d : ℕ) (pos-c : 0 < C) (up_room : a + c ≤ b + d + 2 ^ 24) (down-room : b + d ≤ a + c + 2 ^ 24) where
  abbrev Result : Float → Type 0
  Result x = Steps x (a + c) (b + d)

  ff : A * 1024 + b * C ≡ a * C → B * 1024 + d * C ≡ c * C → Result (sum binary32 false A false B C)
  unfolding sum
  ff h k = round-pos (A + B) C (a + c) (b + d) pos-c (omega (arith, add-mul a c C, add-mul b d C)) up_room

  tt' : A * 1024 + a * C ≡ b * C → B * 1024 + c * C ≡ d * C → Result (sum binary32 true A true B C)
  unfolding sum
  tt' h k = round-neg (A + B) C (b + d) (a + c) pos-c (omega (arith, add-mul a c C, add-mul b d C)) down-room

  ft : A * 1024 + b * C ≡ a * C → B * 1024 + c * C ≡ d * C → Result (sum binary32 false A true B C)
  unfolding sum
  ft h k = go (ltb A B) (ltb→lt A B) (nltb→le A B)
    where
      go : (t : Bool) → (T t → A < B) → (T (not t) → B ≤ A) → Result (cond t (round binary32 true (B - A) C) (round binary32 false (A - B) C))
      go true p q = let l = p tt in round-neg (B - A) C (b + d) (a + c) pos-c (omega (arith, add-mul a c C, add-mul b d C)) down-room
      go false p q = let l = q tt in round-pos (A - B) C (a + c) (b + d) pos-c (omega (arith, add-mul a c C, add-mul b d C)) up_room

  tf : A * 1024 + a * C ≡ b * C → B * 1024 + d * C ≡ c * C → Result (sum binary32 true A false B C)
  unfolding sum
  tf h k = go (ltb A B) (ltb B A) (ltb→lt A B) (nltb→le A B) (ltb→lt B A) (nltb→le B A)
    where
      go : (t r : Bool) → (T t → A < B) → (T (not t) → B ≤ A) → (T r → B < A) → (T (not r) → A ≤ B) → Result (cond t (round binary32 false (B - A) C) (round binary32 r (A - B) C))
      go true r p q p' q' = let l = p tt in round-pos (B - A) C (a + c) (b + d) pos-c (omega (arith, add-mul a c C, add-mul b d C)) up_room
      go false true p q p' q' = let l = q tt in round-neg (A - B) C (b + d) (a + c) pos-c (omega (arith, add-mul a c C, add-mul b d C)) down-room
      go false false p q p' q' =
          let l = q tt in
          let l' = q' tt in
          round-pos (A - B) C (a + c) (b + d) pos-c (omega (arith, add-mul a c C, add-mul b d C)) up_room

pub steps-add : (x y : Float) (a b c d : ℕ) → Steps x a b → Steps y c d → a + c ≤ b + d + 2 ^ 24 → b + d ≤ a + c + 2 ^ 24 → Steps (add binary32 x y) (a + c) (b + d)
unfolding add
steps-add nan y a b c d h k r s = absurd h
steps-add (inf t) y a b c d h k r s = absurd h
steps-add (fin t m e) nan a b c d h k r s = absurd k
steps-add (fin t m e) (inf u) a b c d h k r s = absurd k
steps-add (fin false m e) (fin false n g) a b c d h k r s =
    ff (m * up e * down g) (n * up g * down e) (down e * down g) a b c d (mul-pos (down_pos e) (down_pos g)) r s (spread (m * up e) (down e) (down g) a b h) (spread' (n * up g) (down g) (down e) c d k)
steps-add (fin false m e) (fin true n g) a b c d h k r s =
    ft (m * up e * down g) (n * up g * down e) (down e * down g) a b c d (mul-pos (down_pos e) (down_pos g)) r s (spread (m * up e) (down e) (down g) a b h) (spread' (n * up g) (down g) (down e) d c k)
steps-add (fin true m e) (fin false n g) a b c d h k r s =
    tf (m * up e * down g) (n * up g * down e) (down e * down g) a b c d (mul-pos (down_pos e) (down_pos g)) r s (spread (m * up e) (down e) (down g) b a h) (spread' (n * up g) (down g) (down e) c d k)
steps-add (fin true m e) (fin true n g) a b c d h k r s =
    tt' (m * up e * down g) (n * up g * down e) (down e * down g) a b c d (mul-pos (down_pos e) (down_pos g)) r s (spread (m * up e) (down e) (down g) b a h) (spread' (n * up g) (down g) (down e) d c k)

pub steps-neg : (x : Float) (a b : ℕ) → Steps x a b → Steps (neg x) b a
unfolding neg
steps-neg nan a b h = h
steps-neg (inf s) a b h = h
steps-neg (fin false m e) a b h = h
steps-neg (fin true m e) a b h = h

pub steps-sub : (x y : Float) (a b c d : ℕ) → Steps x a b → Steps y c d → a + d ≤ b + c + 2 ^ 24 → b + c ≤ a + d + 2 ^ 24 → Steps (sub binary32 x y) (a + d) (b + c)
unfolding sub
steps-sub x y a b c d h k r s = steps-add x (neg y) a b d c h (steps-neg y c d k) r s

-- ---- comparisons
module _ (A B C a b c d : ℕ) (C+ : 0 < C) where
  up_lt : a + d < c + b → a * C + d * C < c * C + b * C
  up_lt h = omega (arith, mul-lt-mul_of_pos_right h C+, add-mul a d C, add-mul c b C)

  down_lt : a * C + d * C < c * C + b * C → a + d < c + b
  down_lt h = let g : (a + d) * C < (c + b) * C = omega (arith, add-mul a d C, add-mul c b C) in lt_of_mul-lt-mul_right C g

  up-eq : a + d ≡ c + b → a * C + d * C ≡ c * C + b * C
  up-eq h = sym (add-mul a d C) ∙ ap (λ (z : ℕ). z * C) h ∙ add-mul c b C

  down-eq : a * C + d * C ≡ c * C + b * C → a + d ≡ c + b
  down-eq h = eq_of_mul-eq-mul_right C C+ (a + d) (c + b) (add-mul a d C ∙ h ∙ sym (add-mul c b C))

  lt-ff : A * 1024 + b * C ≡ a * C → B * 1024 + d * C ≡ c * C → ltb A B ≡ ltb (a + d) (c + b)
  lt-ff h k = same-ltb A B (a + d) (c + b) (λ l. down_lt (omega arith)) (λ l. let g = up_lt l in omega arith)

  lt-ft : A * 1024 + b * C ≡ a * C → B * 1024 + c * C ≡ d * C → false ≡ ltb (a + d) (c + b)
  lt-ft h k = same_test false (ltb (a + d) (c + b)) (λ t. absurd t) (λ t. let g = up_lt (ltb→lt (a + d) (c + b) t) in absurd (omega arith))

  lt-tf : A * 1024 + a * C ≡ b * C → B * 1024 + d * C ≡ c * C → ltb 0 (A + B) ≡ ltb (a + d) (c + b)
  lt-tf h k = same-ltb 0 (A + B) (a + d) (c + b) (λ l. down_lt (omega arith)) (λ l. let g = up_lt l in omega arith)

  lt-tt : A * 1024 + a * C ≡ b * C → B * 1024 + c * C ≡ d * C → ltb B A ≡ ltb (a + d) (c + b)
  lt-tt h k = same-ltb B A (a + d) (c + b) (λ l. down_lt (omega arith)) (λ l. let g = up_lt l in omega arith)

  eq-same : A * 1024 + b * C ≡ a * C → B * 1024 + d * C ≡ c * C → level false A false B ≡ eqb (a + d) (c + b)
  eq-same h k = and-true (eqb A B) ∙ same-eqb A B (a + d) (c + b) (λ l. down-eq (omega arith)) (λ l. let g = up-eq l in omega arith)

  eq-tt : A * 1024 + a * C ≡ b * C → B * 1024 + c * C ≡ d * C → level true A true B ≡ eqb (a + d) (c + b)
  eq-tt h k = and-true (eqb A B) ∙ same-eqb A B (a + d) (c + b) (λ l. down-eq (omega arith)) (λ l. let g = up-eq l in omega arith)

  -- of unlike signs they are equal only where both are zero
  eq-ft : A * 1024 + b * C ≡ a * C → B * 1024 + c * C ≡ d * C → level false A true B ≡ eqb (a + d) (c + b)
  eq-ft h k = same_test (level false A true B) (eqb (a + d) (c + b))
      (λ t. let p = eqb→eq A B (and_l (eqb A B) (eqb A 0) t) in let q = eqb→eq A 0 (and_r (eqb A B) (eqb A 0) t) in eq→eqb (down-eq (omega arith)))
      (λ t. let g = up-eq (eqb→eq (a + d) (c + b) t) in and_i (eqb A B) (eqb A 0) (eq→eqb {a = A} {b = B} (omega arith)) (eq→eqb {a = A} {b = 0} (omega arith)))

  eq-tf : A * 1024 + a * C ≡ b * C → B * 1024 + d * C ≡ c * C → level true A false B ≡ eqb (a + d) (c + b)
  eq-tf h k = same_test (level true A false B) (eqb (a + d) (c + b))
      (λ t. let p = eqb→eq A B (and_l (eqb A B) (eqb A 0) t) in let q = eqb→eq A 0 (and_r (eqb A B) (eqb A 0) t) in eq→eqb (down-eq (omega arith)))
      (λ t. let g = up-eq (eqb→eq (a + d) (c + b) t) in and_i (eqb A B) (eqb A 0) (eq→eqb {a = A} {b = B} (omega arith)) (eq→eqb {a = A} {b = 0} (omega arith)))

pub steps-lt : (x y : Float) (a b c d : ℕ) → Steps x a b → Steps y c d → lt x y ≡ ltb (a + d) (c + b)
unfolding lt
steps-lt nan y a b c d h k = absurd h
steps-lt (inf t) y a b c d h k = absurd h
steps-lt (fin t m e) nan a b c d h k = absurd k
steps-lt (fin t m e) (inf u) a b c d h k = absurd k
steps-lt (fin false m e) (fin false n g) a b c d h k =
    lt-ff (m * up e * down g) (n * up g * down e) (down e * down g) a b c d (mul-pos (down_pos e) (down_pos g)) (spread (m * up e) (down e) (down g) a b h) (spread' (n * up g) (down g) (down e) c d k)
steps-lt (fin false m e) (fin true n g) a b c d h k =
    lt-ft (m * up e * down g) (n * up g * down e) (down e * down g) a b c d (mul-pos (down_pos e) (down_pos g)) (spread (m * up e) (down e) (down g) a b h) (spread' (n * up g) (down g) (down e) d c k)
steps-lt (fin true m e) (fin false n g) a b c d h k =
    lt-tf (m * up e * down g) (n * up g * down e) (down e * down g) a b c d (mul-pos (down_pos e) (down_pos g)) (spread (m * up e) (down e) (down g) b a h) (spread' (n * up g) (down g) (down e) c d k)
steps-lt (fin true m e) (fin true n g) a b c d h k =
    lt-tt (m * up e * down g) (n * up g * down e) (down e * down g) a b c d (mul-pos (down_pos e) (down_pos g)) (spread (m * up e) (down e) (down g) b a h) (spread' (n * up g) (down g) (down e) d c k)

pub steps-eq : (x y : Float) (a b c d : ℕ) → Steps x a b → Steps y c d → eq x y ≡ eqb (a + d) (c + b)
unfolding eq
steps-eq nan y a b c d h k = absurd h
steps-eq (inf t) y a b c d h k = absurd h
steps-eq (fin t m e) nan a b c d h k = absurd k
steps-eq (fin t m e) (inf u) a b c d h k = absurd k
steps-eq (fin false m e) (fin false n g) a b c d h k =
    eq-same (m * up e * down g) (n * up g * down e) (down e * down g) a b c d (mul-pos (down_pos e) (down_pos g)) (spread (m * up e) (down e) (down g) a b h) (spread' (n * up g) (down g) (down e) c d k)
steps-eq (fin false m e) (fin true n g) a b c d h k =
    eq-ft (m * up e * down g) (n * up g * down e) (down e * down g) a b c d (mul-pos (down_pos e) (down_pos g)) (spread (m * up e) (down e) (down g) a b h) (spread' (n * up g) (down g) (down e) d c k)
steps-eq (fin true m e) (fin false n g) a b c d h k =
    eq-tf (m * up e * down g) (n * up g * down e) (down e * down g) a b c d (mul-pos (down_pos e) (down_pos g)) (spread (m * up e) (down e) (down g) b a h) (spread' (n * up g) (down g) (down e) c d k)
steps-eq (fin true m e) (fin true n g) a b c d h k =
    eq-tt (m * up e * down g) (n * up g * down e) (down e * down g) a b c d (mul-pos (down_pos e) (down_pos g)) (spread (m * up e) (down e) (down g) b a h) (spread' (n * up g) (down g) (down e) d c k)

either-leb : (p q : ℕ) → (ltb p q || eqb p q) ≡ leb p q
either-leb p q = same_test (ltb p q || eqb p q) (leb p q)
    (λ t. elim (or_yes (ltb p q) (eqb p q) t) [ inl u ↦ le→leb p q (le_of_lt (ltb→lt p q u)) | inr u ↦ le→leb p q (le_of_eq (eqb→eq p q u)) ])
    (λ t. elim (eq-or-lt_of_le (leb→le p q t)) [ inl e ↦ or_right (ltb p q) (eqb p q) (eq→eqb e) | inr l ↦ or_left (ltb p q) (eqb p q) (lt→ltb p q l) ])

pub steps-le : (x y : Float) (a b c d : ℕ) → Steps x a b → Steps y c d → le x y ≡ leb (a + d) (c + b)
unfolding le
steps-le x y a b c d h k = ap (λ (t : Bool). t || eq x y) (steps-lt x y a b c d h k) ∙ ap (λ (t : Bool). ltb (a + d) (c + b) || t) (steps-eq x y a b c d h k) ∙ either-leb (a + d) (c + b)
