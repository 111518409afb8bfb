-- Sums and differences of two finite values of clear sign, at one denominator: rounded once.
use mathlib.Core.Path.{◌≡◌, sym, ap, ◌∙◌}
use mathlib.Core.Bool.{Bool, true, false, cond, true≢false}
use Prim.Native.Nat.{ℕ, ◌+◌, ◌-◌, ◌*◌, ◌≤◌, ◌<◌}
use native.Mathlib.Nat.{le_trans, le_of_eq, mul_comm, mul_assoc, mul_right_comm, mul-pos, add-mul, mul-sub, mul-le-mul_right, mul-lt-mul_of_pos_right, not-le_of_lt}
use lib.Dec.{T, ltb, ltb→lt}
use lib.Ieee.{Float, nan, inf, fin, Format, up, down, round, add, sub, neg, sum}
use lib.Ieee.Fits.{down_pos}
use lib.Ieee.Exact.{HasValue}
use lib.Ieee.Scale.{round_same}

pub sub-mul : (u v C : ℕ) → (u - v) * C ≡ u * C - v * C
sub-mul u v C = mul_comm (u - v) C ∙ mul-sub C u v ∙ ap (λ (z : ℕ). z - C * v) (mul_comm C u) ∙ ap (λ (z : ℕ). u * C - z) (mul_comm C v)

-- a fraction at another denominator
share : (M E D a c : ℕ) → M * c ≡ a * E → M * D * c ≡ a * (E * D)
share M E D a c h = mul_right_comm M D c ∙ ap (λ (z : ℕ). z * D) h ∙ mul_assoc a E D

share' : (N D E b c : ℕ) → N * c ≡ b * D → N * E * c ≡ b * (E * D)
share' N D E b c h = share N D E b c h ∙ ap (λ (z : ℕ). b * z) (mul_comm D E)

pub add_at : (f : Format) (x y : Float) (a b c : ℕ) → 0 < c → HasValue x false a c → HasValue y false b c → add f x y ≡ round f false (a + b) c
unfolding add sum
add_at f nan y a b c C h k = absurd h
add_at f (inf s) y a b c C h k = absurd h
add_at f (fin true m e) y a b c C h k = absurd (true≢false h.0)
add_at f (fin false m e) nan a b c C h k = absurd k
add_at f (fin false m e) (inf s) a b c C h k = absurd k
add_at f (fin false m e) (fin true n d) a b c C h k = absurd (true≢false k.0)
add_at f (fin false m e) (fin false n d) a b c C h k =
    let A = m * up e * down d in
    let B = n * up d * down e in
    let E = down e * down d in
    round_same f false (A + B) E (a + b) c (mul-pos (down_pos e) (down_pos d)) C
    (add-mul A B c ∙ ap (λ (z : ℕ). z + B * c) (share (m * up e) (down e) (down d) a c h.1) ∙ ap (λ (z : ℕ). a * E + z) (share' (n * up d) (down d) (down e) b c k.1) ∙ sym (add-mul a b E))

diff-at : (f : Format) (A B E a b c : ℕ) → 0 < E → 0 < c → A * c ≡ a * E → B * c ≡ b * E → b ≤ a → sum f false A true B E ≡ round f false (a - b) c
unfolding sum
diff-at f A B E a b c E+ C p q l = go (ltb A B) (ltb→lt A B)
  where
    go : (t : Bool) → (T t → A < B) → cond t (round f true (B - A) E) (round f false (A - B) E) ≡ round f false (a - b) c
    go true w = absurd (not-le_of_lt (mul-lt-mul_of_pos_right (w tt) C) (le_trans (le_of_eq q) (le_trans (mul-le-mul_right E l) (le_of_eq (sym p)))))
    go false w = round_same f false (A - B) E (a - b) c E+ C (sub-mul A B c ∙ ap (λ (z : ℕ). z - B * c) p ∙ ap (λ (z : ℕ). a * E - z) q ∙ sym (sub-mul a b E))

pub sub_at : (f : Format) (x y : Float) (a b c : ℕ) → 0 < c → HasValue x false a c → HasValue y false b c → b ≤ a → sub f x y ≡ round f false (a - b) c
unfolding sub add sum neg
sub_at f nan y a b c C h k l = absurd h
sub_at f (inf s) y a b c C h k l = absurd h
sub_at f (fin true m e) y a b c C h k l = absurd (true≢false h.0)
sub_at f (fin false m e) nan a b c C h k l = absurd k
sub_at f (fin false m e) (inf s) a b c C h k l = absurd k
sub_at f (fin false m e) (fin true n d) a b c C h k l = absurd (true≢false k.0)
sub_at f (fin false m e) (fin false n d) a b c C h k l =
    diff-at f (m * up e * down d) (n * up d * down e) (down e * down d) a b c (mul-pos (down_pos e) (down_pos d)) C
    (share (m * up e) (down e) (down d) a c h.1) (share' (n * up d) (down d) (down e) b c k.1) l
