-- A frequency's code is a byte; the reader takes it for the frequency up to 254, and for 4,294,967,295 above.
use mathlib.Core.Path.{◌≡◌, ap, ◌∙◌}
use mathlib.Core.Logic.{⊎_elim}
use mathlib.Core.Bool.{Bool, cond}
use Prim.Native.Nat.{ℕ, ◌^◌, ◌≤◌, ◌<◌}
use native.Mathlib.Omega.{arith}
use borrow.Author.Tests.{le-leb, lt-leb, ne_eqb}
use Rattle.arrays.proofs.Order.{lt-or-ge}
use Rattle.bm25.specs.Bound.{max_tf}
use Rattle.bm25_pair.specs.Pair.{freq_code}

pub code-low : (f : ℕ) → f ≤ 254 → freq_code f ≡ f
code-low f h = ap (λ (b : Bool). cond b f 255) (le-leb f 254 h)

pub code-high : (f : ℕ) → 254 < f → freq_code f ≡ 255
code-high f h = ap (λ (b : Bool). cond b f 255) (lt-leb f 254 h)

pub code-byte : (f : ℕ) → freq_code f < 256
code-byte f = ⊎_elim
    (λ l. let e = code-high f l in omega arith)
    (λ l. let e = code-low f l in omega arith) (lt-or-ge 254 f)

pub read_low : (f : ℕ) → f ≤ 254 → max_tf (freq_code f) ≡ f
read_low f h =
    ap max_tf (code-low f h)
    ∙ ap (λ (b : Bool). cond b 4294967295 f) (ne_eqb f 255 (λ e. omega arith))

pub read-high : (f : ℕ) → 254 < f → max_tf (freq_code f) ≡ 4294967295
read-high f h = ap max_tf (code-high f h)

pub read_small : (f : ℕ) → max_tf (freq_code f) < 2 ^ 32
read_small f = ⊎_elim
    (λ l. let e = read-high f l in omega arith)
    (λ l. let e = read_low f l in omega arith) (lt-or-ge 254 f)
