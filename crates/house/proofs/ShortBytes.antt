-- The shortest VInt of a number consists of bytes.
use mathlib.Core.Path.{sym, subst}
use mathlib.Core.List.{List, [], ◌∷◌}
use mathlib.Core.Logic.{⊎_elim}
use Prim.Native.Nat.{ℕ, zero, suc, ◌+◌, ◌/◌, ◌%◌, ◌<◌}
use native.Mathlib.Omega.{arith}
use lib.ListN.{get_or}
use Rattle.arrays.proofs.Order.{lt-or-ge}
use Rattle.encode.specs.ShortVInt.{short_from, short_vint}
use Rattle.encode.proofs.ShortVInts.{short-last, short-more}

-- a byte in front of bytes
in-front : (b : ℕ) (l : List ℕ) → b < 256 → ((i : ℕ) → get_or l i 0 < 256) → (i : ℕ) → get_or (b ∷ l) i 0 < 256
in-front b l h a zero = h
in-front b l h a (suc i) = a i

none : (i : ℕ) → get_or {A = ℕ} [] i 0 < 256
none i = omega arith

from_bytes : (n v i : ℕ) → get_or (short_from n v) i 0 < 256
unfolding short_from
from_bytes zero v i = none i
from_bytes (suc n) v i = ⊎_elim
    (λ h. subst (λ (l : List ℕ). get_or l i 0 < 256) (sym (short-last n v h)) (in-front (v + 128) [] (omega arith) none i))
    (λ h. subst (λ (l : List ℕ). get_or l i 0 < 256) (sym (short-more n v h))
    (in-front (v % 128) (short_from n (v / 128)) (omega arith) (from_bytes n (v / 128)) i))
    (lt-or-ge v 128)

pub short-bytes : (v i : ℕ) → get_or (short_vint v) i 0 < 256
unfolding short_vint
short-bytes v i = from_bytes 5 v i
