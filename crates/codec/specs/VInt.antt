-- A VInt, as a tail has it: each byte carries seven bits, lowest first, and the last is marked by its high bit. Refusal 6 of the table
-- allows 5 bytes, and values of 32 bits.
use Rattle.std.specs.Prelude.{List, Bool, true, false, cond, ℕ, zero, suc, ◌+◌, ◌-◌, ◌*◌, ltb, get_or, Option, Some, None}

-- seven low bits, and the number that follows them
abbrev pub more : ℕ → Option (ℕ × ℕ) → Option (ℕ × ℕ)
more b (Some (v, next)) = Some (b + 128 * v, next)
more b None = None

-- the VInt at place p of the bytes below e, of at most n bytes: its value and the place after it
unfoldable pub vint_from : ℕ → List ℕ → ℕ → ℕ → Option (ℕ × ℕ)
vint_from zero s e p = None
vint_from (suc n) s e p =
    cond (ltb p e)
    (cond (ltb (get_or s p 0) 128) (more (get_or s p 0) (vint_from n s e (p + 1))) (Some (get_or s p 0 - 128, p + 1)))
    None

-- none over 4,294,967,295
abbrev pub capped : Option (ℕ × ℕ) → Option (ℕ × ℕ)
capped (Some (v, next)) = cond (ltb v 4294967296) (Some (v, next)) None
capped None = None

-- none over 5 bytes
unfoldable pub vint_at : List ℕ → ℕ → ℕ → Option (ℕ × ℕ)
unfolding vint_from
vint_at s e p = capped (vint_from 5 s e p)

-- whether it is whole; its value; the place after it, or its own if it is broken
abbrev pub whole : Option (ℕ × ℕ) → Bool
whole (Some (v, next)) = true
whole None = false

abbrev pub value_of : Option (ℕ × ℕ) → ℕ
value_of (Some (v, next)) = v
value_of None = 0

abbrev pub next_of : ℕ → Option (ℕ × ℕ) → ℕ
next_of p (Some (v, next)) = next
next_of p None = p
