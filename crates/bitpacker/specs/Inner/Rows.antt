-- What unpacking carries and leaves, a row of four lanes at a time.
use Rattle.std.specs.Prelude.{◌≡◌, List, ℕ, zero, suc, ◌+◌, ◌-◌, ◌*◌, ◌/◌, ◌%◌, ◌^◌, ◌≤◌, ◌<◌, length, get_or, set}
use Rattle.std.specs.Int.Bits.{bit_and}
use Rattle.codec.specs.Bits.{word_at}
use Rattle.bitpacker.specs.Packed.{lane_at, lane_of, bit_place, packed_at}
use Rattle.bitpacker.specs.declared.Four.{Four}
use Rattle.bitpacker.specs.declared.BitPlace.{BitPlace}

-- a list that holds the block's first n values
pub record First (s : List ℕ) (p w n : ℕ) (out : List ℕ) : Type 0 where
  pub long : length out ≡ 128
  pub values : (i : ℕ) → i < n → get_or out i 0 ≡ packed_at s p w i

-- and one that holds all 128
abbrev pub Unpacked : List ℕ → ℕ → ℕ → List ℕ → Type 0
Unpacked s p w = First s p w 128

-- a block of a width from 1 to 31 inside the bytes
pub record InBytes (bytes at w : ℕ) : Type 0 where
  pub some : 0 < w
  pub narrow : w < 32
  pub inside : at + 16 * w ≤ bytes

-- a lane's number
abbrev pub in_lane : Four → ℕ → ℕ
in_lane x zero = x.a
in_lane x (suc zero) = x.b
in_lane x (suc (suc zero)) = x.c
in_lane x (suc (suc (suc n))) = x.d

-- each lane's number is what f has of the lane
pub record EachLane (f : ℕ → ℕ) (x : Four) : Type 0 where
  pub lane0 : x.a ≡ f 0
  pub lane1 : x.b ≡ f 1
  pub lane2 : x.c ≡ f 2
  pub lane3 : x.d ≡ f 3

-- a row of four written from i on
abbrev pub set_four : List ℕ → ℕ → (ℕ → ℕ) → List ℕ
set_four out i f = set (set (set (set out i (f 0)) (i + 1) (f 1)) (i + 2) (f 2)) (i + 3) (f 3)

-- what is carried to the row of value i is right: value i + n has lane n, and its bit place is all bits of the words before `next`
-- but for those left, which the lane's number is
pub record Carried (s : List ℕ) (at w i : ℕ) (place : BitPlace) : Type 0 where
  pub words : ℕ
  pub inside : words ≤ w
  pub next : place.next ≡ at + 16 * words
  pub lane : (n : ℕ) → n < 4 → lane_of (i + n) ≡ n
  pub bits : (n : ℕ) → n < 4 → bit_place w (i + n) + place.left ≡ 32 * words
  pub rest : (n : ℕ) → n < 4 → in_lane place.rest n ≡ lane_at words s (at + 4 * n) / 2 ^ bit_place w (i + n)

-- the next words lie inside the bytes, and above the bits left there is nothing
pub record InNext (bytes : ℕ) (place : BitPlace) : Type 0 where
  pub inside : place.next + 16 ≤ bytes
  pub low : (n : ℕ) → in_lane place.rest n < 2 ^ place.left

-- a row taken from the bits left
pub record Whole (from : BitPlace) (w mask i : ℕ) (old new : List ℕ) (to : BitPlace) : Type 0 where
  pub row : new ≡ set_four old i (λ n. bit_and (in_lane from.rest n) mask)
  pub rest : EachLane (λ n. in_lane from.rest n / 2 ^ w) to.rest
  pub left : to.left ≡ from.left - w
  pub next : to.next ≡ from.next

-- a row taken from the bits left and from the next words above them
pub record Across (s : List ℕ) (from : BitPlace) (w mask i : ℕ) (old new : List ℕ) (to : BitPlace) : Type 0 where
  pub words : Four
  pub taken : Four
  pub read : EachLane (λ n. word_at s (from.next + 4 * n)) words
  pub joins : EachLane (λ n. (in_lane from.rest n + 2 ^ from.left * in_lane words n) % 2 ^ 32) taken
  pub row : new ≡ set_four old i (λ n. bit_and (in_lane taken n) mask)
  pub rest : EachLane (λ n. in_lane words n / 2 ^ (w - from.left)) to.rest
  pub left : to.left ≡ 32 - (w - from.left)
  pub next : to.next ≡ from.next + 16
