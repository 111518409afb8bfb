-- A decoded block's two arrays, written one after the other.
use mathlib.Core.Path.{◌≡◌, ◌∙◌}
use mathlib.Core.List.{List, []}
use Prim.Native.Nat.{ℕ}
use native.Mathlib.Omega.{arith}
use lib.ListN.{length, set, length-set}
use lib.Seq.{get_or-set_same, get_or-set_other}
use Rattle.notefile.specs.Inner.Reads.{docs_of, freqs_of}

module _ (b : List (List ℕ)) (two : length b ≡ 2) where
  pub new-docs : (docs : List ℕ) → docs_of (set b 0 docs) ≡ docs
  new-docs docs = get_or-set_same b 0 docs [] (omega (arith, two))

  pub new-freqs : (freqs : List ℕ) → freqs_of (set b 1 freqs) ≡ freqs
  new-freqs freqs = get_or-set_same b 1 freqs [] (omega (arith, two))

  pub two-still : (i : ℕ) (xs : List ℕ) → length (set b i xs) ≡ 2
  two-still i xs = length-set b i xs ∙ two

pub old-freqs : (b : List (List ℕ)) (docs : List ℕ) → freqs_of (set b 0 docs) ≡ freqs_of b
old-freqs b docs = get_or-set_other b 0 1 docs [] (λ (e : 1 ≡ 0). omega arith)

pub old-docs : (b : List (List ℕ)) (freqs : List ℕ) → docs_of (set b 1 freqs) ≡ docs_of b
old-docs b freqs = get_or-set_other b 1 0 freqs [] (λ (e : 0 ≡ 1). omega arith)
