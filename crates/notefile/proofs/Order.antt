-- The first refusal of tests one after another: the first part's, or else the second's.
use mathlib.Core.Path.{◌≡◌, refl}
use mathlib.Core.Bool.{true, false}
use mathlib.Core.List.{List, [], ◌∷◌, ◌++◌}
use Prim.Native.Nat.{ℕ, zero, suc, ◌≤◌, ◌<◌}
use native.Mathlib.Omega.{arith}
use lib.Dec.{lit<, lit≤}
use Rattle.notefile.specs.Header.{list_count}
use Rattle.notefile.specs.Parts.{part_of}
use Rattle.notefile.specs.Refusal.{Test, test, first_refusal, list_tests, lists_tests, file_tests, file_refusal}
use Rattle.notefile.specs.Inner.Order.{or_else, list_refusal, lists_refusal}
use Rattle.notefile.specs.declared.part.Part.{Part}

-- every number is from 1 to m
abbrev pub Numbered : ℕ → List Test → Type 0
Numbered m [] = Unit {0}
Numbered m (test n right ∷ ts) = (0 < n) × (n ≤ m) × Numbered m ts

pub numbered-append : (m : ℕ) (a b : List Test) → Numbered m a → Numbered m b → Numbered m (a ++ b)
numbered-append m [] b h k = k
numbered-append m (test n right ∷ ts) b h k = (h.0, h.1, numbered-append m ts b h.2 k)

pub first-append : (m : ℕ) (a b : List Test) → Numbered m a → first_refusal (a ++ b) ≡ or_else (first_refusal a) (first_refusal b)
first-append m [] b h = refl
first-append m (test n true ∷ ts) b h = first-append m ts b h.2
first-append m (test zero false ∷ ts) b h = absurd (omega (arith, h.0))
first-append m (test (suc n) false ∷ ts) b h = refl

pub first_below : (m : ℕ) (ts : List Test) → Numbered m ts → first_refusal ts ≤ m
first_below m [] h = omega arith
first_below m (test n true ∷ ts) h = first_below m ts h.2
first_below m (test n false ∷ ts) h = h.1

-- ---- the file's tests

module _ (file : List ℕ) where
  list-numbered : (x : Part) → Numbered 9 (list_tests file x)
  list-numbered x = (lit< tt, lit≤ tt, (lit< tt, lit≤ tt, (lit< tt, lit≤ tt, (lit< tt, lit≤ tt, (lit< tt, lit≤ tt, tt)))))

  lists-numbered : (n : ℕ) → Numbered 9 (lists_tests file n)
  unfolding lists_tests
  lists-numbered zero = tt
  lists-numbered (suc l) = numbered-append 9 (lists_tests file l) (list_tests file (part_of file l)) (lists-numbered l) (list-numbered (part_of file l))

  pub file-numbered : Numbered 9 (file_tests file)
  unfolding file_tests
  file-numbered = (lit< tt, lit≤ tt, (lit< tt, lit≤ tt, (lit< tt, lit≤ tt, (lit< tt, lit≤ tt, lists-numbered (list_count file)))))

  -- no file is refused for more than 9
  pub file-below : file_refusal file ≤ 9
  unfolding file_refusal
  file-below = first_below 9 (file_tests file) file-numbered

  -- one list more
  pub lists-next : (l : ℕ) → lists_refusal file (suc l) ≡ or_else (lists_refusal file l) (list_refusal file (part_of file l))
  unfolding lists_refusal
  lists-next l = first-append 9 (lists_tests file l) (list_tests file (part_of file l)) (lists-numbered l)
