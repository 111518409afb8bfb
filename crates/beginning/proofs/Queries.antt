-- What an accepted file and a query that was let through give: the header, the lists that are named, how many they are.
use mathlib.Core.Path.{◌≡◌, sym, subst}
use mathlib.Core.List.{List, [], ◌∷◌}
use Prim.Native.Nat.{ℕ, suc, ◌≤◌, ◌<◌}
use native.Mathlib.Omega.{arith}
use lib.ListN.{length, get_or}
use Rattle.arrays.specs.Every.{All}
use Rattle.route.specs.Inner.Rules.{Takes}
use Rattle.route.specs.Inner.Lists.{ListOk}
use Rattle.bm25.specs.declared.Scoring.{Scoring}
use Rattle.notefile.specs.Header.{list_count, documents}
use Rattle.notefile.specs.Parts.{part_of}
use Rattle.notefile.specs.Refusal.{file_refusal}
use Rattle.notefile.specs.Inner.Structs.{header_of}
use Rattle.notefile.specs.Inner.Given.{HeaderIn}
use Rattle.notefile.specs.declared.header.Header.{Header}
use Rattle.notefile.proofs.Accepted.{header-inside, header-right, list-accepted}
use Rattle.notefile.proofs.Headers.{few-documents}
use Rattle.decoded.specs.Lists.{queried}
use Rattle.decoded.proofs.AcceptedLists.{list-ok}
use Rattle.request.specs.Request.{mode_of}
use Rattle.request.specs.declared.Mode.{Mode}
use Rattle.request.specs.declared.Mode.TheVariants.{Intersection, Single}

-- the header read is the file's
pub header_of_lem : (file : List ℕ) → file_refusal file ≡ 0 → {h : Header} → h ≡ header_of file → HeaderIn file h
header_of_lem file accepted e = subst (HeaderIn file) (sym e) (header-inside file accepted)

-- every list that a query names has the laws that the route's end asks
pub all-ok : (scoring : Scoring) (file : List ℕ) → file_refusal file ≡ 0 → (query : List ℕ) → ((q : ℕ) → q < length query → get_or query q 0 < list_count file) → All (ListOk 128 (documents file)) (queried scoring file query)
unfolding queried
all-ok scoring file accepted [] named = tt
all-ok scoring file accepted (l ∷ ls) named =
    (list-ok scoring file (part_of file l) (list-accepted file accepted l (named 0 (omega arith))) (few-documents file (header-right file accepted)), all-ok scoring file accepted ls (λ q h. named (suc q) (omega arith)))

-- how many numbers a query has, by its mode
pub two-numbers : {mode : Mode} {n : ℕ} → mode ≡ Intersection → Takes (mode_of mode) n → 2 ≤ n
two-numbers {mode} {n} e t = subst (λ (z : Mode). Takes (mode_of z) n) e t

pub one_number : {mode : Mode} {n : ℕ} → mode ≡ Single → Takes (mode_of mode) n → n ≡ 1
one_number {mode} {n} e t = subst (λ (z : Mode). Takes (mode_of z) n) e t
