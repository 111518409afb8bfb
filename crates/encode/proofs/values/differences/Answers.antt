-- `encode::values::differences` meets its contract. The loop's invariant (`Taking`, whatever stood in the array before the first was
-- taken): i differences are taken.
use mathlib.Core.Path.{◌≡◌, refl, ap}
use mathlib.Core.List.{List}
use mathlib.Core.Bool.{Bool}
use Prim.Native.Nat.{ℕ, ◌+◌, ◌-◌, ◌<◌}
use native.Mathlib.Omega.{arith}
use lib.ListN.{get_or, length, set}
use Rattle.compression.specs.Documents.{start_of}
use Rattle.encode.specs.Inner.Fronted.{Rising}
use Rattle.encode.proofs.Differing.{Taking, begun, goes_on, all-taken}
use Rattle.encode.proofs.values.differences.Goals as goal
use Rattle.encode.proofs.values.differences.Goals.{In-loop-i}

-- the documents, from the place on
abbrev docs_of : List ℕ → ℕ → ℕ → ℕ
docs_of docs from k = get_or docs (from + k) 0

-- the first document, as it is read
first_doc : (docs : List ℕ) (from : ℕ) → get_or docs from 0 ≡ docs_of docs from 0
first_doc docs from = ap (λ (k : ℕ). get_or docs k 0) (omega arith)

-- what is taken before the first turn
taken : (docs : List ℕ) (from : ℕ) {out : List ℕ} {n previous v : ℕ} {strict first : Bool} → Rising (docs_of docs from) strict first previous n → 0 < n
    → length out ≡ 128 → v ≡ start_of strict previous first
    → Taking (docs_of docs from) strict first previous n out (set out 0 (get_or docs from 0 - v)) 1
taken docs from {out} {n} {previous} {v} {strict} {first} R some long e =
    begun (docs_of docs from) strict first previous n R some out long (first_doc docs from) e

so_far : (m : In-loop-i) → let a = m.args in
    Taking (docs_of a.docs.now a.from) a.strict a.first a.previous a.n a.out.now m.loop-i.out m.loop-i.i
so_far m = m.loop-i.invariant.0 m.args.out.now (taken _ _ m.requires.4 (omega (arith, m.if-n-eq0.false)) m.requires.2 m.first_base.ensures)

last_doc : (docs : List ℕ) (from i : ℕ) → 0 < i → get_or docs (from + i - 1) 0 ≡ docs_of docs from (i - 1)
last_doc docs from i some = ap (λ (k : ℕ). get_or docs k 0) (omega arith)

pub loop-i-preserved : goal.loop-i-preserved
loop-i-preserved c =
    let l = c.loop-i in (
      λ before T. goes_on (l.invariant.0 before T) c.loop-i-test.true c.requires.4 refl (last_doc _ _ _ (so_far (goal.at.loop-i-preserved c).In-loop-i).some) l.invariant.1 c.requires.0,
      l.invariant.1,
    )

pub returns : goal.returns
returns c =
    all-taken (c.loop-i.invariant.0 c.args.out.now (taken _ _ c.requires.4 (omega (arith, c.if-n-eq0.false)) c.requires.2 c.first_base.ensures)) c.loop-i-test.false
