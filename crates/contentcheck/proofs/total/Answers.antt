-- `total` meets its contract: the sum is where the list at hand starts.
use mathlib.Core.Path.{◌≡◌, sym, ap, ◌∙◌}
use mathlib.Core.List.{List}
use Prim.Native.Nat.{ℕ, ◌+◌}
use native.Mathlib.Numerals.{add-one}
use native.Mathlib.Omega.{arith}
use lib.ListN.{length, get_or}
use Rattle.contents.specs.Contents.{Contents, list_at}
use Rattle.contents.proofs.Places.{list-at-zero, list-at-next}
use Rattle.contentcheck.proofs.total.Goals as goal

-- one list more
list-passed : (d : Contents) (l : ℕ) {counts : List ℕ} {sum : ℕ} → d.counts ≡ counts → sum ≡ list_at d l
    → sum + get_or counts l 0 ≡ list_at d (l + 1)
list-passed d l {counts = counts} k e =
    rw add-one
    (ap (λ (z : ℕ). z + get_or counts l 0) e ∙ ap (λ (z : List ℕ). list_at d l + get_or z l 0) (sym k) ∙ sym (list-at-next d l))

pub loop-l-init : goal.loop-l-init
loop-l-init c = (omega arith, (omega arith, λ d e. sym (list-at-zero d)))

pub overflow_cast-sum : goal.overflow_cast-sum
overflow_cast-sum c = omega (arith, c.type_inv.counts c.loop-l.l)

pub overflow_add-sum : goal.overflow_add-sum
overflow_add-sum c = omega (arith, c.type_inv.counts c.loop-l.l)

pub loop-l-preserved : goal.loop-l-preserved
loop-l-preserved c =
    let e = c.loop-l.invariant in (
      omega arith,
      (omega (arith, c.type_inv.counts c.loop-l.l), λ d k. list-passed d c.loop-l.l k (e.1.1 d k)),
    )

pub returns : goal.returns
returns c =
    let e : c.loop-l.l ≡ length c.args.counts.now = omega arith in
    λ d k. c.loop-l.invariant.1.1 d k ∙ ap (list_at d) (e ∙ ap length (sym k))
