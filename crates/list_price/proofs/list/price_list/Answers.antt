-- `list::price_list` meets its contract: the full blocks, then the tail, and the lower of their refusals.
use mathlib.Core.Path.{◌≡◌, refl, ap, ◌∙◌}
use Prim.Native.Nat.{ℕ, ◌+◌}
use Rattle.std.specs.Prelude.{Result, Ok, Err}
use Rattle.std.specs.Result.{result_and}
use Rattle.std.proofs.lemmas.Result.{err_from_is_err_and}
use Rattle.outcome.specs.Inner.Lower.{lower}
use Rattle.outcome.specs.Refusals.{number_of, refusal_number}
use Rattle.outcome.specs.declared.refusal.Refusal.{Refusal}
use Rattle.list_price.specs.Inner.Prices.{bytes_of}
use Rattle.outcome.proofs.ByNumber.{is-refusal, no-refusal}
use Rattle.list_price.proofs.Pricing.{seventh, together}
use native.Mathlib.Omega.{arith}
use Rattle.list_price.proofs.list.price_list.Goals as goal

pub returns-then-eq : goal.returns-then-eq
returns-then-eq c = seventh c.price_blocks-full.ensures c.requires.0 (is-refusal _ _ _ c.if-eq.ensures)

-- an answer without its bytes has the number that it has with them
and-number : (r : Result ℕ Refusal) {s : Result (Unit {0}) Refusal} → s ≡ result_and r (Ok tt) → refusal_number s ≡ refusal_number r
and-number (Ok n) e = ap refusal_number e
and-number (Err r) e = ap refusal_number e

pub returns-in_err-lower_of : goal.returns-in_err-lower_of
returns-in_err-lower_of c =
    let p = err_from_is_err_and c.from_residual.result c.from_residual.ensures.1 in
    let r = c.in_err-lower_of.field-0.0 in
    let e : number_of r ≡ lower (refusal_number c.price_blocks-full.result) (refusal_number c.price_tail-tail.result) =
    c.in_err-lower_of.ensures ∙ rw (and-number c.price_blocks-full.result c.and.ensures, and-number c.price_tail-tail.result c.and-2.ensures) refl in
    rw (p.1, p.2)
    (together c.price_blocks-full.ensures c.requires.0 c.price_tail-tail.ensures (Err r) e (λ z. absurd ((no-refusal r).0 z)) (omega arith))

pub returns : goal.returns
returns c =
    let f : c.price_blocks-full.result ≡ Ok c.in_ok-full.field-0 = c.in_ok-full.was in
    let t : c.price_tail-tail.result ≡ Ok c.in_ok-tail.field-0 = c.in_ok-tail.was in
    let e : c.in_ok-full.field-0 + c.in_ok-tail.field-0 ≡ bytes_of c.price_blocks-full.result + bytes_of c.price_tail-tail.result = rw (f, t) refl in
    together c.price_blocks-full.ensures c.requires.0 c.price_tail-tail.ensures (Ok (c.in_ok-full.field-0 + c.in_ok-tail.field-0)) (rw (f, t) refl) (λ z. e) (omega (arith, e))
