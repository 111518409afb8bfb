-- `check_query` meets its contract: the file, then the query.
use mathlib.Core.Path.{◌≡◌, sym, ap, ◌∙◌}
use Prim.Native.Nat.{ℕ}
use native.Mathlib.Omega.{arith}
use Rattle.notefile.specs.Header.{list_count}
use Rattle.notefile.specs.Refusal.{file_refusal}
use Rattle.notefile.proofs.Accepted.{header-inside}
use Rattle.std.proofs.lemmas.Result.{err_from_is_err_and}
use Rattle.outcome.specs.Refusals.{refusal_number}
use Rattle.request.specs.Request.{query_right}
use Rattle.request.proofs.Requests.{file-refused, lists-are, query-refused, query-let}
use Rattle.request.proofs.check_query.Goals as goal
use Rattle.request.proofs.check_query.Goals.{After-query_right, In_ok-check}

accepted : (c : In_ok-check) → file_refusal c.args.file.now ≡ 0
accepted c = sym c.check.ensures ∙ ap refusal_number c.in_ok-check.was

pub read_header-h-requires : goal.read_header-h-requires
read_header-h-requires c = omega (arith, (header-inside _ (accepted c)).entries)

query-test : (c : After-query_right)
    → c.query_right.result ≡ query_right (list_count c.args.file.now) c.args.mode c.args.query.now
query-test c =
    c.query_right.ensures ∙ ap (λ (n : ℕ). query_right n c.args.mode c.args.query.now) (lists-are c.args.file.now c.read_header-h.ensures)

pub returns-then-query_right : goal.returns-then-query_right
returns-then-query_right c = query-let _ _ c.args.mode (accepted (goal.at.returns-then-query_right c).In_ok-check) (sym (query-test (goal.at.returns-then-query_right c).After-query_right) ∙ c.if-query_right.true)

pub returns-in_err-check : goal.returns-in_err-check
returns-in_err-check c =
    let p = err_from_is_err_and c.from_residual.result c.from_residual.ensures.1 in
    rw (p.1, p.2) (file-refused _ _ c.args.mode c.in_err-check.field-0.0 (ap refusal_number (sym c.in_err-check.was) ∙ c.check.ensures))

pub returns-else-query_right : goal.returns-else-query_right
returns-else-query_right c = query-refused _ _ c.args.mode (accepted (goal.at.returns-else-query_right c).In_ok-check) (sym (query-test (goal.at.returns-else-query_right c).After-query_right) ∙ c.if-query_right.false)
