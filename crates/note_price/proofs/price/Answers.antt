-- `price` meets its contract: rows 1 to 4 first, then the lists.
use mathlib.Core.Path.{sym, ap, ◌∙◌}
use Rattle.std.proofs.lemmas.Result.{err_from_is_err_and}
use Rattle.outcome.specs.Refusals.{refusal_number}
use Rattle.outcome.proofs.ByNumber.{no-refusal}
use Rattle.contents.specs.Contents.{Contents}
use Rattle.contents.specs.Inner.Handed.{contents_in}
use Rattle.contents.proofs.Either.{some}
use Rattle.note_price.proofs.Pricing.{head-refused}
use Rattle.note_price.proofs.price.Goals as goal
use Rattle.note_price.proofs.price.Goals.{Start}

abbrev contents : Start → Contents
contents a = contents_in a.args.c

pub returns-in_err-check_head : goal.returns-in_err-check_head
returns-in_err-check_head c =
    let p = err_from_is_err_and c.from_residual.result c.from_residual.ensures.1 in
    let r = c.in_err-check_head.field-0.0 in
    rw (p.1, p.2) (head-refused (contents (goal.at.returns-in_err-check_head c).Start) (ap refusal_number (sym c.in_err-check_head.was) ∙ c.check_head.ensures) (some (no-refusal r).0))

pub price_lists-requires : goal.price_lists-requires
price_lists-requires c = sym c.check_head.ensures ∙ ap refusal_number c.in_ok-check_head.was

pub returns : goal.returns
returns c = c.price_lists.ensures
