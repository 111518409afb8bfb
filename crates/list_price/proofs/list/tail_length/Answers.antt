-- `list::tail_length` meets its contract: the VInts of the differences, then those of the frequencies.
use Rattle.list_price.proofs.Loads.{rising, tail-length-is}
use mathlib.Core.Bool.{false}
use borrow.Author.Rules.{rules}
use native.Mathlib.Omega.{arith}
use borrow.Author.Rules.{rules}
use Rattle.list_price.proofs.list.tail_length.Goals as goal

pub differences-requires : goal.differences-requires
differences-requires c =
    let e = c.doc_before-previous.ensures in
    (c.requires.standing.few, c.requires.standing.docs-in, c.places.ensures, search rules, rising c.requires e false)

pub lowered-requires : goal.lowered-requires
lowered-requires c =
    (c.requires.standing.few, c.requires.standing.freqs-in, c.places-2.ensures, λ i h. omega arith)

pub overflow_add-result : goal.overflow_add-result
overflow_add-result c =
    let t = tail-length-is c.requires c.doc_before-previous.ensures c.differences.ensures c.lowered.ensures c.vints_len.ensures c.vints_len-2.ensures in
    omega (arith, t.1)

pub returns : goal.returns
returns c =
    tail-length-is c.requires c.doc_before-previous.ensures c.differences.ensures c.lowered.ensures c.vints_len.ensures c.vints_len-2.ensures
