-- `write` meets its contract: refused, too short an output, or written.
use native.Mathlib.Omega.{arith}
use Rattle.std.specs.Prelude.{Ok}
use Rattle.std.proofs.lemmas.Result.{err_from_is_err_and}
use Rattle.note_price.specs.Inner.Prices.{PriceIs}
use Rattle.contents.specs.Contents.{Contents}
use Rattle.contents.specs.Inner.Handed.{contents_of}
use Rattle.note_writer.proofs.Answering.{refused, short, written}
use Rattle.note_writer.proofs.write.Goals as goal
use Rattle.note_writer.proofs.write.Goals.{In_ok-p, Start}

abbrev contents : Start → Contents
contents a = let g = a.args in contents_of g.h g.norms.now g.weights.now g.counts.now g.docs.now g.freqs.now

-- the price of what is not refused, and what refuses
priced : (c : In_ok-p) → let g = c.args in PriceIs (contents_of g.h g.norms.now g.weights.now g.counts.now g.docs.now g.freqs.now) (Ok c.in_ok-p.p) c.price.new.tops
priced c = c.in_ok-p.ensures

pub returns-in_err-p : goal.returns-in_err-p
returns-in_err-p c =
    let p = err_from_is_err_and c.from_residual.result c.from_residual.ensures.1 in
    rw (p.1, p.2) (refused (contents (goal.at.returns-in_err-p c).Start) c.args.out.now c.in_err-p.field-0.0 c.in_err-p.ensures)

pub returns-then-out-p : goal.returns-then-out-p
returns-then-out-p c =
    let P = priced (goal.at.returns-then-out-p c).In_ok-p in
    short (contents (goal.at.returns-then-out-p c).Start) c.args.out.now P.0 (omega (arith, c.if-out-p.true, P.1.total-is))

pub write_file-requires : goal.write_file-requires
write_file-requires c =
    let P = priced (goal.at.write_file-requires c).In_ok-p in
    (P.0, P.1, omega (arith, c.if-out-p.false, P.1.total-is))

pub shape_of-out : goal.shape_of-out
shape_of-out c = c.write_file.ensures.written.long

pub returns : goal.returns
returns c =
    let P = priced (goal.at.returns c).In_ok-p in
    written (contents (goal.at.returns c).Start) c.args.out.now P.0 (omega (arith, c.if-out-p.false, P.1.total-is)) P.1.total-is c.write_file.ensures
