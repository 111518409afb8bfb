-- `reader_of` meets its contract: the kind says where norm codes are read.
use mathlib.Core.Path.{sym, ap}
use borrow.Author.Tests.{eq-eqb, ne_eqb}
use Rattle.contents.specs.Contents.{reader_of}
use Rattle.contents.specs.Inner.Handed.{contents_of}
use Rattle.contentcheck.proofs.reader_of.Goals as goal

pub returns-then-h-eq0 : goal.returns-then-h-eq0
returns-then-h-eq0 c =
    let h = c.args.h in
    let k = sym (eq-eqb h.kind 0 c.if-h-eq0.true) in
    λ norms weights counts docs freqs. ap (reader_of (contents_of h norms weights counts docs freqs)) k

pub returns : goal.returns
returns c =
    let h = c.args.h in
    let k = sym (ne_eqb h.kind 0 c.if-h-eq0.false) in
    λ norms weights counts docs freqs. ap (reader_of (contents_of h norms weights counts docs freqs)) k
