-- `list::check_packed` meets its contract: documents are tested before frequencies.
use Rattle.listcheck.proofs.Judged.{docs-refused, freqs-refused, freqs-fit, packed-right}
use Rattle.listcheck.proofs.list.check_packed.Goals as goal

pub returns-then-not-packed_docs : goal.returns-then-not-packed_docs
returns-then-not-packed_docs c = let a = c.args in docs-refused a.file.now a.x a.b c.packed_docs.ensures c.if-not-packed_docs.true

pub packed_freqs-requires : goal.packed_freqs-requires
packed_freqs-requires c = (c.requires.0, c.requires.1, freqs-fit c.sized.ensures.1 c.packed_docs.ensures)

pub returns-then-not-packed_freqs : goal.returns-then-not-packed_freqs
returns-then-not-packed_freqs c =
    let a = c.args in
    freqs-refused a.file.now a.x a.b c.packed_docs.ensures c.if-not-packed_docs.false c.packed_freqs.ensures c.if-not-packed_freqs.true

pub returns : goal.returns
returns c =
    let a = c.args in
    packed-right a.file.now a.x a.b c.packed_docs.ensures c.if-not-packed_docs.false c.packed_freqs.ensures c.sized.ensures.1 c.if-not-packed_freqs.false
