-- `list::load_block` meets its contract: documents are tested before frequencies, and right ones are copied.
use Rattle.list_price.proofs.Loads.{docs-refused, freqs-refused, none-refused}
use Rattle.list_price.proofs.list.load_block.Goals as goal

pub returns-then-not-docs_right : goal.returns-then-not-docs_right
returns-then-not-docs_right c =
    let a = c.args in
    docs-refused a.docs.now a.freqs.now a.at a.n a.first a.limit c.doc_before-previous.ensures c.docs_right.ensures c.if-not-docs_right.true

pub returns-then-not-freqs_right : goal.returns-then-not-freqs_right
returns-then-not-freqs_right c =
    let a = c.args in
    freqs-refused a.docs.now a.freqs.now a.at a.n a.first a.limit c.doc_before-previous.ensures c.docs_right.ensures
    c.if-not-docs_right.false c.freqs_right.ensures c.if-not-freqs_right.true

pub returns : goal.returns
returns c =
    let a = c.args in
    none-refused a.docs.now a.freqs.now a.at a.n a.first a.limit c.doc_before-previous.ensures c.docs_right.ensures
    c.if-not-docs_right.false c.freqs_right.ensures c.if-not-freqs_right.false c.copy.ensures c.copy-2.ensures
