-- `look` meets its contract: its three ways, one after another.
use Rattle.std.proofs.Common.{ℕ, ◌+◌, ◌≤◌, true, get_or, sym, subst}
use Rattle.compression.specs.Documents.{start_of}
use Rattle.block_look.specs.Inner.Joint.{steps, Joint}
use Rattle.block_look.proofs.Judged.{start-low}
use Rattle.block_look.proofs.Answers.{refused-docs, refused-freqs, let_through}
use Rattle.block_look.proofs.look.Goals as goal
use Rattle.block_look.proofs.look.Goals.{After-doc_or-all_docs}

-- the steps are joined from the start of a strict block
docs-joined : (c : After-doc_or-all_docs) → let a = c.args in
    Joint (steps (λ i. get_or a.docs.now (a.at + i) 0) (start_of true a.previous a.first)) c.doc_or-all_docs.result
docs-joined c =
    let a = c.args in
    subst (λ (b : ℕ). Joint (steps (λ i. get_or a.docs.now (a.at + i) 0) b) c.doc_or-all_docs.result) c.base_of.ensures
    c.doc_or-all_docs.ensures

pub doc_or-all_docs-requires : goal.doc_or-all_docs-requires
doc_or-all_docs-requires c =
    (c.requires.0, subst (λ (b : ℕ). b ≤ 1048577) (sym c.base_of.ensures) (start-low c.args.first c.args.previous c.requires.3))

pub docs_fine-requires : goal.docs_fine-requires
docs_fine-requires c = (c.requires.0, c.requires.3, c.requires.2, docs-joined c)

pub returns-then-not-docs_fine : goal.returns-then-not-docs_fine
returns-then-not-docs_fine c =
    let a = c.args in
    refused-docs a.docs.now a.freqs.now a.at a.first a.previous a.limit c.docs_fine.ensures
    c.if-not-docs_fine.true

pub returns-then-not-freqs_fine : goal.returns-then-not-freqs_fine
returns-then-not-freqs_fine c =
    let a = c.args in
    refused-freqs a.docs.now a.freqs.now a.at a.first a.previous a.limit c.docs_fine.ensures
    c.if-not-docs_fine.false c.freqs_fine.ensures c.if-not-freqs_fine.true

pub returns : goal.returns
returns c =
    let a = c.args in
    let_through a.docs.now a.freqs.now a.at a.first a.previous a.limit c.docs_fine.ensures
    c.if-not-docs_fine.false c.freqs_fine.ensures c.requires.2 c.if-not-freqs_fine.false (docs-joined (goal.at.returns c).After-doc_or-all_docs)
    c.freq_or-all_freqs.ensures c.bits.ensures c.bits-2.ensures
