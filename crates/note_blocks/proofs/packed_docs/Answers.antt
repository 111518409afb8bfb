-- `packed_docs` meets its contract: the unpacked values, summed, are the block's documents.
use mathlib.Core.Path.{sym, ◌∙◌}
use mathlib.Core.Logic.{inl, inr}
use native.Mathlib.Omega.{arith}
use borrow.Author.Tests.{leb-true}
use Rattle.notefile.proofs.FullBlocks.{docs-in, small, narrow-block, docs-fall, docs-end}
use Rattle.note_blocks.proofs.packed_docs.Goals as goal

pub unpack-requires : goal.unpack-requires
unpack-requires c = let i = docs-in c.requires.0 c.args.e c.requires.1 in (i.0, i.1, c.requires.5)

pub documents-requires : goal.documents-requires
documents-requires c =
    let U = c.unpack.ensures in (
      omega arith,
      U.long,
      small c.requires.0 c.args.e c.requires.1 32 (docs-in c.requires.0 c.args.e c.requires.1).0 U,
      narrow-block c.requires.0 c.args.e c.requires.1 U c.requires.6
          (elim c.if-e.branch [ goal.then-e w ↦ inl (w.if-e.true, λ t. let n = sym w.narrow-is ∙ t in omega (arith, leb-true)) | goal.else-e w ↦ inr (w.narrow-is ∙ w.if-e.false) ]),
    )

pub returns-then-documents : goal.returns-then-documents
returns-then-documents c =
    docs-end c.requires.0 c.args.e c.requires.1 c.unpack.ensures c.requires.2 c.requires.3 c.requires.4 c.documents.ensures c.if-documents.true

pub returns : goal.returns
returns c =
    docs-fall c.requires.0 c.args.e c.requires.1 c.unpack.ensures c.requires.2 c.requires.3 c.requires.4 c.documents.ensures c.if-documents.false
