-- `noterank_write` meets its contract: the writer's answer as a number and a length.
use mathlib.Core.Path.{◌∙◌}
use native.Mathlib.Omega.{arith}
use Rattle.contents.specs.Contents.{Contents, handed}
use Rattle.noterank.proofs.Writing.{file-short, wrote}
use Rattle.noterank.proofs.noterank_write.Goals as goal
use Rattle.noterank.proofs.noterank_write.Goals.{Start}

abbrev contents : Start → Contents
contents a =
    let g = a.args in
    handed g.documents g.kind g.code g.norms.now g.average g.weights.now g.counts.now g.docs.now g.freqs.now

pub short-requires : goal.short-requires
short-requires c =
    let few = file-short (contents (goal.at.short-requires c).Start) c.args.out.now c.write-answer.ensures in
    omega (arith, c.length_of.ensures, few)

pub returns : goal.returns
returns c =
    wrote (contents (goal.at.returns c).Start) c.args.out.now c.write-answer.ensures c.number_of.ensures (c.short.ensures ∙ c.length_of.ensures)
