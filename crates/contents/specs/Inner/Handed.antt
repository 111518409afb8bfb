-- Contents as the code has them.
use Rattle.std.specs.Prelude.{List, ℕ, Float}
use Rattle.contents.specs.Contents.{Contents, handed}
use Rattle.contents.specs.declared.Head.{Head}
use Rattle.contents.specs.declared.Contents as lent

-- the contents that a head and five buffers are
abbrev pub contents_of : Head → List ℕ → List Float → List ℕ → List ℕ → List ℕ → Contents
contents_of h norms weights counts docs freqs =
    handed h.documents h.kind h.code norms h.average weights counts docs freqs

-- and those that are lent in one
abbrev pub contents_in : lent.Contents → Contents
contents_in c = contents_of c.head c.norms.now c.weights.now c.counts.now c.docs.now c.freqs.now
