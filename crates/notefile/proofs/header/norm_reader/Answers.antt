-- `header::norm_reader` meets its contract: the kind decides.
use Rattle.notefile.proofs.Headers.{from-data, constant}
use Rattle.notefile.proofs.header.norm_reader.Goals as goal

pub returns-then-h-eq0 : goal.returns-then-h-eq0
returns-then-h-eq0 c = from-data c.args.file.now c.args.h c.requires.same c.if-h-eq0.true

pub returns : goal.returns
returns c = constant c.args.file.now c.args.h c.requires.same c.if-h-eq0.false
