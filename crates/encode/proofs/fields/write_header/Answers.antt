-- `encode::fields::write_header` meets its contract: the parts that it writes are the number that the fields make (`header-written`).
use Rattle.encode.proofs.FieldBytes.{header-written}
use Rattle.encode.proofs.fields.write_header.Goals as goal

pub returns : goal.returns
returns c =
    let a = c.args in
    header-written a.kind a.lists a.code a.documents a.average c.requires.0 c.write_be.ensures c.write_be-2.ensures
