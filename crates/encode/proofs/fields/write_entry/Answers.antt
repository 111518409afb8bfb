-- `encode::fields::write_entry` meets its contract: the parts that it writes are the number that the fields make (`entry-written`).
use Rattle.encode.proofs.FieldBytes.{entry-written}
use Rattle.encode.proofs.fields.write_entry.Goals as goal

pub returns : goal.returns
returns c =
    let a = c.args in
    entry-written a.weight a.count a.kind a.skips a.postings c.requires.0 c.write_be.ensures c.write_be-2.ensures c.write_be-3.ensures
