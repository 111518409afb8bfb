-- `skip::read_skip_entry` meets its contract: each field is read at its place in the entry.
use Rattle.notefile.specs.Inner.Structs.{skip_entry_of}
use Rattle.notefile.proofs.skip.read_skip_entry.Goals as goal

pub returns : goal.returns
unfolding skip_entry_of
returns c =
    rw (c.from.ensures, c.read_u32.ensures.0, c.from-byte.ensures, c.skip_entry_at-at.ensures.0)
