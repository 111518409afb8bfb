-- `header::read_average` meets its contract: the average is four whole bytes.
use Rattle.codec.proofs.BitFields.{bits-lt}
use Rattle.notefile.proofs.header.read_average.Goals as goal

pub overflow_cast-result : goal.overflow_cast-result
overflow_cast-result c = rw c.read_be.ensures (record { fits = bits-lt c.args.file.now 40 32 })
