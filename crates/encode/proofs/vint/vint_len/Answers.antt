-- `encode::vint::vint_len` meets its contract: a byte for each seven bits that the number has.
use native.Mathlib.Omega.{arith}
use Rattle.encode.proofs.ShortVInts.{one_byte, two_bytes, three-bytes, four_bytes, five-bytes}
use Rattle.encode.proofs.vint.vint_len.Goals as goal

pub returns-then-v-lt128 : goal.returns-then-v-lt128
returns-then-v-lt128 c = one_byte c.args.v c.if-v-lt128.true

pub returns-then-v-lt16384 : goal.returns-then-v-lt16384
returns-then-v-lt16384 c = two_bytes c.args.v c.if-v-lt128.false c.if-v-lt16384.true

pub returns-then-v-lt2097152 : goal.returns-then-v-lt2097152
returns-then-v-lt2097152 c = three-bytes c.args.v c.if-v-lt16384.false c.if-v-lt2097152.true

pub returns-then-v-lt268435456 : goal.returns-then-v-lt268435456
returns-then-v-lt268435456 c = four_bytes c.args.v c.if-v-lt2097152.false c.if-v-lt268435456.true

pub returns-else-v-lt268435456 : goal.returns-else-v-lt268435456
returns-else-v-lt268435456 c = five-bytes c.args.v c.if-v-lt268435456.false (omega arith)
