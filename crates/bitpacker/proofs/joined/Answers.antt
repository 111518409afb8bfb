-- `bitpacker::joined` meets its contract: the low bits are below the shifted word's, so the or is the sum, cut to 32 bits (`above-is`).
use mathlib.Core.Path.{refl}
use Rattle.bitpacker.proofs.Lanes.{above-is}
use Rattle.bitpacker.proofs.joined.Goals as goal

pub returns : goal.returns
returns c =
    let a = c.args in
    record {
      lane0 = above-is a.high.a a.low.a a.left c.requires.0 (c.requires.1 0) refl;
      lane1 = above-is a.high.b a.low.b a.left c.requires.0 (c.requires.1 1) refl;
      lane2 = above-is a.high.c a.low.c a.left c.requires.0 (c.requires.1 2) refl;
      lane3 = above-is a.high.d a.low.d a.left c.requires.0 (c.requires.1 3) refl;
    }
