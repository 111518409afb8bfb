-- Every list of an accepted file is one that the functions over it may be given.
use mathlib.Core.Path.{◌≡◌}
use mathlib.Core.List.{List}
use Prim.Native.Nat.{ℕ, ◌<◌}
use Rattle.notefile.specs.Header.{list_count}
use Rattle.notefile.specs.Parts.{part_of}
use Rattle.notefile.specs.Refusal.{file_refusal}
use Rattle.notefile.proofs.Accepted.{header-right, list-accepted, list-blocks, list-limits}
use Rattle.notefile.proofs.Headers.{few-documents}
use Rattle.skip_reader.specs.Inner.Decoded.{ListIn}

pub list-in : (file : List ℕ) → file_refusal file ≡ 0 → (l : ℕ) → l < list_count file → ListIn file (part_of file l)
list-in file accepted l h = record {
  blocks = list-blocks file accepted l h;
  right = list-accepted file accepted l h;
  limits = list-limits file accepted l h;
  few = few-documents file (header-right file accepted);
}
