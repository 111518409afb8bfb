-- Scores as 01 has them: f32, with the operations of IEEE 754 binary32, stepped or not.
use Rattle.std.specs.Prelude.{false, pos, Float}
use Rattle.std.specs.Float.{fin, binary32}
use Rattle.std.specs.Float.Ieee.{add, sub, lt}
use Rattle.route.specs.Score.{Ops}

-- both scorings' operations: what differs are the values in the lists
abbrev pub f32 : Ops
f32 = record { S = Float; nil = fin false 0 (pos 0); add = add binary32; sub = sub binary32; above = λ x t. lt t x }
