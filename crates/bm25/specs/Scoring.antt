-- The two scorings (01, Scores): scores and bounds as they are, or each cut down to a multiple of 1/1024, which the paper calls stepped.
use Rattle.std.specs.Prelude.{Float}
use Rattle.floats.specs.Step.{step_down}
use Rattle.bm25.specs.declared.Scoring.{Scoring}
use Rattle.bm25.specs.declared.Scoring.TheVariants.{Unstepped, Stepped}

abbrev pub scored : Scoring → Float → Float
scored Unstepped x = x
scored Stepped x = step_down x
