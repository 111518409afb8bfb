-- The decoded lists of a note file as the route and the plain scan take them: blocks of 128, with scores and bounds in a scoring.
use Rattle.std.specs.Prelude.{List, [], ◌∷◌, ℕ, Float}
use Rattle.route.specs.Postings.{Postings}
use Rattle.bm25.specs.Scoring.{scored}
use Rattle.bm25.specs.declared.Scoring.{Scoring}
use Rattle.notefile.specs.Parts.{part_of}
use Rattle.notefile.specs.Lists.{full_blocks, list_doc, list_score, block_bound, list_bound}
use Rattle.notefile.specs.declared.part.Part.{Part}

-- a list by its part
unfoldable pub list_of : Scoring → List ℕ → Part → Postings Float
list_of scoring file x = record {
  len = x.count;
  full = full_blocks x;
  doc = list_doc file x;
  score = λ k. scored scoring (list_score file x k);
  bound = λ b. scored scoring (block_bound file x b);
  top = scored scoring (list_bound x);
}

-- list l of a file
abbrev pub postings_of : Scoring → List ℕ → ℕ → Postings Float
postings_of scoring file l = list_of scoring file (part_of file l)

-- the lists that a query names, in its order, a list as often as it is named
unfoldable pub queried : Scoring → List ℕ → List ℕ → List (Postings Float)
queried scoring file [] = []
queried scoring file (l ∷ ls) = postings_of scoring file l ∷ queried scoring file ls
