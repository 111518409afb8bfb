-- Which contents a file reads (02, order 1): "The reader accepts it and reads what went in."
use Rattle.std.specs.Prelude.{◌≡◌, true, List, ℕ, ◌+◌, ◌<◌, length, get_or}
use Rattle.std.specs.Float.{binary32}
use Rattle.std.specs.Float.Ieee.{of_bits}
use Rattle.notefile.specs.Header.{norm_kind, list_count, norm_code, documents, average_bits, norms_at}
use Rattle.notefile.specs.Parts.{weight_bits, document_count, part_of}
use Rattle.notefile.specs.Lists.{list_doc, list_freq}
use Rattle.contents.specs.Contents.{Contents, lists, weight_of, count_of, doc_of, freq_of}
use Rattle.contents.specs.Refusal.{buffers_right}

-- list l's weight, count, documents and frequencies
pub record ReadsList (file : List ℕ) (c : Contents) (l : ℕ) : Type 0 where
  pub weight_is : of_bits binary32 (weight_bits file l) ≡ weight_of c l
  pub count-is : document_count file l ≡ count_of c l
  pub docs-are : (i : ℕ) → i < count_of c l → list_doc file (part_of file l) i ≡ doc_of c l i
  pub freqs-are : (i : ℕ) → i < count_of c l → list_freq file (part_of file l) i ≡ freq_of c l i

-- header, norms and every list; and the buffers hold nothing else
pub record Reads (file : List ℕ) (c : Contents) : Type 0 where
  pub documents-are : documents file ≡ c.documents
  pub kind-is : norm_kind file ≡ c.kind
  pub code_is : norm_code file ≡ c.code
  pub average-is : of_bits binary32 (average_bits file 0) ≡ c.average
  pub lists-are : list_count file ≡ lists c
  pub buffers : buffers_right c ≡ true
  pub norms-are : (d : ℕ) → d < length c.norms → get_or file (norms_at file + d) 0 ≡ get_or c.norms d 0
  pub each : (l : ℕ) → l < lists c → ReadsList file c l
