-- The structs that the readers make of a file's fields.
use Rattle.std.specs.Prelude.{List, ℕ, zero, suc}
use Rattle.notefile.specs.Header as header
use Rattle.notefile.specs.Skips.{last_doc, doc_width, strict_block, freq_width, max_norm_code, max_freq_code}
use Rattle.notefile.specs.declared.header.Header.{Header}
use Rattle.notefile.specs.declared.part.Part.{Part}
use Rattle.notefile.specs.declared.skip.SkipEntry.{SkipEntry}

-- the header
unfoldable pub header_of : List ℕ → Header
header_of file = record {
  version = header.version file;
  kind = header.norm_kind file;
  lists = header.list_count file;
  code = header.norm_code file;
  documents = header.documents file;
  spare = header.spare file;
}

module _ (file : List ℕ) (x : Part) where
  -- block b's skip entry
  unfoldable pub skip_entry_of : ℕ → SkipEntry
  skip_entry_of b = record {
    last = last_doc file x b;
    doc_bits = doc_width file x b;
    strict = strict_block file x b;
    freq_bits = freq_width file x b;
    norm_code = max_norm_code file x b;
    freq_code = max_freq_code file x b;
  }

  -- the last document of the skip entry before block b's, which the Rust takes for the previous document; before the first there is none
  abbrev pub last_before : ℕ → ℕ
  last_before zero = 0
  last_before (suc b) = last_doc file x b
