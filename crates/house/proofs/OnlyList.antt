-- The bytes of an accepted list in house form are the house form's (02, order 1): "the only file of the house form".
use mathlib.Core.Path.{◌≡◌, sym, ap, ◌∙◌, subst}
use mathlib.Core.Bool.{true}
use mathlib.Core.List.{List}
use Prim.Native.Nat.{ℕ, ◌+◌, ◌*◌, ◌≤◌, ◌<◌}
use native.Mathlib.Omega.{arith}
use lib.Dec.{eqb}
use lib.ListN.{length, get_or, length-append}
use lib.Ieee.{Float}
use borrow.Author.Tests.{eqb-true}
use Rattle.arrays.specs.Every.{every}
use Rattle.arrays.proofs.Every.{first-true}
use Rattle.pieces.specs.Inner.Written.{Stands}
use Rattle.pieces.proofs.Standing.{both-stand}
use Rattle.notefile.specs.Header.{documents}
use Rattle.notefile.specs.Lists.{full_blocks, tail_size, tail_at}
use Rattle.notefile.specs.Conditions.{skip_right, skips_right}
use Rattle.notefile.specs.declared.part.Part.{Part}
use Rattle.house.specs.House.{blocks_bytes, tail_bytes, postings_bytes}
use Rattle.house.proofs.Given.{Scored, Laid, Read}
use Rattle.house.proofs.OnlyRead.{read-sound}
use Rattle.house.proofs.OnlyBlocks.{blocks-only, behind}
use Rattle.house.proofs.OnlySkips.{skips-only}
use Rattle.house.proofs.OnlyTail.{tail-only}

-- row 5: the skip bytes are an entry for each full block
skips-exact : (s : List ℕ) (x : Part) → skips_right s x ≡ true → x.skips + x.skip_entry_len * full_blocks x ≡ x.postings
unfolding skips_right
skips-exact s x R =
    let at = x.skips + x.skip_entry_len * full_blocks x in
    eqb-true at x.postings (first-true (eqb at x.postings) (every (full_blocks x) (skip_right s x)) R)

module _ {s : List ℕ} {x : Part} {d f : ℕ → ℕ} (bytes : (i : ℕ) → get_or s i 0 < 256) (R : Read s x d f) where
  -- the blocks and the tail behind them
  pub postings-only : (Stands s x.postings (postings_bytes d f x.count))
      × (x.end ≡ x.postings + length (postings_bytes d f x.count))
  unfolding postings_bytes
  postings-only =
      let B = blocks-only bytes R (full_blocks x) (omega arith) in
      let T = tail-only bytes R in
      let blocks = blocks_bytes d f (full_blocks x) in
      let tail = tail_bytes d f (full_blocks x) (tail_size x) in (
        both-stand s x.postings blocks tail B.0 (subst (λ (z : ℕ). Stands s z tail) B.1 T.0),
        behind x.postings (tail_at s x) x.end _ _ _ B.1 T.1 (length-append blocks tail),
      )

-- a list that reads these postings has their bytes, and no others
pub list-only : (s : List ℕ) (x : Part) (d f norm : ℕ → ℕ) (score : ℕ → Float) → ((i : ℕ) → get_or s i 0 < 256) → x.skip_entry_len ≡ 8
    → documents s ≤ 1048576 → Scored s x d f norm score → Read s x d f → Laid s x d f norm score
list-only s x d f norm score bytes kind few C R =
    let P = postings-only bytes R in
    record {
      kind_0 = kind;
      skips-stand = skips-only bytes kind (read-sound s x d f few R) C R (full_blocks x) (omega arith);
      then-postings = sym (skips-exact s x R.right.skips) ∙ ap (λ (z : ℕ). x.skips + z * full_blocks x) kind;
      postings-stand = P.0;
      then-end = P.1;
    }
