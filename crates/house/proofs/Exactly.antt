-- 02, order 1: contents are refused exactly when the reader refuses their file or does not read them in it.
use mathlib.Core.Path.{◌≡◌}
use Rattle.notefile.specs.Refusal.{file_refusal}
use Rattle.contents.specs.Contents.{Contents, Typed}
use Rattle.contents.specs.Refusal.{contents_refusal}
use Rattle.house.specs.House.{house_file}
use Rattle.house.specs.Reads.{Reads}
use Rattle.house.proofs.HouseBack.{house-accepted, house-reads}
use Rattle.house.proofs.Readable.{readable}

module _ (c : Contents) (Y : Typed c) where
  pub exactly-when : (contents_refusal c ≡ 0 → (file_refusal (house_file c) ≡ 0) × Reads (house_file c) c)
      × ((file_refusal (house_file c) ≡ 0) × Reads (house_file c) c → contents_refusal c ≡ 0)
  exactly-when = (λ e. (house-accepted c Y e, house-reads c Y e), λ p. readable (house_file c) c p.0 p.1)
