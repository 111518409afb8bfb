-- Each turn of the machine keeps what its place keeps, and brings it nearer to its end.
use mathlib.Core.Path.{◌≡◌}
use mathlib.Core.Bool.{false}
use mathlib.Core.List.{[]}
use Prim.Native.Nat.{ℕ, ◌-◌, ◌<◌}
use lib.Ieee.{Float}
use Rattle.route.specs.F32.{f32}
use Rattle.route.specs.Postings.{TERMINATED}
use Rattle.route.specs.Inner.Singles.{single_cost}
use Rattle.route.proofs.Ending.{Nears}
use Rattle.route.proofs.Single.Ends.{single-nears}
use Rattle.route.proofs.Union.Ends.{union-nears, union_cost}
use Rattle.route.proofs.Intersection.Ends.{Less, inter_cost, turn-less}
use Rattle.plain_scan.proofs.Ending.{scan-nears}
use Rattle.machine.specs.Inner.Places.{Place, intersection, machine_from, over_in, plain, single, turn_in, union}
use Rattle.machine.specs.Inner.Kept.{KeptIn}

module _ (N : ℕ) where
  -- how many turns are ahead at most
  pub cost_in : Place → ℕ
  cost_in (union u) = union_cost 128 N f32 u
  cost_in (single s p) = single_cost 128 s.list p.phase p.cur
  cost_in (intersection u) = inter_cost 128 N f32 u.stage u.doc
  cost_in (plain hits d) = TERMINATED - d

  nearer : (t : Float) (p : Place) → over_in p ≡ false → KeptIn N p → KeptIn N (turn_in t p).next × (cost_in (turn_in t p).next < cost_in p)
  unfolding cost_in Less
  nearer t (union u) e k = (union-nears 128 N f32 [] tt).nears t u e k
  nearer t (single s p) e k = let z = (single-nears 128 N f32 s.list k.0 s.ord).nears t p e k.1 in ((k.0, z.0), z.1)
  nearer t (intersection u) e k = turn-less 128 N f32 t u.stage u.doc u.leader u.secs e k
  nearer t (plain hits d) e k = (scan-nears hits).nears t d e tt

  pub machine-nears : (p : Place) → KeptIn N p → Nears (machine_from p) (KeptIn N) cost_in
  machine-nears p k = record { begins = k; nears = nearer }
