-- What the machine's route keeps at each place, over a file of N documents.
use Rattle.std.specs.Prelude.{ℕ}
use Rattle.route.specs.F32.{f32}
use Rattle.route.specs.Inner.Lists.{ListOk}
use Rattle.route.specs.Inner.Singles.{SingleKept}
use Rattle.route.specs.Inner.Unions.{UnionKept}
use Rattle.route.specs.Inner.Intersections.{InterKept}
use Rattle.machine.specs.Inner.Places.{Place, intersection, plain, single, union}

-- by mode
abbrev pub KeptIn : ℕ → Place → Type 0
KeptIn N (union u) = UnionKept 128 N f32 u
KeptIn N (single s p) = ListOk 128 N s.list × SingleKept 128 s.list p.phase p.cur p.doc
KeptIn N (intersection u) = InterKept 128 N f32 u.stage u.doc u.leader u.secs
KeptIn N (plain hits d) = Unit {0}
