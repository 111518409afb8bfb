-- Turns of a route in a row, under one threshold: what a run is stated by that can stop at a report, or anywhere, and go on.
use Rattle.std.specs.Prelude.{◌≡◌, Bool, true, false, ℕ, zero, suc, ◌≤◌, ◌<◌, Float}
use Rattle.std.proofs.Math.Option.{none, some}
use Rattle.route.specs.Route.{Turn}
use Rattle.reports.specs.declared.Event.{Event}
use Rattle.reports.specs.declared.Event.TheVariants.{Over, Paused, Report}

module _ {P : Type 0} (turn : Float → P → Turn P Float) (ended : P → Bool) (t : Float) where
  -- the place after n turns from p
  abbrev pub after_turns : P → ℕ → P
  after_turns p zero = p
  after_turns p (suc n) = (turn t (after_turns p n)).next

  -- none of the first n turns from p is taken at the end, and none has a report
  abbrev pub Silent : P → ℕ → Type 0
  Silent p n = (k : ℕ) → k < n → (ended (after_turns p k) ≡ false) × ((turn t (after_turns p k)).due ≡ none)

  -- why no more turns were taken: the last one has the report; the route is over; or all turns that were allowed are taken
  abbrev pub Stood : P → ℕ → ℕ → Event → Type 0
  Stood p turns taken (Report doc score) =
      (n : ℕ) × (taken ≡ suc n) × Silent p n × (ended (after_turns p n) ≡ false)
      × ((turn t (after_turns p n)).due ≡ some (record { doc = doc; score = score }))
  Stood p turns taken Over = Silent p taken × (ended (after_turns p taken) ≡ true)
  Stood p turns taken Paused = Silent p taken × (ended (after_turns p taken) ≡ false) × (taken ≡ turns)

  -- From place p, where at most `turns` turns were allowed, a run took `taken` of them: it stands where the route does after exactly so
  -- many, and its event is the route's.
  pub record Went (p : P) (turns taken : ℕ) (q : P) (event : Event) : Type 0 where
    pub place_is : q ≡ after_turns p taken
    pub few : taken ≤ turns
    pub stood : Stood p turns taken event
