-- What the contracts of `intersection_candidate` cite, and those of the intersection's run.
pub mod Inner
