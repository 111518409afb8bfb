-- What the contracts of `intersection_window` cite, and those of the intersection's run.
pub mod Inner
