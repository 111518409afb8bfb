-- What the contracts of `intersection_order` cite, and those of the intersection's run.
pub mod Inner
