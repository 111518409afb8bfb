-- What the contracts of `plain_scan` cite.
pub mod Inner
