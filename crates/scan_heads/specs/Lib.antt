-- What the contracts of `scan_heads` cite.
pub mod Inner
