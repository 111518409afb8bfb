-- What the contracts of `fieldnorm` cite.
pub mod Code
pub mod Reader
