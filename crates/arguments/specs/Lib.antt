-- What the contracts of `arguments` cite.
pub mod Numbers
