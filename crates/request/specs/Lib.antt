-- What the contracts of `request` cite.
pub mod Request
pub mod Lists
