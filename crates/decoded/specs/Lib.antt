-- A file as the route takes it.
pub mod Lists
pub mod Inner
