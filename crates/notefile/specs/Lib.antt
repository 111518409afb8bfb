-- The note file as 01 lays it out: header, entries and parts, skip entries, the decoded lists, the table's conditions 1 to 9 and their
-- order; and what the contracts of the readers, of `listcheck` and of `notecheck` cite beside these.
pub mod Header
pub mod Parts
pub mod Skips
pub mod Lists
pub mod Conditions
pub mod Refusal
pub mod Inner
