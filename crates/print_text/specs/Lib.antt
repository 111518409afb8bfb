-- What the contracts of `print_text` cite: a list of reports as text.
pub mod Text
pub mod Inner
