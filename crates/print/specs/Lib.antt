-- What the contracts of `print` cite: the text that it prints of a file.
pub mod Printed
