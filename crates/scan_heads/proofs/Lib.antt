-- Laws of the documents on which scorers stand.
pub mod Heading
