-- Laws of the text, and examples of it.
mod Pieces
mod Numbers
mod Answering
pub mod Cases
