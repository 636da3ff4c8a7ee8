-- Laws of spans and of the lender's refusals.
pub mod Spans
pub mod Rules
