-- What is lent to a call that plans: spans of tables, and the lender's refusals.
pub mod Spans
pub mod Rules
