-- The definitions of this crate, in a reader's order: the order of rows, the text, the report; then what the private
-- steps promise one another.
pub mod Order
pub mod Text
pub mod Report
pub mod Steps
