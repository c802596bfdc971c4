pub mod Numbers
pub mod Fields
pub mod Items
pub mod Headers
pub mod Translation
pub mod Orders
