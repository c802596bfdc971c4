mod Forms
pub mod Rules
mod BuiltHold
