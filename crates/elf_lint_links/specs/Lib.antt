pub mod Links
pub mod StringTables
pub mod Dynamic
pub mod Chains
