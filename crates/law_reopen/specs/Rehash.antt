pub mod RehashedFiles
