pub mod SplitFiles
