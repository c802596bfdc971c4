pub use Rattle.elfkit_edit.specs.calls_tool
pub use Rattle.elfkit_edit.specs as elfkit_edit
pub use Rattle.elfkit_edit.specs.elfkit_read
pub use Rattle.elfkit_words.specs as elfkit_words
pub mod Program
pub mod Sentences
