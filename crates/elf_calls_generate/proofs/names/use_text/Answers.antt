use Rattle.elf_calls_generate.proofs.names.use_text.Goals as goal

pub use_name-requires : goal.use_name-requires
use_name-requires c = rw c.as_bytes.ensures.value c.requires

pub returns : goal.returns
returns c = rw c.as_bytes.ensures.value at c.use_name.ensures
