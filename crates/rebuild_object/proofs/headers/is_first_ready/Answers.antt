use Rattle.elf_object.specs.elf_ident.Front.{zero_shdr}
use Rattle.rebuild_object.proofs.headers.is_first_ready.Goals as goal

pub returns : goal.returns
unfolding zero_shdr
returns c = λ same some.
    rw c.as_slice-headers.ensures at (c.is_same_header.ensures.0 same)
