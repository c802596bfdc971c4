-- The changes of copy once their section is known (objcopy(1) has the like of them).
use Rattle.std.specs.Prelude.{ℕ, List, Result}
use Rattle.elf_types.specs.Answers.{answered, ◌>>=◌}
use Rattle.rebuild_names.specs.elf_xlate.declared.content.Items.TheVariants as items
use Rattle.law_rebuild.specs.elf_object.Object.{Object}
use Rattle.law_rebuild.specs.elf_object.Calls.{replace, update_shdr}
use Rattle.law_rebuild.specs.elf_object.Sections.{header_at, edited}
use Rattle.rebuild_changes.specs.rebuild_model.Copied.{CopyFault, or_strip, update_fault, flags_fault, with_bits}

-- a section with other bytes
abbrev pub updated_at : Object → ℕ → List ℕ → List ℕ → Result Object CopyFault
updated_at o s name bytes =
    answered (update_fault o s name bytes) s
    >>= λ s. or_strip (edited (replace s 0 (items.Bytes bytes)) o)

-- with other flags
abbrev pub flagged_at : Object → ℕ → List ℕ → ℕ → Result Object CopyFault
flagged_at o s name bits =
    answered (flags_fault o s name bits) s
    >>= λ s. or_strip (edited (update_shdr s (with_bits bits (header_at o s))) o)
