use Rattle.std.proofs.Common.{refl}
use Rattle.elf_types.proofs.constants.constants_are.Goals as goal

pub returns-clause-identification : goal.returns-clause-identification
returns-clause-identification c = refl

pub returns-clause-numbering : goal.returns-clause-numbering
returns-clause-numbering c = refl

pub returns-clause-section_types : goal.returns-clause-section_types
returns-clause-section_types c = refl

pub returns-clause-section_flags : goal.returns-clause-section_flags
returns-clause-section_flags c = refl

pub returns-clause-segments : goal.returns-clause-segments
returns-clause-segments c = refl

pub returns-clause-symbols : goal.returns-clause-symbols
returns-clause-symbols c = refl

pub returns-clause-limits : goal.returns-clause-limits
returns-clause-limits c = refl

pub returns-clause-part_flags : goal.returns-clause-part_flags
returns-clause-part_flags c = refl

pub returns-clause-elf_magic : goal.returns-clause-elf_magic
returns-clause-elf_magic c = refl

pub returns-clause-archive_magic : goal.returns-clause-archive_magic
returns-clause-archive_magic c = refl
