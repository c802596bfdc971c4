-- A refusal among others, of steps that read nothing.
use Rattle.std.proofs.Common.{◌≡◌, ◌<◌, ℕ, List, length, map, take, get_or, Option, None}
use Rattle.elf_types.specs.declared.errors.ElfError.{ElfError}
use Rattle.elf_types.specs.declared.errors.ElfError.TheVariants.{Memory, Read, Write}
use Rattle.elf_types.specs.Answers.{first_refusal}
use Rattle.rebuild_tables.specs.rebuild_making.Refused.{RefusedBy}
use Rattle.rebuild_tables.proofs.rebuild_making.RefusedLaws.{unread_stop}

-- one step for each number, of which one is refused
pub refused_stop : (f : ℕ → Option ElfError) (numbers : List ℕ) (i : ℕ) (e : ElfError)
    → i < length numbers → first_refusal (map f (take i numbers)) ≡ None
    → RefusedBy (f (get_or numbers i 0)) e → RefusedBy (first_refusal (map f numbers)) e
refused_stop f numbers i Memory there none by = tt
refused_stop f numbers i Read there none by = by
refused_stop f numbers i Write there none by = by
refused_stop f numbers i e there none by = unread_stop f numbers i e there none by
