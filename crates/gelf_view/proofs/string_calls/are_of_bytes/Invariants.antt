use Rattle.std.proofs.Common.{◌≡◌, true, take}
use Rattle.std.specs.List.{list_all}
use Rattle.elf_types.specs.declared.records.Kind.TheVariants as kinds
use Rattle.elf_descriptor.specs.elf_object.Object.{section_at}
use Rattle.elf_descriptor.specs.elf_object.Answers.{same_kind}
use Rattle.elf_descriptor.specs.elf_object.Strings.{kind_of_piece}
use Rattle.gelf_view.proofs.string_calls.are_of_bytes.Given as goal

abbrev pub invariant-loop-piece : goal.invariant-loop-piece
invariant-loop-piece g l =
    list_all (λ p. same_kind (kind_of_piece (section_at l.elf.o l.s.0) p) kinds.Bytes) (take l.piece (section_at l.elf.o l.s.0).pieces) ≡ true
