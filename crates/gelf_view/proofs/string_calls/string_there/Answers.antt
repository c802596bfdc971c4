use Rattle.std.proofs.Common.{◌∙◌, Bool, sym, subst}
use Rattle.std.specs.Prelude.{IsTrue, ◌||◌}
use Rattle.elf_descriptor.specs.elf_object.Object.{piece_at}
use Rattle.elf_descriptor.specs.elf_object.Due.{is_loaded}
use Rattle.gelf_view.proofs.PieceBytes.{piece_there}
use Rattle.elf_descriptor.proofs.section_data.Holdings.{none_of}
use Rattle.gelf_view.proofs.string_calls.string_there.Goals as goal

pub is_edited-requires : goal.is_edited-requires
is_edited-requires g c =
    piece_there c.args.elf.now.o c.args.s.0 c.args.start.piece c.requires.passed

pub home_string-requires-clause-clean : goal.home_string-requires-clause-clean
home_string-requires-clause-clean g c =
    none_of (piece_at c.args.elf.now.o c.args.s.0 c.args.start.piece).own
    (sym c.is_edited.ensures ∙ c.if-is_edited.false)

pub home_string-requires-clause-loaded : goal.home_string-requires-clause-loaded
home_string-requires-clause-loaded g c =
    subst (λ (own : Bool). IsTrue (own || is_loaded c.args.elf.now.loaded c.args.s.0))
    (sym c.is_edited.ensures ∙ c.if-is_edited.false) c.requires.hand
