use Rattle.std.proofs.Common.{Ok, is_some, ap, ◌∙◌, sym}
use Rattle.elf_descriptor.specs.elf_object.Object.{piece_at}
use Rattle.gelf_view.proofs.FetchLemmas.{kind_bytes, kind_other}
use Rattle.gelf_view.proofs.fetching.own_if_bytes.Goals as goal

pub is_edited-requires : goal.is_edited-requires
is_edited-requires g c =
    (kind_bytes c.args.elf.now.o c.args.d.section c.args.d.piece (is_some (piece_at c.args.elf.now.o c.args.d.section c.args.d.piece).own)
    (ap Ok (sym c.in-Bytes.is) ∙ c.requires)).1

pub returns-in-Bytes-clause-answer : goal.returns-in-Bytes-clause-answer
returns-in-Bytes-clause-answer g c =
    ap Ok c.is_edited.ensures
    ∙ (kind_bytes c.args.elf.now.o c.args.d.section c.args.d.piece (is_some (piece_at c.args.elf.now.o c.args.d.section c.args.d.piece).own)
    (ap Ok (sym c.in-Bytes.is) ∙ c.requires)).0

pub returns-in_default : goal.returns-in_default
returns-in_default g c = record {
  answer = kind_other c.args.elf.now.o c.args.d.section c.args.d.piece (is_some (piece_at c.args.elf.now.o c.args.d.section c.args.d.piece).own) c.args.kind c.requires c.in_default.not-Bytes;
  err = tt;
}
