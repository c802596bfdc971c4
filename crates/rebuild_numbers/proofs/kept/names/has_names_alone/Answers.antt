use Rattle.std.proofs.Common.{refl, sym, ◌∙◌}
use Rattle.rebuild_numbers.proofs.kept.KeptLaws.{alone_where, alone_not}
use Rattle.rebuild_numbers.proofs.kept.names.has_names_alone.Goals as goal

pub returns-then-is_loose_strings : goal.returns-then-is_loose_strings
returns-then-is_loose_strings g c =
    alone_where c.args.elf.now.o c.args.removed.now c.args.s c.is_linked_by_kept.result _
    (sym c.is_loose_strings.ensures ∙ c.if-is_loose_strings.true) c.is_linked_by_kept.ensures refl

pub returns : goal.returns
returns g c =
    alone_not c.args.elf.now.o c.args.removed.now c.args.s
    (sym c.is_loose_strings.ensures ∙ c.if-is_loose_strings.false)
