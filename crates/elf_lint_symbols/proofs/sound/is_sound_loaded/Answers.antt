use Rattle.std.proofs.Common.{sym, ◌∙◌}
use Rattle.elf_types.specs.declared.records.Kind.TheVariants as kinds
use Rattle.tool_objects.specs.elf_object.Answers.{syms_of}
use Rattle.tool_objects.specs.AtHand.Items.{held_items}
use Rattle.elf_lint_findings.proofs.LentLemmas.{symbols_are}
use Rattle.elf_lint_symbols.proofs.SoundLemmas.{are_sound}
use Rattle.elf_lint_symbols.proofs.sound.is_sound_loaded.Goals as goal

pub are_sound-requires : goal.are_sound-requires
are_sound-requires g c = c.in-Some.ensures.whole

pub returns-in-Some : goal.returns-in-Some
returns-in-Some g c = λ told sound.
    let o = c.args.elf.now.o in
    are_sound o c.args.t c.args.end c.requires.table (c.requires.end told)
    (sym c.tells.ensures ∙ c.if-not-tells.false) (held_items kinds.Sym syms_of c.in-Some.items)
    (symbols_are o c.args.t.section.0 c.requires.table.passed ∙ c.in-Some.ensures.items told)
    (c.are_sound.ensures sound)
