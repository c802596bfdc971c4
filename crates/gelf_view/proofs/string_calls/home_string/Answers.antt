use Rattle.std.proofs.Common.{List, ℕ, Option, ap, ◌∙◌}
use Rattle.elf_types.specs.declared.errors.ElfError.TheVariants.{Unended}
use Rattle.elf_types.specs.Answers.{or_refused}
use Rattle.gelf_view.proofs.StringLemmas.{home_string_is}
use Rattle.gelf_view.proofs.string_calls.home_string.Goals as goal

pub returns-in-Some-clause-value : goal.returns-in-Some-clause-value
returns-in-Some-clause-value g c = λ told.
    let o = c.args.elf.now.o in
    let start = c.args.start in
    ap (λ (found : Option (List ℕ)). or_refused found (Unended c.args.offset)) c.in-Some.ensures
    ∙ home_string_is o c.args.s.0 c.args.offset start.piece start.start _ c.requires.clean
    (c.ended_bytes.ensures told)

pub returns-in-None-clause-value : goal.returns-in-None-clause-value
returns-in-None-clause-value g c = λ told.
    let o = c.args.elf.now.o in
    let start = c.args.start in
    ap (λ (found : Option (List ℕ)). or_refused found (Unended c.args.offset)) c.in-None.ensures
    ∙ home_string_is o c.args.s.0 c.args.offset start.piece start.start _ c.requires.clean
    (c.ended_bytes.ensures told)
