use Rattle.std.proofs.Common.{ℕ, List, Option, drop, ap, ◌∙◌, arith}
use Rattle.elf_types.specs.declared.errors.ElfError.TheVariants.{Unended}
use Rattle.elf_types.specs.Answers.{or_refused}
use Rattle.gelf_view.specs.Records.{string_front}
use Rattle.gelf_view.proofs.PieceBytes.{file_count, file_same}
use Rattle.gelf_view.proofs.string_calls.own_string.Goals as goal

pub bytes_from-requires : goal.bytes_from-requires
bytes_from-requires g c =
    let count = file_count c.args.elf.now.o c.args.s.0 c.args.start.piece c.requires.passed in
    omega (arith, count, c.requires.within, c.bytes_there-bytes.ensures.count)

pub returns-in-Some-clause-value : goal.returns-in-Some-clause-value
returns-in-Some-clause-value g c = λ told.
    let there = c.bytes_there-bytes.result.now in
    let exact = c.bytes_there-bytes.ensures.exact told in
    let same =
    file_same c.args.elf.now.o c.args.s.0 c.args.start.piece there c.requires.passed exact
    c.bytes_are_ranged.ensures.bytes in
    ap (λ (found : Option (List ℕ)). or_refused found (Unended c.args.offset))
    (c.in-Some.ensures ∙ ap string_front (c.bytes_from.ensures ∙ ap (drop c.args.start.start) same))

pub returns-in-None-clause-value : goal.returns-in-None-clause-value
returns-in-None-clause-value g c = λ told.
    let there = c.bytes_there-bytes.result.now in
    let exact = c.bytes_there-bytes.ensures.exact told in
    let same =
    file_same c.args.elf.now.o c.args.s.0 c.args.start.piece there c.requires.passed exact
    c.bytes_are_ranged.ensures.bytes in
    ap (λ (found : Option (List ℕ)). or_refused found (Unended c.args.offset))
    (c.in-None.ensures ∙ ap string_front (c.bytes_from.ensures ∙ ap (drop c.args.start.start) same))
