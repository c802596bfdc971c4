use Rattle.std.proofs.Common.{[], drop, Ok, refl, ap, ◌∙◌}
use Rattle.elf_descriptor.specs.elf_object.Object.{Object}
use Rattle.elf_types.specs.declared.errors.ElfError.TheVariants.{Unended}
use Rattle.elf_types.specs.Answers.{or_refused}
use Rattle.elf_descriptor.specs.elf_object.Strings.{strptr}
use Rattle.elf_descriptor.proofs.EntryCalls.{queries_then}
use Rattle.gelf_view.specs.declared.string_places.Start.{Start}
use Rattle.gelf_view.specs.Records.{string_front}
use Rattle.gelf_view.specs.Strings.{bytes_in}
use Rattle.gelf_view.proofs.FetchLemmas.{queries_nothing}
use Rattle.gelf_view.proofs.TableStrings.{table_begins}
use Rattle.gelf_view.proofs.StringCalls.{string_found, unended_seen, unended_refusal}
use Rattle.gelf_view.proofs.string_calls.strptr.Goals as goal

pub home_string-requires-clause-clean : goal.home_string-requires-clause-clean
home_string-requires-clause-clean g c = (c.holds_table.ensures c.if-holds_table.true).clean

pub home_string-requires-clause-loaded : goal.home_string-requires-clause-loaded
home_string-requires-clause-loaded g c = (c.holds_table.ensures c.if-holds_table.true).loaded

pub returns-then-holds_table : goal.returns-then-holds_table
returns-then-holds_table g c =
    let begins = table_begins c.args.elf.now c.args.s.0 c.args.offset (c.holds_table.ensures c.if-holds_table.true) in
    let start : Start = record { piece = 0; start = c.args.offset } in (
      (
        refl,
        (λ w. tt),
        queries_then g.S.Source (strptr c.args.s.0 c.args.offset) [] start c.home_string.result c.args.elf.now c.args.elf.now
            (unended_refusal c.home_string.result c.args.offset c.home_string.ensures.err)
            (queries_nothing g.S.Source (strptr c.args.s.0 c.args.offset) (Ok start) c.args.elf.now tt),
      ),
      record {
        answer = string_found g.S.Source c.args.elf.now c.args.elf.now c.args.s.0 c.args.offset 0 c.args.offset begins c.args.elf.now.told _
            (unended_seen c.home_string.result c.args.offset c.home_string.ensures.err)
            (λ told. c.home_string.ensures.value told);
        rests = tt;
      },
    )

pub returns-in-Ok : goal.returns-in-Ok
returns-in-Ok g c =
    let begins = c.in-Ok.ensures.begins in
    let asked = c.in-Ok.ensures.queries in
    let st = c.args.elf.now in
    let after = c.note_and_fetch.new.elf in
    let s = c.args.s.0 in
    let offset = c.args.offset in
    let start = c.in-Ok.start in
    let found = c.string_there.result in (
      (
        refl,
        (λ w. tt),
        queries_then g.S.Source (strptr s offset) [] start found st after
            (unended_refusal found offset c.string_there.ensures.err) asked,
      ),
      record {
        answer = string_found g.S.Source st after s offset start.piece start.start begins st.told _
            (unended_seen found offset c.string_there.ensures.err)
            (λ told.
            c.string_there.ensures.value (asked.reads.told ∙ told)
            ∙ ap (λ (o : Object).
            or_refused (string_front (drop start.start (bytes_in o s start.piece)))
            (Unended offset)) asked.object);
        rests = tt;
      },
    )
