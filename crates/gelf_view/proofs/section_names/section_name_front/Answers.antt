use Rattle.std.proofs.Common.{◌+◌, List, ℕ, Option, Ok, Err, refl, sym, ap, ◌∙◌}
use Rattle.elf_descriptor.specs.elf_object.Strings as strings
use Rattle.elf_descriptor.specs.Reads.{wanted}
use Rattle.gelf_view.specs.Records.{first_bytes_of}
use Rattle.gelf_view.specs.SectionNames as names
use Rattle.gelf_view.proofs.FetchLemmas.{queries_nothing}
use Rattle.gelf_view.proofs.NameCalls.{ok_is, same_name, front_queries, refused_queries, front_answers, front_refused}
use Rattle.gelf_view.proofs.section_names.section_name_front.Goals as goal

pub held_front-requires : goal.held_front-requires
held_front-requires g c = c.holds_name.ensures.held c.if-holds_name.true

pub returns-then-holds_name : goal.returns-then-holds_name
returns-then-holds_name g c =
    let st = c.args.elf.now in
    let n = c.args.longest + 1 in (
      (
        refl,
        (λ w. tt),
        queries_nothing g.S.Source (names.section_name_front c.args.s.0 n) (Ok c.held_front.result)
            st tt,
      ),
      record {
        answer = (
          refl,
          λ told. ap Ok (sym (c.held_front.ensures told
              ∙ ap (λ (found : Option (List ℕ)). first_bytes_of n found)
              (sym (same_name g.S.Source st c.args.s.0 c.shstrndx-names.result c.from-at.result
              (sym (ok_is _ _ c.shstrndx-names.ensures))
              (c.holds_name.ensures.some c.if-holds_name.true)
              (c.from-at.ensures ∙ c.name_field.ensures))))),
        );
        rests = tt;
      },
    )

pub returns-in-Ok : goal.returns-in-Ok
returns-in-Ok g c =
    let st = c.args.elf.now in
    let s = c.args.s.0 in
    let n = c.args.longest + 1 in (
      (
        refl,
        (λ w. tt),
        front_queries g.S.Source st _ s n c.section_name.result
            c.section_name.follows.holds-at-none c.in-Ok.name c.front_of_found.result c.in-Ok.is,
      ),
      record {
        answer = front_answers st.told (wanted (names.read_section_name s) st) n _
            (strings.section_name st.o s) _ c.front_of_found.ensures c.in-Ok.ensures.answer;
        rests = tt;
      },
    )

pub returns-in-Err : goal.returns-in-Err
returns-in-Err g c =
    let st = c.args.elf.now in
    let s = c.args.s.0 in
    let n = c.args.longest + 1 in (
      (
        refl,
        (λ w. tt),
        refused_queries g.S.Source st _ s n c.section_name.result
            c.section_name.follows.holds-at-none c.in-Err.e c.in-Err.is,
      ),
      record {
        answer = front_refused st.told (wanted (names.read_section_name s) st) c.in-Err.e
            (strings.section_name st.o s) (first_bytes_of n (strings.section_name st.o s))
            c.in-Err.ensures.answer;
        rests = tt;
      },
    )
