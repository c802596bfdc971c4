use Rattle.std.proofs.Common.{List, ℕ, Option, Ok, refl, sym, ap, ◌∙◌}
use Rattle.elf_descriptor.specs.elf_object.Strings.{is_name}
use Rattle.gelf_view.specs.SectionNames as names
use Rattle.gelf_view.proofs.FetchLemmas.{queries_nothing}
use Rattle.gelf_view.proofs.NameCalls.{ok_is, same_name}
use Rattle.gelf_view.proofs.section_names.is_named.Goals as goal

pub held_is-requires : goal.held_is-requires
held_is-requires g c = c.holds_name.ensures.held c.if-holds_name.true

pub returns-then-holds_name-clause-answer : goal.returns-then-holds_name-clause-answer
returns-then-holds_name-clause-answer g c =
    let st = c.args.elf.now in (
      refl,
      λ told. ap Ok (sym (c.held_is.ensures told
          ∙ ap (λ (found : Option (List ℕ)). is_name c.args.name.now found)
          (sym (same_name g.S.Source st c.args.s.0 c.shstrndx-names.result c.from-at.result
          (sym (ok_is _ _ c.shstrndx-names.ensures))
          (c.holds_name.ensures.some c.if-holds_name.true)
          (c.from-at.ensures ∙ c.name_field.ensures))))),
    )

pub returns-then-holds_name-clause-queries : goal.returns-then-holds_name-clause-queries
returns-then-holds_name-clause-queries g c =
    queries_nothing g.S.Source (names.is_section_named c.args.s.0 c.args.name.now)
    (Ok c.held_is.result) c.args.elf.now tt
