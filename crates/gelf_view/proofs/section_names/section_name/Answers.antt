use Rattle.std.proofs.Common.{refl, sym, ap, ◌∙◌, Ok}
use Rattle.gelf_view.proofs.NameCalls.{ok_is, no_name_queries, no_name, name_queries, name_answers}
use Rattle.gelf_view.proofs.section_names.section_name.Goals as goal

pub returns-then-names-eq0 : goal.returns-then-names-eq0
returns-then-names-eq0 g c =
    let is = sym (ok_is _ _ c.shstrndx-names.ensures) ∙ c.if-names-eq0.true in (
      (refl, (λ w. tt), no_name_queries g.S.Source c.args.elf.now c.args.s.0 is _),
      record {
        answer = (refl, (λ told. ap Ok (no_name g.S.Source c.args.elf.now c.args.s.0 is)));
        rests = tt;
      },
    )

pub returns : goal.returns
returns g c =
    let is = sym (ok_is _ _ c.shstrndx-names.ensures) in
    let here = c.from.ensures ∙ c.name_field-at.ensures in
    let names = c.shstrndx-names.result in (
      (
        refl,
        (λ w. tt),
        name_queries g.S.Source c.args.elf.now c.args.s.0 names c.from.result is c.if-names-eq0.false here
            c.readable_string.result _ c.readable_string.follows.holds-at-none,
      ),
      record {
        answer = name_answers g.S.Source c.args.elf.now c.args.s.0 names c.from.result is c.if-names-eq0.false here
            _ c.readable_string.ensures.answer;
        rests = tt;
      },
    )
