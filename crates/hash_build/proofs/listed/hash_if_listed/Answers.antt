use Rattle.std.proofs.Common.{◌==◌, ◌&&◌, ℕ, not, None, Ok, sym, ◌∙◌, subst}
use Rattle.elf_types.specs.Answers.{Follows}
use Rattle.symbol_lookup.specs.elf_object.Strings.{readable, string_answer}
use Rattle.symbol_lookup.specs.hash_model.Listed.{is_defined_global, not_empty}
use Rattle.hash_build.proofs.ReadLaws.{table_nothing}
use Rattle.hash_build.proofs.ListedLaws.{name_hash, listed_when, listed_not, first_unlisted}
use Rattle.hash_build.proofs.listed.hash_if_listed.Goals as goal

pub returns-then-may_be_listed-clause-follows : goal.returns-then-may_be_listed-clause-follows
returns-then-may_be_listed-clause-follows g c = λ told.
    let o = c.args.elf.now.o in
    let strings = c.args.t.strings.0 in
    listed_when c.args.by (not (c.args.i == 0) && is_defined_global c.args.x)
    (not_empty (readable (string_answer o strings c.args.x.name))) c.hash_of_string.result
    (sym c.may_be_listed.ensures ∙ c.if-may_be_listed.true)
    (subst (λ (n : ℕ). Follows c.hash_of_string.result
    (Ok (name_hash c.args.by (not_empty (readable (string_answer o strings n))))))
    c.from.ensures (c.hash_of_string.ensures.follows told))

pub returns-then-may_be_listed-clause-first : goal.returns-then-may_be_listed-clause-first
returns-then-may_be_listed-clause-first g c = λ first.
    absurd (first_unlisted c.args.i c.may_be_listed.result (is_defined_global c.args.x) first
    c.may_be_listed.ensures c.if-may_be_listed.true)

pub returns-clause-follows : goal.returns-clause-follows
returns-clause-follows g c = λ told.
    listed_not c.args.by (not (c.args.i == 0) && is_defined_global c.args.x)
    (not_empty (readable (string_answer c.args.elf.now.o c.args.t.strings.0 c.args.x.name)))
    (sym c.may_be_listed.ensures ∙ c.if-may_be_listed.false)

pub returns-clause-reads : goal.returns-clause-reads
returns-clause-reads g c =
    table_nothing g.S.Source c.args.t.section.0 None c.args.elf.now
