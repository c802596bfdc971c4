use Rattle.std.proofs.Common.{◌≡◌, length, true, false, IsTrue, sym, ◌∙◌, subst}
use Rattle.hash_model.specs.elf_object.Object.{Object}
use Rattle.hash_model.specs.HashSections.{is_whole_gnu}
use Rattle.hash_model.specs.Listed.{listed_names}
use Rattle.tool_objects.proofs.LearnLemmas.{learns_by, learns_after, learns_as}
use Rattle.elf_lint_findings.specs.Looking.{data_bytes}
use Rattle.elf_lint_hashes.specs.Gnu.{gnu_section_of, chains_end, all_are_found, GnuTableFitsIn}
use Rattle.elf_lint_hashes.proofs.GnuWhole.{whole_where, ends_where, not_whole}
use Rattle.elf_lint_hashes.proofs.gnu_sections.is_whole.Goals as goal

pub each_is_found-requires-clause-lies : goal.each_is_found-requires-clause-lies
each_is_found-requires-clause-lies g c =
    subst (λ (m : Object). GnuTableFitsIn (length (data_bytes m c.args.s.0)) c.in-Ok-Some.t) (sym c.in-Ok-Some.ensures.reads.elf.object) (rw c.in-Ok-Some.field-0-is at c.in-Ok-Some.ensures.lies)

pub each_is_found-requires-clause-count : goal.each_is_found-requires-clause-count
each_is_found-requires-clause-count g c = rw c.in-Ok-Some.field-0-is at c.in-Ok-Some.ensures.count

pub each_is_found-requires-clause-ends : goal.each_is_found-requires-clause-ends
each_is_found-requires-clause-ends g c = λ told.
    let o = c.args.elf.now.o in
    let s = c.args.s.0 in
    let t = c.in-Ok-Some.t in
    let before : IsTrue c.args.elf.now.told = sym c.in-Ok-Some.ensures.reads.elf.told ∙ told in
    let sound = rw c.in-Ok-Some.field-0-is at (c.in-Ok-Some.ensures.is before) in
    subst (λ (m : Object). chains_end (gnu_section_of t (data_bytes m s)) t.count ≡ true) (sym c.in-Ok-Some.ensures.reads.elf.object) (ends_where o.header.class o.header.order (data_bytes o s) (listed_names o c.args.l.section.0) c.args.l.count c.requires.count t sound)

pub returns-in-Ok-Some : goal.returns-in-Ok-Some
returns-in-Ok-Some g c =
    let o = c.args.elf.now.o in
    let s = c.args.s.0 in
    let t = c.in-Ok-Some.t in
    let names = c.args.l.section.0 in
    let found = λ (m : Object). all_are_found t.class (gnu_section_of t (data_bytes m s)) t.count (listed_names m names) in
    learns_as g.S.Source (λ m. is_whole_gnu m.header.class m.header.order (data_bytes m s) (listed_names m names)) found _ c.args.elf.now _
    (λ told. whole_where o.header.class o.header.order (data_bytes o s) (listed_names o names) c.args.l.count c.requires.count t (rw c.in-Ok-Some.field-0-is at (c.in-Ok-Some.ensures.is told)))
    (learns_after g.S.Source found _ c.args.elf.now _ _ c.in-Ok-Some.ensures.reads.elf c.each_is_found.ensures)

pub returns-in-Ok-None : goal.returns-in-Ok-None
returns-in-Ok-None g c =
    let o = c.args.elf.now.o in
    let s = c.args.s.0 in
    let names = c.args.l.section.0 in
    learns_by g.S.Source (λ m. is_whole_gnu m.header.class m.header.order (data_bytes m s) (listed_names m names)) false c.args.elf.now _ c.in-Ok-None.ensures.reads.elf
    (λ told. not_whole o.header.class o.header.order (data_bytes o s) (listed_names o names) c.args.l.count c.requires.count (rw c.in-Ok-None.field-0-is at (c.in-Ok-None.ensures.is told)))
