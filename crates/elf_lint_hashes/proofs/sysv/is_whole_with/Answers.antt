use Rattle.std.proofs.Common.{Some, None, false, ap, ◌∙◌}
use Rattle.elf_types.specs.declared.records.ScnId.{ScnId}
use Rattle.hash_model.specs.HashSections.{is_whole_sysv}
use Rattle.hash_model.specs.Listed.{listed_names}
use Rattle.elf_lint_findings.specs.Looking.{section_words}
use Rattle.tool_objects.proofs.LearnLemmas.{learns_map, learns_then}
use Rattle.elf_lint_hashes.specs.Sysv.{table_in, is_whole_table}
use Rattle.elf_lint_hashes.proofs.SysvWhole.{whole_is, whole_none}
use Rattle.elf_lint_hashes.proofs.sysv.is_whole_with.Goals as goal

pub returns-in-Ok-Some : goal.returns-in-Ok-Some
returns-in-Ok-Some g c =
    let o = c.args.elf.now.o in
    let s = c.args.s in
    let t = c.in-Ok-Some.t in
    let names = c.args.l.section.0 in
    let known = rw c.in-Ok-Some.field-0-is at c.in-Ok-Some.ensures.learns in
    let same = rw c.in-Ok-Some.field-0-is at c.in-Ok-Some.ensures.section in
    learns_then g.S.Source (λ m. table_in s (section_words m s.0)) (λ m. is_whole_table (section_words m t.section.0) t (listed_names m names)) (λ m. is_whole_sysv (section_words m s.0) (listed_names m names)) (Some t) _ c.args.elf.now _ _
    (λ told is. ap (λ (q : ScnId). is_whole_table (section_words o q.0) t (listed_names o names)) same ∙ whole_is (section_words o s.0) (listed_names o names) s t is) known c.is_whole_table.ensures

pub returns-in-Ok-None : goal.returns-in-Ok-None
returns-in-Ok-None g c =
    let o = c.args.elf.now.o in
    let s = c.args.s in
    let names = c.args.l.section.0 in
    let known = rw c.in-Ok-None.field-0-is at c.in-Ok-None.ensures.learns in
    learns_map g.S.Source (λ m. table_in s (section_words m s.0)) (λ m. is_whole_sysv (section_words m s.0) (listed_names m names)) None false c.args.elf.now _
    (λ told is. whole_none (section_words o s.0) (listed_names o names) s is) known
