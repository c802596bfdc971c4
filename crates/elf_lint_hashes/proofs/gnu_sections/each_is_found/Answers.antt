use Rattle.std.proofs.Common.{◌≡◌, Bool, true, length, IsTrue, sym, subst}
use Rattle.hash_model.specs.elf_object.Object.{Object}
use Rattle.hash_model.specs.Listed.{listed_names}
use Rattle.tool_objects.proofs.LearnLemmas.{learns_after}
use Rattle.tool_objects.proofs.at_hand.Ends.{end_stays}
use Rattle.elf_lint_findings.specs.Looking.{data_bytes}
use Rattle.elf_lint_hashes.specs.Gnu.{gnu_section_of, chains_end, all_are_found, GnuTableFitsIn}
use Rattle.elf_lint_hashes.specs.Listed.{AreListed}
use Rattle.elf_lint_hashes.proofs.gnu_sections.each_is_found.Goals as goal

pub all_are_found-requires-clause-lies : goal.all_are_found-requires-clause-lies
all_are_found-requires-clause-lies g c =
    subst (λ (o : Object). GnuTableFitsIn (length (data_bytes o c.args.s.0)) c.args.t)
    (sym c.in-Ok.ensures.reads.elf.object) c.requires.lies

pub all_are_found-requires-clause-listed : goal.all_are_found-requires-clause-listed
all_are_found-requires-clause-listed g c =
    subst (λ (o : Object). AreListed o c.args.l) (sym c.in-Ok.ensures.reads.elf.object)
    c.requires.listed

pub all_are_found-requires-clause-end : goal.all_are_found-requires-clause-end
all_are_found-requires-clause-end g c =
    end_stays g.S.Source c.args.elf.now c.end_of_names.new.elf c.args.l.strings.0 c.in-Ok.end
    c.in-Ok.ensures.reads.elf c.in-Ok.ensures.end

pub all_are_found-requires-clause-ends : goal.all_are_found-requires-clause-ends
all_are_found-requires-clause-ends g c = λ told.
    let t = c.args.t in
    let left = c.in-Ok.ensures.reads.elf in
    subst (λ (o : Object). chains_end (gnu_section_of t (data_bytes o c.args.s.0)) t.count ≡ true)
    (sym left.object) (c.requires.ends (subst (λ (is : Bool). IsTrue is) left.told told))

pub returns-in-Ok : goal.returns-in-Ok
returns-in-Ok g c =
    let t = c.args.t in
    learns_after g.S.Source (λ o. all_are_found t.class (gnu_section_of t (data_bytes o c.args.s.0))
    t.count (listed_names o c.args.l.section.0)) _ c.args.elf.now _ _
    c.in-Ok.ensures.reads.elf c.all_are_found.ensures
