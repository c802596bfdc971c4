use Rattle.std.proofs.Common.{sym, subst}
use Rattle.hash_model.specs.elf_object.Object.{Object}
use Rattle.hash_model.specs.Listed.{listed_names}
use Rattle.tool_objects.proofs.LearnLemmas.{learns_after}
use Rattle.tool_objects.proofs.at_hand.Ends.{end_stays}
use Rattle.elf_lint_hashes.specs.Listed.{AreListed}
use Rattle.elf_lint_hashes.specs.Sysv.{all_are_found}
use Rattle.elf_lint_hashes.proofs.sysv.each_is_found.Goals as goal

pub all_are_found-requires-clause-listed : goal.all_are_found-requires-clause-listed
all_are_found-requires-clause-listed g c =
    subst (λ (o : Object). AreListed o c.args.l) (sym c.in-Ok.ensures.reads.elf.object)
    c.requires.listed

pub all_are_found-requires-clause-end : goal.all_are_found-requires-clause-end
all_are_found-requires-clause-end g c =
    end_stays g.S.Source c.args.elf.now c.end_of_names.new.elf c.args.l.strings.0 c.in-Ok.end
    c.in-Ok.ensures.reads.elf c.in-Ok.ensures.end

pub returns-in-Ok : goal.returns-in-Ok
returns-in-Ok g c =
    learns_after g.S.Source
    (λ o. all_are_found c.args.held.now c.args.t (listed_names o c.args.l.section.0)) _
    c.args.elf.now _ _ c.in-Ok.ensures.reads.elf c.all_are_found.ensures
