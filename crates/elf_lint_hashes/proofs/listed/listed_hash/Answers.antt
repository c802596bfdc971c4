use Rattle.std.proofs.Common.{Some, None, sym, subst}
use Rattle.hash_model.specs.elf_object.Object.{Object}
use Rattle.tool_objects.proofs.at_hand.Ends.{end_stays}
use Rattle.std.specs.Prelude.{slice_get}
use Rattle.std.specs.Option.{option_map}
use Rattle.hash_model.specs.Listed.{listed_name}
use Rattle.elf_lint_findings.specs.Looking.{section_symbols}
use Rattle.tool_objects.proofs.LearnLemmas.{learns_map, learns_then}
use Rattle.elf_lint_hashes.specs.Listed.{hash_by, listed_hash, AreListed}
use Rattle.elf_lint_hashes.proofs.ListedLemmas.{listed_at, listed_none}
use Rattle.elf_lint_hashes.proofs.listed.listed_hash.Goals as goal

pub returns-in-Ok-Some : goal.returns-in-Ok-Some
returns-in-Ok-Some g c =
    let s = c.args.l.section.0 in
    let i = c.args.i in
    let x = c.in-Ok-Some.x in
    learns_then g.S.Source (λ o. slice_get (section_symbols o s) i) (λ o. option_map (hash_by c.args.by) (listed_name o s i x)) (λ o. listed_hash c.args.by o s i) (Some x) _ c.args.elf.now _ _
    (λ told known. listed_at c.args.elf.now.o s c.args.by i c.requires.listed.passed x known) (rw c.in-Ok-Some.field-0-is at c.in-Ok-Some.ensures) c.hash_if_listed.ensures

pub returns-in-Ok-None : goal.returns-in-Ok-None
returns-in-Ok-None g c =
    let s = c.args.l.section.0 in
    let i = c.args.i in
    learns_map g.S.Source (λ o. slice_get (section_symbols o s) i) (λ o. listed_hash c.args.by o s i) None None c.args.elf.now _
    (λ told known. listed_none c.args.elf.now.o s c.args.by i c.requires.listed.passed known) (rw c.in-Ok-None.field-0-is at c.in-Ok-None.ensures)

pub hash_if_listed-requires-clause-listed : goal.hash_if_listed-requires-clause-listed
hash_if_listed-requires-clause-listed g c =
    let known = rw c.in-Ok-Some.field-0-is at c.in-Ok-Some.ensures in
    subst (λ (o : Object). AreListed o c.args.l) (sym known.reads.elf.object) c.requires.listed

pub hash_if_listed-requires-clause-end : goal.hash_if_listed-requires-clause-end
hash_if_listed-requires-clause-end g c =
    let known = rw c.in-Ok-Some.field-0-is at c.in-Ok-Some.ensures in
    end_stays g.S.Source c.args.elf.now c.symbol_at.new.elf c.args.l.strings.0 c.args.end
    known.reads.elf c.requires.end
