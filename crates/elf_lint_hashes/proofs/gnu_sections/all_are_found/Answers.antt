use Rattle.std.proofs.Common.{ℕ, List, true, false, Some, None, Ok, Err, IsTrue, arith}
use Rattle.hash_model.specs.elf_object.Object.{Object}
use Rattle.tool_objects.proofs.ElfSteps.{elf_left}
use Rattle.tool_objects.proofs.LearnLemmas.{learns_by, learns_after, learns_stop}
use Rattle.hash_model.specs.HashSections.{is_found_gnu}
use Rattle.hash_model.specs.Listed.{listed_names}
use Rattle.elf_lint_findings.specs.Looking.{data_bytes}
use Rattle.elf_lint_hashes.specs.declared.listed.NameHash.TheVariants.{Gnu}
use Rattle.elf_lint_hashes.specs.Listed.{listed_hash}
use Rattle.elf_lint_hashes.specs.Gnu.{gnu_section_of, run_after, all_are_found}
use Rattle.elf_lint_hashes.proofs.GnuWords.{bucket_some}
use Rattle.elf_lint_hashes.proofs.GnuChains.{run_begins}
use Rattle.elf_lint_hashes.proofs.GnuWhole.{found_by, step_some, step_none}
use Rattle.elf_lint_hashes.proofs.ListedLemmas.{after_first, each_more, each_fails, each_passed}
use Rattle.tool_objects.proofs.at_hand.Ends.{end_stays}
use Rattle.elf_lint_hashes.proofs.gnu_sections.all_are_found.Goals as goal

pub run_behind-requires-clause-end : goal.run_behind-requires-clause-end
run_behind-requires-clause-end g c =
    end_stays g.S.Source c.args.elf.now c.loop-i.elf c.args.l.strings.0 c.args.end
    c.loop-i.invariant.elf c.requires.end

pub loop-i-init : goal.loop-i-init
loop-i-init g c =
    let o = c.args.elf.now.o in
    let t = c.args.t in
    let h = gnu_section_of t (data_bytes o c.args.s.0) in record {
      begun = omega arith;
      run = λ told. run_begins h t.count;
      left = λ told. after_first o c.args.l.section.0 (λ (i : ℕ) (name : List ℕ). is_found_gnu t.class h t.count i name);
      elf = elf_left g.S.Source c.args.elf.now;
    }

pub loop-i-preserved : goal.loop-i-preserved
unfolding is_found_gnu
loop-i-preserved g c =
    let o = c.args.elf.now.o in
    let t = c.args.t in
    let s = c.args.s.0 in
    let h = gnu_section_of t (data_bytes o s) in
    let names = c.args.l.section.0 in
    let i = c.loop-i.i in
    let next = c.in-Ok-Some.next in
    let learned = learns_after g.S.Source (λ m. run_after t.class (gnu_section_of t (data_bytes m s)) t.count c.loop-i.start i (listed_hash Gnu m names i)) (Ok (Some next)) c.args.elf.now _ _ c.loop-i.invariant.elf (rw c.in-Ok-Some.field-0-is at c.in-Ok-Some.ensures) in
    let step = λ (told : IsTrue c.args.elf.now.told). step_some t.class h t.count c.loop-i.start i (c.loop-i.invariant.run told) (bucket_some t (data_bytes o s) c.requires.lies) (c.requires.ends told) (listed_hash Gnu o names i) next (learned.value told) in
    record {
      begun = omega arith;
      run = λ told. (step told).0;
      left = λ told. each_more o names Gnu (found_by t.class h t.count) i (c.loop-i.invariant.left told) (omega (arith, c.requires.listed.count, c.loop-i-test.true)) (step told).1;
      elf = learned.reads.elf;
    }

pub returns-in-Ok-None : goal.returns-in-Ok-None
unfolding is_found_gnu
returns-in-Ok-None g c =
    let o = c.args.elf.now.o in
    let t = c.args.t in
    let s = c.args.s.0 in
    let h = gnu_section_of t (data_bytes o s) in
    let names = c.args.l.section.0 in
    let i = c.loop-i.i in
    let learned = learns_after g.S.Source (λ m. run_after t.class (gnu_section_of t (data_bytes m s)) t.count c.loop-i.start i (listed_hash Gnu m names i)) (Ok None) c.args.elf.now _ _ c.loop-i.invariant.elf (rw c.in-Ok-None.field-0-is at c.in-Ok-None.ensures) in
    learns_by g.S.Source (λ m. all_are_found t.class (gnu_section_of t (data_bytes m s)) t.count (listed_names m names)) false c.args.elf.now _ learned.reads.elf
    (λ told. each_fails o names Gnu (found_by t.class h t.count) i (c.loop-i.invariant.left told) (omega (arith, c.requires.listed.count, c.loop-i-test.true))
    (step_none t.class h t.count c.loop-i.start i (c.loop-i.invariant.run told) (bucket_some t (data_bytes o s) c.requires.lies) (c.requires.ends told) (listed_hash Gnu o names i) (learned.value told)))

pub returns-in-Err : goal.returns-in-Err
returns-in-Err g c =
    let t = c.args.t in
    let s = c.args.s.0 in
    let names = c.args.l.section.0 in
    let run = λ (m : Object). run_after t.class (gnu_section_of t (data_bytes m s)) t.count c.loop-i.start c.loop-i.i (listed_hash Gnu m names c.loop-i.i) in
    learns_stop g.S.Source run (λ m. all_are_found t.class (gnu_section_of t (data_bytes m s)) t.count (listed_names m names)) c.in-Err.stop c.args.elf.now _
    (learns_after g.S.Source run (Err c.in-Err.stop) c.args.elf.now _ _ c.loop-i.invariant.elf c.in-Err.ensures)

pub returns : goal.returns
unfolding is_found_gnu
returns g c =
    let o = c.args.elf.now.o in
    let t = c.args.t in
    let s = c.args.s.0 in
    let h = gnu_section_of t (data_bytes o s) in
    let names = c.args.l.section.0 in
    learns_by g.S.Source (λ m. all_are_found t.class (gnu_section_of t (data_bytes m s)) t.count (listed_names m names)) true c.args.elf.now _ c.loop-i.invariant.elf
    (λ told. each_passed o names Gnu (found_by t.class h t.count) c.loop-i.i (c.loop-i.invariant.left told) (omega (arith, c.requires.listed.count, c.loop-i-test.false)))
