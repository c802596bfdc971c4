use Rattle.std.proofs.Common.{ℕ, List, true, false, Some, Ok, sym, ◌∙◌, arith}
use Rattle.tool_objects.proofs.at_hand.Ends.{end_stays}
use Rattle.tool_objects.proofs.ElfSteps.{elf_left}
use Rattle.tool_objects.proofs.LearnLemmas.{learns_by, learns_after}
use Rattle.hash_model.specs.Hashes.{elf_hash}
use Rattle.hash_model.specs.Listed.{listed_names}
use Rattle.elf_lint_hashes.specs.declared.listed.NameHash.TheVariants.{Sysv}
use Rattle.elf_lint_hashes.specs.Listed.{listed_hash}
use Rattle.elf_lint_hashes.specs.Sysv.{is_found, all_are_found}
use Rattle.elf_lint_hashes.proofs.ListedLemmas.{after_first, each_more, each_fails, each_passed}
use Rattle.elf_lint_hashes.proofs.SysvWhole.{found_by_hash}
use Rattle.elf_lint_hashes.proofs.sysv.all_are_found.Goals as goal

pub loop-i-init : goal.loop-i-init
loop-i-init g c =
    let w = c.args.held.now in record {
      begun = omega arith;
      left = λ told. after_first c.args.elf.now.o c.args.l.section.0
          (λ (i : ℕ) (name : List ℕ). is_found w c.args.t (Some (elf_hash name)) i);
      elf = elf_left g.S.Source c.args.elf.now;
    }

pub is_found-requires-clause-end : goal.is_found-requires-clause-end
is_found-requires-clause-end g c =
    end_stays g.S.Source c.args.elf.now c.loop-i.elf c.args.l.strings.0 c.args.end
    c.loop-i.invariant.elf c.requires.end

pub loop-i-preserved : goal.loop-i-preserved
loop-i-preserved g c =
    let o = c.args.elf.now.o in
    let t = c.args.t in
    let s = c.args.l.section.0 in
    let w = c.args.held.now in
    let i = c.loop-i.i in
    let learned = learns_after g.S.Source (λ m. is_found w t (listed_hash Sysv m s i) i)
    (Ok c.in_ok-found.found) c.args.elf.now _ _ c.loop-i.invariant.elf c.in_ok-found.ensures in
    record {
      begun = omega arith;
      left = λ told. each_more o s Sysv (λ (k : ℕ) (hash : ℕ). is_found w t (Some hash) k) i
          (c.loop-i.invariant.left told)
          (omega (arith, c.requires.listed.count, c.loop-i-test.true))
          (sym (found_by_hash w t (listed_hash Sysv o s i) i) ∙ sym (learned.value told) ∙ (cc));
      elf = learned.reads.elf;
    }

pub returns-then-not-found : goal.returns-then-not-found
returns-then-not-found g c =
    let o = c.args.elf.now.o in
    let t = c.args.t in
    let s = c.args.l.section.0 in
    let w = c.args.held.now in
    let i = c.loop-i.i in
    let learned = learns_after g.S.Source (λ m. is_found w t (listed_hash Sysv m s i) i)
    (Ok c.in_ok-found.found) c.args.elf.now _ _ c.loop-i.invariant.elf c.in_ok-found.ensures in
    learns_by g.S.Source (λ m. all_are_found w t (listed_names m s)) false c.args.elf.now _
    learned.reads.elf
    (λ told. each_fails o s Sysv (λ (k : ℕ) (hash : ℕ). is_found w t (Some hash) k) i
    (c.loop-i.invariant.left told) (omega (arith, c.requires.listed.count, c.loop-i-test.true))
    (sym (found_by_hash w t (listed_hash Sysv o s i) i) ∙ sym (learned.value told) ∙ (cc)))

pub returns : goal.returns
returns g c =
    let o = c.args.elf.now.o in
    let t = c.args.t in
    let s = c.args.l.section.0 in
    let w = c.args.held.now in
    learns_by g.S.Source (λ m. all_are_found w t (listed_names m s)) true c.args.elf.now _
    c.loop-i.invariant.elf
    (λ told. each_passed o s Sysv (λ (k : ℕ) (hash : ℕ). is_found w t (Some hash) k) c.loop-i.i
    (c.loop-i.invariant.left told) (omega (arith, c.requires.listed.count, c.loop-i-test.false)))
