use Rattle.std.proofs.Common.{◌≡◌, true, false, sym, ◌∙◌, arith, below_more}
use Rattle.section_table.specs.elf_object.Object.{no_phdr}
use Rattle.elf_descriptor.proofs.FrontTables.{same_here, same_lists, true_is_false}
use Rattle.elf_descriptor.proofs.body.fronts.same_phdrs.Goals as goal

pub loop-i-init : goal.loop-i-init
loop-i-init c = λ k below. absurd (omega (arith, below))

pub loop-i-preserved : goal.loop-i-preserved
loop-i-preserved c =
    let yes : c.same_phdr.result ≡ true = cc in
    below_more _ _ c.loop-i.invariant
    (same_here no_phdr _ _ c.args.ones.now c.args.others.now c.loop-i.i
    c.phdr_at-one.ensures c.phdr_at-other.ensures (c.same_phdr.ensures.same.0 yes))

pub returns-then-not-same_phdr : goal.returns-then-not-same_phdr
returns-then-not-same_phdr c =
    let no : c.same_phdr.result ≡ false = cc in
    record {
      index = c.loop-i.i;
      one = c.phdr_at-one.result;
      other = c.phdr_at-other.result;
      first = c.phdr_at-one.ensures;
      second = c.phdr_at-other.ensures;
      differs = λ same. true_is_false (sym (c.same_phdr.ensures.same.1 same) ∙ no);
      ranged = c.same_phdr.ensures.ranged;
    }

pub returns : goal.returns
returns c =
    same_lists no_phdr c.args.ones.now c.args.others.now c.loop-i.i c.requires
    (omega (arith, c.loop-i-test.false)) c.loop-i.invariant
