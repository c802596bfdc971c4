use Rattle.std.proofs.Common.{ℕ, sym, subst}
use Rattle.elf_lint_hashes.specs.Gnu.{gnu_section_of}
use Rattle.elf_lint_hashes.proofs.GnuChains.{IsEndBelow, end_begins, end_is}
use Rattle.elf_lint_hashes.proofs.gnu.end_of.Goals as goal

pub loop-i-init : goal.loop-i-init
unfolding gnu_section_of
loop-i-init c =
    let h = gnu_section_of c.args.t.now c.args.bytes.now in
    subst (λ (i : ℕ). IsEndBelow h c.args.t.now.count i 0) (sym c.from-i.ensures) (end_begins h c.args.t.now.count)

pub returns : goal.returns
returns c =
    end_is (gnu_section_of c.args.t.now c.args.bytes.now) c.args.t.now.count c.loop-i.i c.loop-i.end c.loop-i.invariant c.loop-i-test.false
