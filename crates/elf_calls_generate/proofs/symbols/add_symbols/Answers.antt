use Rattle.std.proofs.Common.{◌≡◌, ℕ, subst, arith}
use Rattle.elf_calls_generate.specs.Stages.{AreSymbols}
use Rattle.elf_calls_generate.proofs.symbols.add_symbols.Goals as goal

pub loop-k-init : goal.loop-k-init
loop-k-init c = record { are = c.requires.none; within = omega arith }

pub returns-in-Err-clause-err : goal.returns-in-Err-clause-err
returns-in-Err-clause-err c =
    c.in-Err.ensures.err c.args.n (omega (arith, c.loop-k-test.true)) c.requires.few
    c.loop-k.invariant.are

pub loop-k-preserved : goal.loop-k-preserved
loop-k-preserved c = record {
  are =
      c.in_default.ensures.made c.args.n (omega (arith, c.loop-k-test.true)) c.loop-k.invariant.are;
  within = omega (arith, c.loop-k-test.true);
}

pub returns-clause-made : goal.returns-clause-made
returns-clause-made c =
    let all : c.loop-k.k ≡ c.args.n =
    omega (arith, c.loop-k-test.false, c.loop-k.invariant.within) in
    subst (λ (k : ℕ). AreSymbols c.args.n k c.loop-k.symbols c.loop-k.strings) all
    c.loop-k.invariant.are
