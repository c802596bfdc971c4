use Rattle.std.proofs.Common.{◌≡◌, ℕ, subst, arith}
use Rattle.elf_calls_generate.specs.Stages.{IsStage, data_sections, data_names}
use Rattle.elf_calls_generate.proofs.StageLaws.{some_data}
use Rattle.elf_calls_generate.proofs.sections.add_data_sections.Goals as goal

pub loop-k-init : goal.loop-k-init
loop-k-init c = record { stage = c.requires.none; within = omega arith }

pub add_next-requires-clause-some : goal.add_next-requires-clause-some
add_next-requires-clause-some c =
    some_data c.args.n c.loop-k.k c.loop-k.elf c.loop-k.invariant.stage.made

pub returns-in-Err-clause-err : goal.returns-in-Err-clause-err
returns-in-Err-clause-err c =
    c.in-Err.ensures.err c.args.n (omega (arith, c.loop-k-test.true)) c.requires.few
    c.loop-k.invariant.stage

pub loop-k-preserved : goal.loop-k-preserved
loop-k-preserved c = record {
  stage =
      c.in_default.ensures.made c.args.n (omega (arith, c.loop-k-test.true))
      c.loop-k.invariant.stage;
  within = omega (arith, c.loop-k-test.true);
}

pub returns-clause-made : goal.returns-clause-made
returns-clause-made c =
    let all : c.loop-k.k ≡ c.args.n =
    omega (arith, c.loop-k-test.false, c.loop-k.invariant.within) in
    subst (λ (k : ℕ). IsStage (data_sections c.args.n k) (data_names k) c.loop-k.elf c.loop-k.names)
    all c.loop-k.invariant.stage
