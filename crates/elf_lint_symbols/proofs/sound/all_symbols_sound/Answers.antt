use Rattle.std.proofs.Common.{◌<◌, ℕ, length, sym, subst, below_more, arith}
use Rattle.tool_objects.specs.elf_object.Object.{Object}
use Rattle.tool_objects.proofs.ElfSteps.{elf_left, elf_left_then, still_told}
use Rattle.tool_objects.proofs.SectionLemmas.{ok_value_is}
use Rattle.elf_lint_symbols.specs.Symbols.{AreSoundSymbols}
use Rattle.elf_lint_symbols.proofs.SoundLemmas.{all_sound}
use Rattle.elf_lint_symbols.proofs.sound.all_symbols_sound.Goals as goal

pub loop-s-init : goal.loop-s-init
loop-s-init g c = record {
  sound = λ told k lt. absurd (omega arith);
  elf = elf_left g.S.Source c.args.elf.now;
}

pub is_sound_section-requires : goal.is_sound_section-requires
is_sound_section-requires g c =
    let count = ok_value_is _ _ c.shnum-s-end.ensures in
    subst (λ (o : Object). c.loop-s.s < length o.sections) (sym c.loop-s.invariant.elf.object)
    (omega (arith, count, c.loop-s-test.true))

pub returns : goal.returns
returns g c =
    let count = ok_value_is _ _ c.shnum-s-end.ensures in record {
      sound = λ told is.
          all_sound c.args.elf.now.o
          (λ s lt. c.loop-s.invariant.sound told s (omega (arith, lt, count, c.loop-s-test.false)));
      reads = record { elf = c.loop-s.invariant.elf; read = tt; write = tt };
    }

pub loop-s-preserved : goal.loop-s-preserved
loop-s-preserved g c =
    let o = c.args.elf.now.o in
    let left = c.loop-s.invariant.elf in
    record {
      sound = λ told.
          below_more (λ (k : ℕ). AreSoundSymbols o k) c.loop-s.s
          (c.loop-s.invariant.sound told)
          (subst (λ (m : Object). AreSoundSymbols m c.loop-s.s) left.object
          (c.in_ok-is_sound_section.ensures.sound
          (still_told g.S.Source c.args.elf.now c.loop-s.elf left told) c.if-not-branch.false));
      elf = elf_left_then g.S.Source c.args.elf.now c.loop-s.elf _ left
          c.in_ok-is_sound_section.ensures.reads.elf;
    }
