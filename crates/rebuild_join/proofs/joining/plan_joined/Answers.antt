use Rattle.std.proofs.Common.{refl, arith}
use Rattle.rebuild_join.proofs.JoinedLaws.{elf_wanted}
use Rattle.rebuild_join.proofs.joining.plan_joined.Goals as goal

pub plan_halves-requires-clause-stripped : goal.plan_halves-requires-clause-stripped
plan_halves-requires-clause-stripped g c = record {
  object = c.dirty-sound.ensures.sound.object;
  clean = c.requires.stripped_clean;
  tied = c.requires.stripped_tied;
}

pub plan_halves-requires-clause-debug : goal.plan_halves-requires-clause-debug
plan_halves-requires-clause-debug g c = record {
  object = c.dirty-other.ensures.sound.object;
  clean = c.requires.debug_clean;
  tied = c.requires.debug_tied;
}

pub plan_halves-requires-clause-small : goal.plan_halves-requires-clause-small
plan_halves-requires-clause-small g c =
    let fits = c.in-Some.ensures.0 in
    omega (arith, fits, c.base_len.ensures, c.base_len-2.ensures)

pub returns-in-None : goal.returns-in-None
returns-in-None g c = elf_wanted c.args.stripped.now c.args.debug.now _ refl
