use Rattle.std.proofs.Common.{◌≡◌, false, true, ◌∙◌}
use Rattle.rebuild_join.specs.declared.joined.faults.UnstripFault.TheVariants as faults
use Rattle.rebuild_join.proofs.joined.FilledLaws.{combine_mismatch}
use Rattle.rebuild_join.proofs.joined.MatchLaws.{match_told}
use Rattle.rebuild_join.proofs.JoinedLaws.{joined_stops, elf_wanted, debug_wanted}
use Rattle.rebuild_join.proofs.joining.plan_halves.Goals as goal

pub returns-in-Err : goal.returns-in-Err
returns-in-Err g c =
    elf_wanted c.args.stripped.now c.args.debug.now c.in-Err.e c.in-Err.ensures.err

pub are_halves-requires : goal.are_halves-requires
are_halves-requires g c = c.as_slice.ensures ∙ c.in-Ok.ensures.ok

pub returns-in-Err-are_halves : goal.returns-in-Err-are_halves
returns-in-Err-are_halves g c =
    debug_wanted c.args.stripped.now c.args.debug.now c.in-Err-are_halves.e
    c.in-Err-are_halves.ensures.err

pub returns-then-not-same : goal.returns-then-not-same
returns-then-not-same g c =
    let no : c.in-Ok-are_halves.same ≡ false = cc in
    joined_stops c.args.stripped.now c.args.debug.now faults.Mismatch
    (combine_mismatch c.args.stripped.now.o c.args.debug.now.o
    (match_told c.args.stripped.now.o c.args.debug.now.o c.in-Ok-are_halves.same false
    c.in-Ok-are_halves.ensures.ok no)) tt

pub plan_matched-requires-clause-matches : goal.plan_matched-requires-clause-matches
plan_matched-requires-clause-matches g c =
    let yes : c.in-Ok-are_halves.same ≡ true = cc in
    match_told c.args.stripped.now.o c.args.debug.now.o c.in-Ok-are_halves.same true
    c.in-Ok-are_halves.ensures.ok yes

pub plan_matched-requires-clause-loaded : goal.plan_matched-requires-clause-loaded
plan_matched-requires-clause-loaded g c = c.as_slice-2.ensures ∙ c.in-Ok.ensures.ok
