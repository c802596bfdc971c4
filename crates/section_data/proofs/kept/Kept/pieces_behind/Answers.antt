use Rattle.std.proofs.Common.{◌<◌, Some, Option, sym, ap, subst, ◌∙◌, arith}
use Rattle.elf_types.specs.declared.constants.TheConstants.{MAX_PIECES}
use Rattle.section_data.specs.Views.{home_view}
use Rattle.section_data.specs.declared.used.Used.{Used}
use Rattle.section_data.specs.Kept.{unboxed, used_view}
use Rattle.section_data.specs.Spans.{IsRun}
use Rattle.section_data.proofs.LeadingPieces.{run_behind, run_fits}
use Rattle.section_data.proofs.kept.Kept.pieces_behind.Goals as goal

pub overflow_add-result : goal.overflow_add-result
overflow_add-result c =
    let inside = c.self.inside in
    let home = home_view inside.at inside.len inside.kind inside.out in
    let count = c.run-run.result.count in
    let end = c.run-run.result.end in
    let is = ap unboxed c.in-Some.is ∙ ap Some (sym c.deref.ensures) in
    let run =
    subst (λ (o : Option Used). IsRun c.args.end (used_view o).others count end) (sym is)
    c.run-run.ensures.run in
    let fits : count < MAX_PIECES =
    run_fits inside.section inside.len home inside.empty_read inside.has_first inside.first
    (unboxed inside.used) c.args.self.now c.self.invariant c.self.view_is c.args.end count end
    c.requires.first run in
    omega (arith, fits)

pub overflow_cast-result : goal.overflow_cast-result
overflow_cast-result c =
    let inside = c.self.inside in
    let home = home_view inside.at inside.len inside.kind inside.out in
    let count = c.run-run.result.count in
    let end = c.run-run.result.end in
    let is = ap unboxed c.in-Some.is ∙ ap Some (sym c.deref.ensures) in
    let run =
    subst (λ (o : Option Used). IsRun c.args.end (used_view o).others count end) (sym is)
    c.run-run.ensures.run in
    let fits : count < MAX_PIECES =
    run_fits inside.section inside.len home inside.empty_read inside.has_first inside.first
    (unboxed inside.used) c.args.self.now c.self.invariant c.self.view_is c.args.end count end
    c.requires.first run in
    omega (arith, fits)

pub returns-in-Some-clause-first : goal.returns-in-Some-clause-first
returns-in-Some-clause-first c =
    let inside = c.self.inside in
    let home = home_view inside.at inside.len inside.kind inside.out in
    let count = c.run-run.result.count in
    let end = c.run-run.result.end in
    let is = ap unboxed c.in-Some.is ∙ ap Some (sym c.deref.ensures) in
    let run =
    subst (λ (o : Option Used). IsRun c.args.end (used_view o).others count end) (sym is)
    c.run-run.ensures.run in
    run_behind c.args.self.now inside.section inside.len home inside.empty_read inside.has_first
    inside.first (unboxed inside.used) c.self.invariant c.self.view_is c.args.end count end
    c.requires.first run
