use Rattle.elf_update_plan.specs.elf_descriptor.Reads.{wanted}
use Rattle.rebuild_names.specs.Calls.{new_names}
use Rattle.rebuild_keep.proofs.NameLaws.{names_made, error_told, error_renews, error_stops, error_asks}
use Rattle.rebuild_keep.proofs.naming.make_anew.Goals as goal

pub returns-in-Ok-clause-asks : goal.returns-in-Ok-clause-asks
returns-in-Ok-clause-asks g c =
    names_made g.S.Source c.args.removed.now c.args.elf.now c.build_names.new.elf c.in-Ok.names _
    c.in-Ok.ensures.queries

pub returns-in-Err : goal.returns-in-Err
returns-in-Err g c =
    let want = wanted (new_names c.args.removed.now) c.args.elf.now in
    let r = c.large_or_error.result in
    record {
      told = error_told c.args.elf.now.told want c.args.elf.now.o c.args.removed.now c.in-Err.e r
          c.large_or_error.ensures c.in-Err.ensures.answer;
      renews = error_renews c.in-Err.e r c.large_or_error.ensures;
      err = error_stops c.args.elf.now.told want c.args.elf.now.o c.args.removed.now c.in-Err.e r
          c.large_or_error.ensures c.in-Err.ensures.answer;
      asks = error_asks g.S.Source c.args.removed.now c.args.elf.now c.build_names.new.elf
          c.in-Err.e r c.large_or_error.ensures c.in-Err.ensures.queries;
    }
