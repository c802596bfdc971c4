use Rattle.std.proofs.Common.{refl, sym, ap}
use Rattle.gelf_view.specs.elf_object.Strings.{readable, strptr_refusals}
use Rattle.tool_objects.proofs.QueryLemmas.{reads_on, settled_ok, settled_none}
use Rattle.tool_objects.proofs.OnceReads.{once_unless, once_clean}
use Rattle.tool_objects.proofs.NameLemmas.{read_refused}
use Rattle.tool_objects.proofs.names.string_at.Goals as goal

pub returns-in-Ok : goal.returns-in-Ok
returns-in-Ok g c = (
  (refl, (λ w. tt), reads_on g.S.Source _ _ c.args.elf.now _ c.strptr.result _ c.strptr.follows.holds-at-none (once_unless _ _ (once_clean _ _)) (settled_ok c.in-Ok.is)),
  record {
    value = λ told. sym (ap readable (c.in-Ok.ensures.answer.1 told));
    rests = tt;
  },
)

pub returns-in-None : goal.returns-in-None
returns-in-None g c = (
  (refl, (λ w. tt), reads_on g.S.Source _ _ c.args.elf.now _ c.strptr.result _ c.strptr.follows.holds-at-none (once_unless _ _ (once_clean _ _)) (settled_none c.in-Err.is (sym c.in-None.ensures))),
  record {
    value = λ told. sym (ap readable (read_refused c.args.elf.now.told _ (strptr_refusals c.args.elf.now.o c.args.s.0 c.args.offset) c.in-Err.e _ c.in-Err.ensures.answer (sym c.in-None.ensures) told));
    rests = tt;
  },
)
