use Rattle.std.proofs.Common.{List, ◌∙◌, sym, ap}
use Rattle.std.specs.Prelude.{slice_get}
use Rattle.std.proofs.lemmas.Result.{on_ok_weaker}
use Rattle.elf_types.specs.declared.records.Sym.{Sym}
use Rattle.nm_tool.proofs.PlainLemmas.{with_none}
use Rattle.nm_tool.proofs.kept.push_at.Goals as goal

pub returns-in-Some-clause-ok : goal.returns-in-Some-clause-ok
returns-in-Some-clause-ok c =
    on_ok_weaker c.push_wanted.result
    (λ is o s are. is o s are.plain
    (ap (λ (l : List Sym). slice_get l c.args.i) are.held ∙ sym c.in-Some.ensures))
    c.push_wanted.ensures.ok

pub returns-in-None-clause-ok : goal.returns-in-None-clause-ok
returns-in-None-clause-ok c = λ o s are.
    sym (with_none c.args.options.now o s c.args.list.now c.args.i
    (ap (λ (l : List Sym). slice_get l c.args.i) are.held ∙ sym c.in-None.ensures))
