use Rattle.std.proofs.Common.{[], ◌∷◌, ◌++◌, List, sym, ap, ◌∙◌}
use Rattle.elf_types.specs.declared.records.Sym.{Sym}
use Rattle.strtab_build.specs.Table.{table}
use Rattle.strtab_build.proofs.TableLemmas.{table-distinct}
use Rattle.rebuild_model.specs.Generated.{zero_sym}
use Rattle.elf_calls_generate.specs.Stages.{symbol_names_to}
use Rattle.elf_calls_generate.proofs.NameFronts.{symbol_names_all}
use Rattle.elf_calls_generate.proofs.StageLaws.{distinct_none}
use Rattle.elf_calls_generate.proofs.symbols.make_symbols.Goals as goal

pub add_symbols-requires-clause-none : goal.add_symbols-requires-clause-none
add_symbols-requires-clause-none c = record {
  symbols_are =
      c.in_default.ensures.ok ∙ ap (λ (l : List Sym). l ++ zero_sym ∷ []) c.new-symbols.ensures;
  named = c.new-strings.ensures ∙ sym distinct_none;
}

pub returns-in-Ok-clause-symbols : goal.returns-in-Ok-clause-symbols
returns-in-Ok-clause-symbols c = c.in_default-add_symbols.ensures.made.symbols_are

pub returns-in-Ok-clause-strings : goal.returns-in-Ok-clause-strings
returns-in-Ok-clause-strings c =
    c.in-Ok.ensures.ok ∙ ap table c.in_default-add_symbols.ensures.made.named
    ∙ table-distinct (symbol_names_to c.args.n) ∙ ap table (symbol_names_all c.args.n)
