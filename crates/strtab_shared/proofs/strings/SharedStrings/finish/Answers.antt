use Rattle.std.proofs.Common.{[], ◌++◌, ◌∷◌, ap, sym, ◌∙◌}
use Rattle.strtab_build.specs.Table.{table}
use Rattle.strtab_build.proofs.TableLemmas.{table_is}
use Rattle.strtab_shared.specs.Kept.{names_of}
use Rattle.strtab_shared.proofs.strings.SharedStrings.finish.Goals as goal

pub returns-in-Ok-clause-ok : goal.returns-in-Ok-clause-ok
returns-in-Ok-clause-ok c =
    let kept = c.self.invariant in
    c.in-Ok.ensures.ok ∙ ap (λ l. l ++ 0 ∷ []) kept.bytes_are
    ∙ sym (table_is (names_of c.self.inside.parts) kept.names_are.once)
    ∙ ap (λ names. table names) c.self.view_is
