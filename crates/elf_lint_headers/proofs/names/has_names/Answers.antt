use Rattle.std.proofs.Common.{sym, ◌∙◌, arith}
use Rattle.tool_objects.proofs.SectionLemmas.{ok_value_is}
use Rattle.elf_lint_headers.proofs.names.has_names.Goals as goal

pub returns : goal.returns
returns g c = λ t.
    let count = ok_value_is _ _ c.shnum.ensures in
    let some = c.if-shnum-lt2.false in
    record {
      some = omega (arith, count, some);
      table = sym c.lacks_name_table.ensures ∙ c.if-lacks_name_table.false;
    }
