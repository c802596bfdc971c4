use Rattle.std.proofs.Common.{sym, ◌∙◌}
use Rattle.tool_objects.proofs.at_hand.OneTable.{holds_strings_at}
use Rattle.tool_objects.proofs.at_hand.strings.string_bytes.Goals as goal

pub returns-in-Some-clause-strings : goal.returns-in-Some-clause-strings
returns-in-Some-clause-strings g c = λ told offset.
    holds_strings_at c.args.elf.now c.args.s.0 c.in-Some.bytes.now
    (c.is_one_table.ensures c.if-not-is_one_table.false) c.in-Some.ensures told offset
    ∙ sym (c.up_to_last_nul.ensures.same offset)
