use Rattle.std.proofs.Common.{◌-◌, length, slice_get, Some, option_map, ap, sym, ◌∙◌}
use Rattle.tool_text.specs.Arguments.{last}
use Rattle.elfkit_words.proofs.Folds.{last_read}
use Rattle.elfkit_words.proofs.option_arguments.last_value.Goals as goal

pub returns : goal.returns
returns g c =
    ap (option_map last) c.in_ok-values.ensures
    ∙ ap Some (sym (last_read c.in_ok-values.values) ∙ ap (λ xs. slice_get xs (length xs - 1)) (sym c.as_slice.ensures) ∙ sym c.last.ensures.value ∙ sym c.copied.ensures)
