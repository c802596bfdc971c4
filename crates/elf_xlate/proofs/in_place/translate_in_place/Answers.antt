-- Bytes are whole items exactly where they have a memory form.
use Rattle.std.proofs.Common.{◌∙◌, sym}
use Rattle.elf_xlate.proofs.InPlace.{ragged_stay, whole_turned}
use Rattle.elf_xlate.proofs.in_place.translate_in_place.Goals as goal

pub returns-then-not-is_whole : goal.returns-then-not-is_whole
returns-then-not-is_whole c =
    ragged_stay c.args.kind c.args.class c.args.from c.args.to c.args.bytes.now
    (sym c.is_whole.ensures ∙ c.if-not-is_whole.true)

pub returns : goal.returns
returns c =
    whole_turned c.args.kind c.args.class c.args.from c.args.to c.args.bytes.now
    c.turn_order.new.bytes (sym c.is_whole.ensures ∙ c.if-not-is_whole.false)
    c.turn_order.ensures
