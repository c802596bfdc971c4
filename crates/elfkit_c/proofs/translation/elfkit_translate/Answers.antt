use Rattle.c_calls.specs.Translation.Numbers.{kind_from, class_from, order_from}
use Rattle.elfkit_c.proofs.TranslationLaws.{translated_by}
use Rattle.elfkit_c.proofs.translation.elfkit_translate.Goals as goal

pub translate-requires : goal.translate-requires
translate-requires c = c.kind_from-kind.ensures.items

pub returns : goal.returns
returns c =
    translated_by c.kind_from-kind.result (kind_from c.args.kind) c.class_from-class.result
    (class_from c.args.class) c.order_from-from.result (order_from c.args.from)
    c.order_from-to.result (order_from c.args.to) c.translate.result c.args.bytes.now
    c.translate.new.bytes c.kind_from-kind.ensures.kind c.class_from-class.ensures
    c.order_from-from.ensures c.order_from-to.ensures c.translate.ensures
