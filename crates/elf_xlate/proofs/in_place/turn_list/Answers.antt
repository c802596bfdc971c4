-- One item more is turned, until all are.
use Rattle.std.proofs.Common.{arith, ap, ◌∙◌}
use Rattle.elf_xlate.proofs.InPlace.{none_turned, one_turned}
use Rattle.elf_xlate.proofs.in_place.turn_list.Goals as goal

pub loop-i-init : goal.loop-i-init
loop-i-init g c =
    none_turned g.C.Codec.item_of g.D.Codec.bytes_of c.file_size-size.result c.args.bytes.now

pub loop-i-preserved : goal.loop-i-preserved
loop-i-preserved g c =
    one_turned g.C.Codec.item_of g.D.Codec.bytes_of c.file_size-size.result c.loop-i.i _
    c.args.bytes.now c.loop-i.bytes c.encode.new.out c.loop-i-test.true (omega arith)
    c.loop-i.invariant c.encode.auto.out
    (c.encode.ensures ∙ ap g.D.Codec.bytes_of c.decode-item.ensures.value)
