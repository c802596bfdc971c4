-- One item more is read, until all are.
use Rattle.std.proofs.Common.{length, ap, ◌∙◌, arith}
use Rattle.elf_xlate.proofs.Pieces.{length_items_of, within, none_read, one_read, piece_long, all_read}
use Rattle.elf_xlate.proofs.decode.decode_list.Goals as goal

pub loop-i-init : goal.loop-i-init
loop-i-init g c = none_read _ _ _ c.file_size-size.result _ _ c.in_ok-items.ensures.ok

pub overflow_mul-at : goal.overflow_mul-at
overflow_mul-at g c = omega (arith, within _ _ _ c.loop-i-test.true)

pub decode-requires : goal.decode-requires
decode-requires g c = piece_long _ _ _ _ c.loop-i-test.true c.file_size-size.ensures

pub loop-i-preserved : goal.loop-i-preserved
loop-i-preserved g c =
    one_read _ _ _ c.file_size-size.result c.loop-i.i _ _ c.loop-i.items _ _ c.loop-i.invariant
    c.in_ok-push.ensures.ok (omega arith) c.decode.ensures.value c.decode.ensures.ranged
    c.decode.ensures.fits

pub returns-clause-ok : goal.returns-clause-ok
returns-clause-ok g c =
    all_read _ _ _ c.file_size-size.result _ c.loop-i.i _ _ c.loop-i.invariant
    c.file_size-size.ensures c.loop-i-test.false c.loop-i.auto.i-end

pub returns-clause-count : goal.returns-clause-count
returns-clause-count g c =
    ap length (all_read _ _ _ c.file_size-size.result _ c.loop-i.i _ _ c.loop-i.invariant
    c.file_size-size.ensures c.loop-i-test.false c.loop-i.auto.i-end)
    ∙ length_items_of g.C.Codec.item_of g.C.Codec.size _ c.args.bytes.now
