-- One item more is put, and all fit where the loop has ended.
use Rattle.std.proofs.Common.{◌≡◌, true, sym, ◌∙◌, arith}
use Rattle.elf_xlate.proofs.Pieces.{all_of_whole}
use Rattle.elf_xlate.proofs.PutItems.{one_put, all_put, one_more}
use Rattle.elf_xlate.proofs.encode.put_fitting.Goals as goal

pub loop-i-preserved : goal.loop-i-preserved
loop-i-preserved g c = record {
  put =
      one_put g.C.Codec.bytes_of c.file_size-size.result g.C.Codec.size c.loop-i.i _
      c.args.items.now c.args.out.now c.loop-i.out c.encode.new.out c.index-items-i.result
      c.requires c.file_size-size.ensures c.loop-i-test.true (omega arith) c.index-items-i.is
      c.loop-i.invariant.put c.encode.auto.out c.encode.ensures;
  fit =
      one_more (λ x. g.C.Codec.fitting x ≡ true) c.loop-i.i c.args.items.now
      c.index-items-i.result c.loop-i-test.true c.index-items-i.is c.loop-i.invariant.fit
      (sym c.fits.ensures ∙ c.if-not-fits.false);
}

pub returns-clause-fits : goal.returns-clause-fits
returns-clause-fits g c =
    λ _. all_of_whole (λ x. g.C.Codec.fitting x ≡ true) c.args.items.now c.loop-i.i
    (omega arith) c.loop-i.invariant.fit

pub returns-clause-bytes : goal.returns-clause-bytes
returns-clause-bytes g c =
    λ _. all_put g.C.Codec.bytes_of c.file_size-size.result g.C.Codec.size c.loop-i.i
    c.args.items.now c.args.out.now c.loop-i.out c.requires c.file_size-size.ensures
    c.loop-i-test.false c.loop-i.auto.i-end c.loop-i.invariant.put
