use Rattle.std.proofs.Common.{◌≡◌, ℕ, [], List, sym, ◌∙◌, subst, arith}
use Rattle.elf_types.specs.declared.errors.ElfError.{ElfError}
use Rattle.elf_types.specs.declared.errors.ElfError.TheVariants.{Memory}
use Rattle.elf_object.specs.Object.{Object}
use Rattle.rebuild_image.specs.Streams.{IsStreamed}
use Rattle.c_handles.specs.declared.layout.planned.PlannedLayout.{PlannedLayout}
use Rattle.c_calls.specs.Layout.Images.{IsLayoutOf}
use Rattle.c_calls.specs.Layout.Plans.{IsLayoutFor, IsRefusalFor}
use Rattle.c_calls.proofs.layout.CountLaws.{few_segments, few_sections, few_listed}
use Rattle.c_calls.proofs.layout.StatedLaws.{wants, laid_out}
use Rattle.c_calls.proofs.layout.FrontLaws.{if_ok_on, if_err_on}
use Rattle.c_calls.proofs.layout.planning.plan_headers.Goals as goal

pub returns-in-Err-clause-err : goal.returns-in-Err-clause-err
returns-in-Err-clause-err c = λ o is.
    wants o c.args.ehdr.now c.args.pad.now c.args.phdrs.now c.args.shdrs.now c.args.base is
    c.requires.counts c.requires.segments c.in-Err.e c.in-Err.ensures.err

pub overflow_cast-phdrs : goal.overflow_cast-phdrs
overflow_cast-phdrs c =
    let few = few_segments c.args.phdrs.now c.args.shdrs.now c.requires.counts in omega (arith, few)

pub list_headers-requires : goal.list_headers-requires
list_headers-requires c = few_sections c.args.phdrs.now c.args.shdrs.now c.requires.counts

pub returns-in-Err-list_headers-clause-err : goal.returns-in-Err-list_headers-clause-err
returns-in-Err-list_headers-clause-err c = λ o is.
    wants o c.args.ehdr.now c.args.pad.now c.args.phdrs.now c.args.shdrs.now c.args.base is
    c.requires.counts c.requires.segments c.in-Err-list_headers.e
    c.in-Err-list_headers.ensures.err

pub stream_listed-requires-clause-few : goal.stream_listed-requires-clause-few
stream_listed-requires-clause-few c =
    few_listed c.args.phdrs.now c.args.shdrs.now c.in-Ok-list_headers.x.headers
    c.in-Ok-list_headers.ensures.ok.headers c.requires.counts

pub returns-in-Ok-stream_listed-clause-ok : goal.returns-in-Ok-stream_listed-clause-ok
returns-in-Ok-stream_listed-clause-ok c =
    let held = c.stream_listed.new.held in let streamed = c.in-Ok-stream_listed.streamed in
    if_ok_on (λ (l : PlannedLayout). (o : Object) → IsStreamed o [] held streamed → IsLayoutOf o l)
    (IsLayoutFor c.args.ehdr.now c.args.pad.now c.args.phdrs.now c.args.shdrs.now c.args.base)
    c.layout_of.result (λ l is_layout o is. is_layout o
    (subst (λ (old : List ℕ). IsStreamed o old held streamed) c.new-held.ensures
    (c.in-Ok-stream_listed.ensures.ok o
    (laid_out o c.args.ehdr.now c.args.pad.now c.args.phdrs.now c.args.shdrs.now c.args.base is
    c.requires.counts c.requires.segments c.in-Ok-list_headers.x c.in-Ok-list_headers.ensures.ok)
    (c.pad_of-pad.ensures ∙ sym is.pad_is)
    (c.as_slice.ensures ∙ c.in-Ok.ensures.ok ∙ sym is.segments)))) c.layout_of.ensures.ok

pub returns-in-Ok-stream_listed-clause-err : goal.returns-in-Ok-stream_listed-clause-err
returns-in-Ok-stream_listed-clause-err c =
    if_err_on (λ (e : ElfError). e ≡ Memory)
    (IsRefusalFor c.args.ehdr.now c.args.pad.now c.args.phdrs.now c.args.shdrs.now c.args.base)
    c.layout_of.result (λ e want o is.
    wants o c.args.ehdr.now c.args.pad.now c.args.phdrs.now c.args.shdrs.now c.args.base is
    c.requires.counts c.requires.segments e want) c.layout_of.ensures.err

pub returns-clause-err : goal.returns-clause-err
returns-clause-err c = λ o is.
    c.in-Err-stream_listed.ensures.err o
    (laid_out o c.args.ehdr.now c.args.pad.now c.args.phdrs.now c.args.shdrs.now c.args.base is
    c.requires.counts c.requires.segments c.in-Ok-list_headers.x c.in-Ok-list_headers.ensures.ok)
    (c.as_slice.ensures ∙ c.in-Ok.ensures.ok ∙ sym is.segments)
