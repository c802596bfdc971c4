use Rattle.std.proofs.Common.{refl}
use Rattle.elf_calls_apply.specs.Applies.{result_of}
use Rattle.elf_calls_apply.proofs.Forms.{form_met}
use Rattle.elf_calls_apply.proofs.applying.apply.Goals as goal

pub returns-in-Ehdr-clause-form : goal.returns-in-Ehdr-clause-form
returns-in-Ehdr-clause-form g c = form_met g.S.Source _ c.args.call.now (result_of c.answer_ehdr.result) c.args.elf.now _ c.in-Ehdr.is refl c.answer_ehdr.ensures

pub returns-in-Phdr-clause-form : goal.returns-in-Phdr-clause-form
returns-in-Phdr-clause-form g c = form_met g.S.Source _ c.args.call.now (result_of c.answer_phdr.result) c.args.elf.now _ c.in-Phdr.is refl c.answer_phdr.ensures

pub returns-in-Shdr-clause-form : goal.returns-in-Shdr-clause-form
returns-in-Shdr-clause-form g c = form_met g.S.Source _ c.args.call.now (result_of c.answer_shdr.result) c.args.elf.now _ c.in-Shdr.is refl c.answer_shdr.ensures

pub returns-in-Pieces-clause-form : goal.returns-in-Pieces-clause-form
returns-in-Pieces-clause-form g c = form_met g.S.Source _ c.args.call.now (result_of c.answer_pieces.result) c.args.elf.now _ c.in-Pieces.is refl c.answer_pieces.ensures

pub returns-in-Data-clause-form : goal.returns-in-Data-clause-form
returns-in-Data-clause-form g c = form_met g.S.Source _ c.args.call.now (result_of c.answer_data.result) c.args.elf.now _ c.in-Data.is refl c.answer_data.ensures

pub returns-in-SetEhdr-clause-form : goal.returns-in-SetEhdr-clause-form
returns-in-SetEhdr-clause-form g c = form_met g.S.Source _ c.args.call.now (result_of c.set_ehdr.result) c.args.elf.now _ c.in-SetEhdr.is refl c.set_ehdr.ensures

pub returns-in-SetPhdr-clause-form : goal.returns-in-SetPhdr-clause-form
returns-in-SetPhdr-clause-form g c = form_met g.S.Source _ c.args.call.now (result_of c.set_phdr.result) c.args.elf.now _ c.in-SetPhdr.is refl c.set_phdr.ensures

pub returns-in-SetShdr-clause-form : goal.returns-in-SetShdr-clause-form
returns-in-SetShdr-clause-form g c = form_met g.S.Source _ c.args.call.now (result_of c.set_shdr.result) c.args.elf.now _ c.in-SetShdr.is refl c.set_shdr.ensures

pub returns-in-AddAll-clause-form : goal.returns-in-AddAll-clause-form
returns-in-AddAll-clause-form g c = form_met g.S.Source _ c.args.call.now (result_of c.add_to_all.result) c.args.elf.now _ c.in-AddAll.is refl c.add_to_all.ensures

pub returns-in-NewScn-clause-form : goal.returns-in-NewScn-clause-form
returns-in-NewScn-clause-form g c = form_met g.S.Source _ c.args.call.now (result_of c.new_section.result) c.args.elf.now _ c.in-NewScn.is refl c.new_section.ensures

pub returns-in-NewPhdr-clause-form : goal.returns-in-NewPhdr-clause-form
returns-in-NewPhdr-clause-form g c = form_met g.S.Source _ c.args.call.now (result_of c.new_phdr.result) c.args.elf.now _ c.in-NewPhdr.is refl c.new_phdr.ensures

pub returns-in-NewData-clause-form : goal.returns-in-NewData-clause-form
returns-in-NewData-clause-form g c = form_met g.S.Source _ c.args.call.now (result_of c.new_data.result) c.args.elf.now _ c.in-NewData.is refl c.new_data.ensures

pub returns-in-NewDataAligned-clause-form : goal.returns-in-NewDataAligned-clause-form
returns-in-NewDataAligned-clause-form g c = form_met g.S.Source _ c.args.call.now (result_of c.new_data_aligned.result) c.args.elf.now _ c.in-NewDataAligned.is refl c.new_data_aligned.ensures

pub returns-in-Fill-clause-form : goal.returns-in-Fill-clause-form
returns-in-Fill-clause-form g c = form_met g.S.Source _ c.args.call.now (result_of c.set_fill.result) c.args.elf.now _ c.in-Fill.is refl c.set_fill.ensures

pub returns-in-Replace-clause-form : goal.returns-in-Replace-clause-form
returns-in-Replace-clause-form g c = form_met g.S.Source _ c.args.call.now (result_of c.replace.result) c.args.elf.now _ c.in-Replace.is refl c.replace.ensures

pub returns-in-Flag-clause-form : goal.returns-in-Flag-clause-form
returns-in-Flag-clause-form g c = form_met g.S.Source _ c.args.call.now (result_of c.set_flags.result) c.args.elf.now _ c.in-Flag.is refl c.set_flags.ensures

pub returns-in-Null-clause-form : goal.returns-in-Null-clause-form
returns-in-Null-clause-form g c = form_met g.S.Source _ c.args.call.now (result_of c.lay_out.result) c.args.elf.now _ c.in-Null.is refl c.lay_out.ensures
