use Rattle.std.proofs.Common.{ℕ}
use Rattle.elf_types.specs.Answers.{answered, ◌>>=◌}
use Rattle.elf_object.specs.Object.{Object}
use Rattle.elf_object.specs.Calls as calls
use Rattle.elf_object.specs.Sections.{header_at, edited}
use Rattle.rebuild_model.specs.Copied.{or_strip, with_bits, flags_fault, with_section_flags}
use Rattle.rebuild_copy.proofs.FindLaws.{named_alters, unnamed_alters}
use Rattle.rebuild_copy.proofs.flags.flag_section.Goals as goal

pub returns-in-Ok : goal.returns-in-Ok
unfolding with_section_flags
returns-in-Ok c = λ marks renames.
    let x = c.args.change.now in
    named_alters c.args.index.now marks renames x.name
    (λ (p : Object) (n : ℕ). answered (flags_fault p n x.name x.bits) n
    >>= λ s. or_strip (edited (calls.update_shdr s (with_bits x.bits (header_at p s))) p))
    c.args.x.now c.flag_at.new.x c.in-Ok.s c.flag_at.result c.in-Ok.ensures.found c.flag_at.ensures

pub returns-in-Err : goal.returns-in-Err
unfolding with_section_flags
returns-in-Err c = λ marks renames.
    let x = c.args.change.now in
    unnamed_alters c.args.index.now marks renames x.name
    (λ (p : Object) (n : ℕ). answered (flags_fault p n x.name x.bits) n
    >>= λ s. or_strip (edited (calls.update_shdr s (with_bits x.bits (header_at p s))) p))
    c.args.x.now c.args.x.now c.in-Err.fault c.in-Err.ensures.found c.in-Err.ensures.unread
