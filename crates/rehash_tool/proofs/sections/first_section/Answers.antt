use Rattle.std.proofs.Common.{◌≡◌, true, false, length, below_more, arith}
use Rattle.elf_object.specs.Object.{section_at, absent_section}
use Rattle.rehash_tool.specs.Sections.{is_matching_section}
use Rattle.rehash_tool.proofs.SectionLemmas.{first_found, none_found, sought_is}
use Rattle.rehash_tool.proofs.sections.first_section.Goals as goal

pub section_header-header-requires : goal.section_header-header-requires
section_header-header-requires g c =
    let count : length c.args.elf.now.o.sections ≡ c.shnum-shnum.result = cc in
    omega (arith, count, c.loop-n-test.true)

pub returns-then-is_sought : goal.returns-then-is_sought
unfolding section_at
returns-then-is_sought g c =
    let count : length c.args.elf.now.o.sections ≡ c.shnum-shnum.result = cc in
    first_found (λ s. is_matching_section c.args.sought s.header) c.args.elf.now.o.sections absent_section
    c.loop-n.n (omega (arith, count, c.loop-n-test.true)) c.loop-n.invariant
    (sought_is c.args.sought c.section_header-header.result _ c.is_sought.result true
    c.section_header-header.ensures c.is_sought.ensures c.if-is_sought.true)

pub loop-n-preserved : goal.loop-n-preserved
unfolding section_at
loop-n-preserved g c =
    below_more _ _ c.loop-n.invariant
    (sought_is c.args.sought c.section_header-header.result _ c.is_sought.result false
    c.section_header-header.ensures c.is_sought.ensures c.if-is_sought.false)

pub returns : goal.returns
returns g c =
    let count : length c.args.elf.now.o.sections ≡ c.shnum-shnum.result = cc in
    none_found (λ s. is_matching_section c.args.sought s.header) c.args.elf.now.o.sections absent_section
    c.loop-n.n (omega (arith, count, c.loop-n-test.false, c.loop-n.auto.n-end))
    c.loop-n.invariant
