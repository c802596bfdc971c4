use Rattle.std.proofs.Common.{◌∙◌, ◌<◌, ◌^◌, ℕ, sym, subst}
use Rattle.rebuild_making.proofs.PlaceLaws.{class_limit_small, found_above, found_bare, found_long, found_filled}
use Rattle.rebuild_making.proofs.places.next_behind.Goals as goal

pub returns-in_default : goal.returns-in_default
returns-in_default g c =
    found_above c.args.elf.now.o c.args.s.0 c.args.end c.args.limit c.section_header-h.result
    c.section_header-h.ensures c.requires.movable c.in_default.ensures

pub returns-then-not-occupies_file : goal.returns-then-not-occupies_file
returns-then-not-occupies_file g c =
    found_bare c.args.elf.now.o c.args.s.0 c.args.end c.args.limit c.section_header-h.result
    c.section_header-h.ensures c.requires.movable c.in-Some.place c.in-Some.ensures
    (sym c.occupies_file.ensures ∙ c.if-not-occupies_file.true)

pub returns-then-len-limit : goal.returns-then-len-limit
returns-then-len-limit g c =
    found_long c.args.elf.now.o c.args.s.0 c.args.end c.args.limit c.section_header-h.result
    c.section_header-h.ensures c.requires.movable c.in-Some.place c.in-Some.ensures
    c.requires.first (sym c.occupies_file.ensures ∙ c.if-not-occupies_file.false)
    c.size_of_data-len.result c.size_of_data-len.ensures c.if-len-limit.true

pub returns : goal.returns
returns g c =
    found_filled c.args.elf.now.o c.args.s.0 c.args.end c.args.limit c.section_header-h.result
    c.section_header-h.ensures c.requires.movable c.in-Some.place c.in-Some.ensures
    c.requires.first (sym c.occupies_file.ensures ∙ c.if-not-occupies_file.false)
    c.size_of_data-len.result c.size_of_data-len.ensures
    (subst (λ (n : ℕ). n < 2 ^ 63) (sym c.requires.limit)
    (class_limit_small c.args.elf.now.o.header.class)) c.if-len-limit.false
