use Rattle.std.proofs.Common.{false, map, sym, ap, ◌∙◌, subst}
use Rattle.section_table.specs.Sections.{AreNumbered, reopened_scn}
use Rattle.elf_descriptor.specs.declared.body.Body.{Body}
use Rattle.elf_descriptor.specs.declared.body.Base.TheVariants as bases
use Rattle.elf_descriptor.proofs.body.Body.settle.Goals as goal

pub reopen-requires : goal.reopen-requires
reopen-requires c =
    subst (λ (b : Body). AreNumbered b.sections) (sym c.write_front.ensures.rest)
    c.requires.numbered

pub returns : goal.returns
returns c = record {
  rest =
      ap (λ (b : Body). record b {
        sections = c.reopen.new.self;
        base = bases.Source c.args.size;
        marked = false;
        header_marked = false;
        segments_marked = false;
        ready = false;
      }) c.write_front.ensures.rest;
  sections = c.reopen.ensures
      ∙ ap (λ (b : Body). map (reopened_scn c.args.size) b.sections) c.write_front.ensures.rest;
  ranged = c.write_front.ensures.ranged;
}
