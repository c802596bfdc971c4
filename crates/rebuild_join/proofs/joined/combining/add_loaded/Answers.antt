use Rattle.std.proofs.Common.{◌≡◌, true, refl, sym, subst}
use Rattle.elf_types.specs.declared.records.Shdr.{Shdr}
use Rattle.elf_xlate.specs.Headers.{shdr_fits}
use Rattle.rebuild_join.proofs.joined.MatchLaws.{told_fits, joined_fits}
use Rattle.rebuild_join.proofs.joined.NextLaws.{adds_joined}
use Rattle.rebuild_join.proofs.joined.combining.add_loaded.Goals as goal

pub add_home-requires-clause-fits : goal.add_home-requires-clause-fits
add_home-requires-clause-fits g c =
    let class = c.args.stripped.now.o.header.class in
    subst (λ (h : Shdr). shdr_fits class h ≡ true) (sym c.loaded_header-joined.ensures)
    (joined_fits class c.args.header.now c.section_header.result c.requires.fits
    (told_fits c.args.stripped.now.o c.args.t.0 class c.section_header.result
    c.is_out_of_file-sound.ensures.sound.object refl c.section_header.ensures))

pub returns-clause-adds : goal.returns-clause-adds
returns-clause-adds g c =
    adds_joined c.add_home.result c.args.stripped.now.told c.args.stripped.now.o c.args.t.0
    c.args.header.now c.section_header.result c.loaded_header-joined.result c.args.made.now
    c.add_home.new.made c.section_header.ensures c.loaded_header-joined.ensures
    c.add_home.ensures.adds
