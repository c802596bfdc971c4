use Rattle.std.proofs.Common.{◌∙◌, sym}
use Rattle.elf_update_in_place.proofs.RoomLaws.{not_out}
use Rattle.elf_update_in_place.proofs.LoadLaws.{loads_one, asks_one}
use Rattle.elf_update_in_place.proofs.loads.load_one.Goals as goal

pub load_home-requires : goal.load_home-requires
load_home-requires g c = record {
  room = c.requires.room (sym c.home_is_out.ensures ∙ c.if-home_is_out.false);
}

pub returns-then-home_is_out-clause-loaded : goal.returns-then-home_is_out-clause-loaded
returns-then-home_is_out-clause-loaded g c = λ inside.
    not_out c.home_is_out.result c.if-home_is_out.true (c.home_is_out.ensures ∙ inside)

pub returns-clause-some : goal.returns-clause-some
returns-clause-some g c =
    loads_one g.S.Source c.load_home.result c.args.elf.now c.load_home.new.self c.args.s
    c.load_home.ensures.queries

pub returns-clause-asks : goal.returns-clause-asks
returns-clause-asks g c =
    asks_one g.S.Source c.load_home.result c.args.elf.now c.load_home.new.self c.args.s
    c.load_home.ensures.queries
