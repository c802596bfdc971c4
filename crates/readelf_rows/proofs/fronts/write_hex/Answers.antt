use Rattle.std.proofs.Common.{◌-◌, drop, arith, length-take, length-drop}
use Rattle.elf_types.specs.Text.{hex}
use Rattle.readelf_rows.proofs.FrontLemmas.{window_precedes}
use Rattle.readelf_rows.proofs.fronts.write_hex.Goals as goal

pub returns-clause-wrote : goal.returns-clause-wrote
unfolding hex
returns-clause-wrote c =
    let buffer = c.args.buffer.now in
    let end = c.args.end in
    let part = length-take (end - (end - 16)) (drop (end - 16) buffer) in
    let rest = length-drop (end - 16) buffer in
    window_precedes buffer c.fill_hex-start.new.window _ (end - 16) end c.fill_hex-start.result
    (omega (arith, c.requires.room)) c.requires.inside
    (omega (arith, c.fill_hex-start.auto.window, part, rest, c.requires.room, c.requires.inside))
    c.fill_hex-start.ensures.start c.fill_hex-start.ensures.digits
