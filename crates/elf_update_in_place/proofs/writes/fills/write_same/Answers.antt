use Rattle.std.proofs.Common.{◌+◌, ◌≤◌, Ok, Err, length, take, sym, subst, ap, ◌∙◌, arith}
use Rattle.std.proofs.lemmas.List.{length-replicate}
use Rattle.elf_update_to.specs.elf_descriptor.Cuts.{MayWrite}
use Rattle.elf_update_in_place.proofs.writes.FillLaws.{front_same, fill_may, fill_step, fill_stops}
use Rattle.elf_update_in_place.proofs.writes.fills.write_same.Goals as goal

pub write_base-requires-clause-may : goal.write_base-requires-clause-may
write_base-requires-clause-may g c =
    let l = c.loop-done in
    let n = c.min-some.result in
    let front = front_same c.args.page.now n c.args.byte c.requires.page (omega (arith, c.min-some.ensures)) in
    let long = ap length front ∙ length-replicate n c.args.byte in
    let may = fill_may g.D.Source g.D.Device c.args.at c.args.count c.args.byte l.done c.args.elf.now l.elf n
    (omega (arith, c.min-some.ensures, l.invariant.within)) c.requires.may l.invariant.over in
    subst (MayWrite l.elf (c.args.at + l.done)) (sym long) may.may

pub returns-in-Err : goal.returns-in-Err
returns-in-Err g c =
    let l = c.loop-done in
    let n = c.min-some.result in
    let most : l.done + n ≤ c.args.count = omega (arith, c.min-some.ensures, l.invariant.within) in
    fill_stops g.D.Source g.D.Device c.args.at c.args.count c.args.byte l.done c.in-Err.e
    c.args.elf.now c.write_base.new.self n most
    (fill_step g.D.Source g.D.Device c.args.at c.args.count c.args.byte l.done
    (Err c.in-Err.e) c.args.elf.now l.elf c.write_base.new.self n
    (take n c.args.page.now) (g.met.D.Source.sized c.args.elf.now.source) most
    (front_same c.args.page.now n c.args.byte c.requires.page (omega (arith, c.min-some.ensures)))
    c.requires.may l.invariant.over c.in-Err.ensures.cuts c.in-Err.ensures.patches c.in-Err.ensures.err)

pub loop-done-preserved : goal.loop-done-preserved
loop-done-preserved g c =
    let l = c.loop-done in
    let n = c.min-some.result in
    let most : l.done + n ≤ c.args.count = omega (arith, c.min-some.ensures, l.invariant.within) in record {
      over =
          fill_step g.D.Source g.D.Device c.args.at c.args.count c.args.byte l.done
          (Ok tt) c.args.elf.now l.elf c.write_base.new.self n
          (take n c.args.page.now) (g.met.D.Source.sized c.args.elf.now.source) most
          (front_same c.args.page.now n c.args.byte c.requires.page (omega (arith, c.min-some.ensures)))
          c.requires.may l.invariant.over c.in_default.ensures.cuts c.in_default.ensures.patches tt;
      within = most;
    }
