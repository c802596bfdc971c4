use Rattle.std.proofs.Common.{◌≡◌, ◌-◌, ℕ, max, replicate, sym, ap, ◌∙◌, subst}
use Rattle.elf_update_in_place.specs.Writes.Overwrites.{MayOverwrite, Overwrites}
use Rattle.elf_update_in_place.specs.Writes.Walks.{put_end}
use Rattle.elf_update_in_place.proofs.writes.WalkLaws.{front_may, front_put}
use Rattle.elf_update_in_place.proofs.writes.walks.write_gap.Goals as goal

pub write_fill-requires-clause-may : goal.write_fill-requires-clause-may
write_fill-requires-clause-may g c =
    let count : c.saturating_sub.result
    ≡ put_end c.args.ground.fill c.args.old_end c.args.end - max c.args.from c.args.ground.kept =
    c.saturating_sub.ensures
    ∙ ap (λ (n : ℕ). n - c.max-start.result) c.fill_end-stop.ensures
    ∙ ap (λ (n : ℕ). put_end c.args.ground.fill c.args.old_end c.args.end - n) c.max-start.ensures in
    subst (λ (n : ℕ). MayOverwrite g.D.Source c.args.elf.now n c.saturating_sub.result)
    (sym c.max-start.ensures)
    (subst (λ (n : ℕ). MayOverwrite g.D.Source c.args.elf.now
    (max c.args.from c.args.ground.kept) n) (sym count)
    (front_may g.D.Source g.D.Device c.args.old_end c.args.elf.now c.args.ground.kept
    c.args.ground.fill c.args.from c.args.end c.requires.may))

pub returns-clause-puts : goal.returns-clause-puts
returns-clause-puts g c =
    let counted = subst (λ (n : ℕ). Overwrites {T = Unit {0}} g.D.Source g.D.Device
    c.write_fill.result c.args.elf.now c.write_fill.new.elf c.max-start.result
    (replicate n c.args.ground.fill)) c.saturating_sub.ensures c.write_fill.ensures.filled in
    let ended = subst (λ (n : ℕ). Overwrites {T = Unit {0}} g.D.Source g.D.Device
    c.write_fill.result c.args.elf.now c.write_fill.new.elf c.max-start.result
    (replicate (n - c.max-start.result) c.args.ground.fill)) c.fill_end-stop.ensures counted in
    let placed = subst (λ (n : ℕ). Overwrites {T = Unit {0}} g.D.Source g.D.Device
    c.write_fill.result c.args.elf.now c.write_fill.new.elf n
    (replicate (put_end c.args.ground.fill c.args.old_end c.args.end - n) c.args.ground.fill))
    c.max-start.ensures ended in
    front_put g.D.Source g.D.Device c.args.old_end c.args.elf.now c.args.ground.kept
    c.args.ground.fill c.args.from c.args.end c.requires.may c.write_fill.result
    c.write_fill.new.elf placed
