use Rattle.std.proofs.Common.{ℕ, Ok, sym, ap, ◌∙◌}
use Rattle.elf_update_plan.proofs.PlacingLaws.{updates_refused, clean_answer, placed_answer, same_state}
use Rattle.elf_update_plan.proofs.places.update_null.Goals as goal

pub returns-then-not-dirty : goal.returns-then-not-dirty
returns-then-not-dirty g c =
    let clean = sym c.dirty.ensures.dirty ∙ c.if-not-dirty.true in (
      clean_answer c.args.elf.now.o clean ∙ ap (λ (n : ℕ). Ok n) (sym c.base_len.ensures),
      same_state
          c.args.elf.now clean,
    )

pub returns-in-Ok : goal.returns-in-Ok
returns-in-Ok g c = (
  placed_answer c.args.elf.now.o c.in-Ok.placed (sym c.dirty.ensures.dirty
      ∙ c.if-not-dirty.false) c.in-Ok.ensures.ok,
  c.store_places.ensures,
)

pub returns-in-Err : goal.returns-in-Err
returns-in-Err g c = updates_refused c.args.elf.now.o c.in-Err.e c.args.elf.now _ c.in-Err.ensures.err
