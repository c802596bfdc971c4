-- A descriptor that has begun, as the caller of `write_plan` has it: it is over its source.
use Rattle.std.specs.Prelude.{◌≡◌, IsTrue}
use Rattle.std.proofs.Common.{Bool, sym, ap, ◌∙◌, subst}
use Rattle.elf_outside.specs.Asks.{Leaves}
use Rattle.elf_outside.specs.declared.sources.Source.{Ghosts}
use Rattle.elfkit_outcomes.specs.elf_object.Object.{Object}
use Rattle.elfkit_outcomes.specs.elf_object.Open.{begun}
use Rattle.elfkit_outcomes.specs.elf_object.Valid.{IsTied}
use Rattle.tool_files.specs.elf_descriptor.Begun.{begun_state, IsBegun}
use Rattle.tool_files.specs.elf_descriptor.Sound.{IsSound}
use Rattle.tool_files.specs.elf_descriptor.State.{State}
use Rattle.tool_files.specs.elf_descriptor.Views.{source_bytes}
use Rattle.rebuild_plan.specs.law_rebuild.Strip.Made.{FitsClass}
use Rattle.rebuild_plan.proofs.law_rebuild.strip.WritableLaws.{begun_fits_class}
use Rattle.rebuild_plan.specs.rebuild_image.Ranges.Ranges.{KeptSource}
use Rattle.rebuild_plan.proofs.rebuild_image.ranges.RangeLaws.{kept_same}
use Rattle.rebuild_files.specs.Writing.{IsOverSource}

pub begun_tied : {S : Type 0} (g : Ghosts S) (src : S) (e : State S) → IsBegun g src e
    → IsSound (g.holds e.source) e.o → IsTrue e.told → IsTied e.o
unfolding begun_state
begun_tied {S} g src e is sound t =
    sound.tied (subst (λ (b : Bool). IsTrue b) (ap (λ (x : State S). x.told) is.state) t)

pub begun_object_fits : {S : Type 0} (g : Ghosts S) (src : S) (e : State S) → IsBegun g src e
    → FitsClass e.o
unfolding begun_state
begun_object_fits {S} g src e is =
    subst (λ (x : State S). FitsClass x.o) (sym is.state)
    (begun_fits_class is.front (source_bytes (g.holds e.source) (g.size e.source)) is.fitting)

pub begun_over : {S : Type 0} (g : Ghosts S) (src : S) (e : State S) → IsBegun g src e
    → IsOverSource g e
unfolding begun_state begun
begun_over {S} g src e is = record {
  base = ap (λ (x : State S). x.o.base) is.state;
  told = ap (λ (x : State S). x.told) is.state;
}

-- and one that was read since
pub over_stays : {S : Type 0} (g : Ghosts S) (old new : State S) → IsOverSource g old
    → new.o ≡ old.o → new.told ≡ old.told → Leaves g old.source new.source → IsOverSource g new
over_stays g old new over object told leaves = record {
  base = ap (λ (p : Object). p.base) object ∙ over.base
      ∙ sym (ap (λ (k : KeptSource). k.base) (kept_same g old.source new.source leaves));
  told = told ∙ over.told
      ∙ sym (ap (λ (k : KeptSource). k.told) (kept_same g old.source new.source leaves));
}
