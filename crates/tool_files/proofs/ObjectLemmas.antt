-- The image of an object that an update puts to a sink.
use Rattle.std.proofs.Common.{◌≡◌, ℕ, Bool, true, false, List, Option, Some, None, Result, Ok, Err, IfSome, IsSome, if◌then◌else◌, refl, subst}
use Rattle.elf_types.specs.declared.errors.ElfError.{ElfError}
use Rattle.elf_types.specs.declared.errors.ElfError.TheVariants as error
use Rattle.elf_types.specs.Answers.{answered}
use Rattle.tool_output.specs.elf_outside.Asks.{UsesSource}
use Rattle.tool_output.specs.elf_outside.Puts.{UsesSink, Puts}
use Rattle.tool_output.specs.elf_outside.Writes.{Appends, AppendsFront}
use Rattle.tool_output.specs.elf_outside.declared.sources.Source.{Ghosts as SourceGhosts}
use Rattle.tool_output.specs.elf_outside.declared.sinks.Sink.{Ghosts as SinkGhosts}
use Rattle.tool_output.proofs.elf_outside.PutLemmas.{write_rose_on, device_read_rose_on}
use Rattle.elf_update_to.specs.elf_object.Object.{Object}
use Rattle.elf_update_to.specs.elf_object.Image.{image, image_length}
use Rattle.elf_update_to.specs.elf_object.Refusal.{refusal}
use Rattle.elf_update_to.specs.elf_object.Due.{update_to_due}
use Rattle.elf_update_to.specs.elf_object.Calls as calls
use Rattle.elf_update_to.specs.elf_object.Words.{UpdateAnswers}
use Rattle.elf_update_to.specs.elf_descriptor.State.{State}
use Rattle.elf_update_to.specs.Updates.{UpdatesTo}
use Rattle.tool_output.specs.Stops.{stop_of}

-- what is not refused is stopped alone
pub update_stops : (p : Object) (e : ElfError) → refusal p ≡ None
    → UpdateAnswers {A = ℕ} (Err e) (calls.update_null.answer p) → IsSome (stop_of e)
update_stops p error.Memory passed h = refl
update_stops p error.Read passed h = refl
update_stops p error.Write passed h = refl
update_stops p e passed h =
    let never : ◌≡◌ {A = Result ℕ ElfError} (answered None (image_length p)) (Err e)
    = subst (λ (x : Option ElfError). answered x (image_length p) ≡ Err e) passed h in cc

module _ {S K : Type 0} (g : SourceGhosts S) (k : SinkGhosts K) (old new : State S)
    (sink next : K) where
  abbrev told_image : Option (List ℕ)
  told_image = if old.told then Some (image old.o) else None

  pub image_put : (n : ℕ) → UpdatesTo g k (Ok n) old new sink next
      → IfSome told_image (Puts {T = Unit {0}} k (Ok tt) sink next)
  image_put n h = by old.told h.is.exact
    where
      by : (q : Bool) → (q ≡ true → h.text ≡ image old.o)
          → IfSome (if q then Some (image old.o) else None)
          (Puts {T = Unit {0}} k (Ok tt) sink next)
      by true exact = record {
        uses = record { rest = h.uses.rest; later = h.uses.later; write = tt };
        ok = subst (λ (text : List ℕ). Appends (k.wrote sink) (k.wrote next) text) (exact refl)
            h.wrote;
        err = tt;
      }
      by false exact = tt

  pub image_front : (e : ElfError) → UpdatesTo g k (Err e) old new sink next
      → IfSome told_image (Puts {T = Unit {0}} k (Err e) sink next)
  image_front e h = by old.told h.is.exact
    where
      by : (q : Bool) → (q ≡ true → h.text ≡ image old.o)
          → IfSome (if q then Some (image old.o) else None)
          (Puts {T = Unit {0}} k (Err e) sink next)
      by true exact = record {
        uses = record {
          rest = h.uses.rest;
          later = h.uses.later;
          write = write_rose_on ℕ (Unit {0}) e (k.faults sink) (k.faults next) h.uses.write;
        };
        ok = tt;
        err = subst (λ (text : List ℕ). AppendsFront (k.wrote sink) (k.wrote next) text)
            (exact refl) h.front;
      }
      by false exact = tt

  pub sink_used : (n : ℕ) → UpdatesTo g k (Ok n) old new sink next
      → UsesSink {T = Unit {0}} k (Ok tt) sink next
  sink_used n h = record { rest = h.uses.rest; later = h.uses.later; write = tt }

  pub sink_stopped : (e : ElfError) → UpdatesTo g k (Err e) old new sink next
      → UsesSink {T = Unit {0}} k (Err e) sink next
  sink_stopped e h = record {
    rest = h.uses.rest;
    later = h.uses.later;
    write = write_rose_on ℕ (Unit {0}) e (k.faults sink) (k.faults next) h.uses.write;
  }

  pub source_used : (n : ℕ) → UpdatesTo g k (Ok n) old new sink next
      → UsesSource {T = Unit {0}} g (Ok tt) old.source new.source (update_to_due old.o old.loaded)
  source_used n h = record {
    leaves = h.source.leaves;
    later = h.source.later;
    read = tt;
    taken = h.source.taken;
  }

  pub source_stopped : (e : ElfError) → UpdatesTo g k (Err e) old new sink next
      → UsesSource {T = Unit {0}} g (Err e) old.source new.source (update_to_due old.o old.loaded)
  source_stopped e h = record {
    leaves = h.source.leaves;
    later = h.source.later;
    read = device_read_rose_on ℕ (Unit {0}) e (g.faults old.source) (g.faults new.source)
        h.source.read;
    taken = h.source.taken;
  }
