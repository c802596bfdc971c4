-- A step that obtains an object, by how it ends.
use Rattle.std.proofs.Common.{◌≡◌, ℕ, Bool, List, [], Option, Some, None, Result, Ok, Err, refl}
use Rattle.tool_output.specs.elf_outside.declared.sinks.Sink.{Ghosts}
use Rattle.gelf_view.specs.elf_object.Object.{Object}
use Rattle.tool_output.specs.declared.stops.Stop.{Stop}
use Rattle.tool_output.specs.declared.outputs.Outputs.{Outputs}
use Rattle.tool_output.specs.Names.{file_name}
use Rattle.tool_output.specs.Made.{Complaint, complaint_report}
use Rattle.tool_output.specs.Steps.{Writes}
use Rattle.tool_output.specs.Reports.{Reports, no_report, refusal_report}
use Rattle.tool_output.proofs.StepLemmas.{writes_went, stops_as}
use Rattle.tool_objects.specs.Obtains.{Obtains, IsObtained}

module _ {O E V : Type 0} (o : Ghosts O) (e : Ghosts E) (command : List ℕ)
    (Is : V → Object → Type 0) (stated : Result Object Complaint) (s t : Outputs O E) where
  -- an object was obtained, and nothing is said
  pub obtained : {T : Type 0} (x : T) (v : V) (p : Object) → stated ≡ Ok p → Is v p
      → Writes {T = T} o e (Ok x) s t [] → Obtains o e command Is stated (Ok (Some v)) s t
  unfolding no_report
  obtained x v p same is h = record {
    writes = rw same (writes_went o e (Some v) s t [] h.ok);
    value = rw same is;
  }

  -- there is none, and its message was written
  pub not_obtained : (x : Bool) (c : Complaint) → stated ≡ Err c
      → Reports o e (Ok x) s t (refusal_report command (file_name c.file) c.text)
      → Obtains o e command Is stated (Ok None) s t
  not_obtained x c same h = record {
    writes = rw same (writes_went o e {T = Option V} None s t
        (refusal_report command (file_name c.file) c.text).marks h.writes.ok);
    value = rw same tt;
  }

  -- or the step stops
  pub obtains_stop : {T : Type 0} (stop : Stop)
      → Writes {T = T} o e (Err stop) s t (complaint_report command stated).marks
      → Obtains o e command Is stated (Err stop) s t
  obtains_stop {T} stop h = record {
    writes = stops_as o e {T = T} {U = Option V} stop s t (complaint_report command stated).marks h;
    value = tt;
  }

  -- what was answered says what is stated
  pub where_obtained : (v : V) → Obtains o e command Is stated (Ok (Some v)) s t
      → (p : Object) × (stated ≡ Ok p) × Is v p
  where_obtained v h = by_stated stated refl h.value
    where
      by_stated : (q : Result Object Complaint) → stated ≡ q → IsObtained Is (Some v) q
          → (p : Object) × (stated ≡ Ok p) × Is v p
      by_stated (Ok p) same is = (p, same, is)
      by_stated (Err c) same is = absurd is

  pub where_none : Obtains o e command Is stated (Ok None) s t
      → (c : Complaint) × (stated ≡ Err c)
  where_none h = by_stated stated refl h.value
    where
      by_stated : (q : Result Object Complaint) → stated ≡ q → IsObtained Is None q
          → (c : Complaint) × (stated ≡ Err c)
      by_stated (Ok p) same is = absurd is
      by_stated (Err c) same is = (c, same)
