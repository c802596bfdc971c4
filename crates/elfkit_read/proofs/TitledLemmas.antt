-- A report behind a title, on the image whose front was read.
use Rattle.std.proofs.Common.{◌≡◌, ◌||◌, ℕ, Bool, false, List, Result, Ok, Err, IfSome, refl, sym, ap, ◌∙◌}
use Rattle.elf_outside.specs.declared.sources.Source.{Ghosts as SourceGhosts}
use Rattle.elf_outside.specs.declared.sinks.Sink.{Ghosts as SinkGhosts}
use Rattle.elf_ident.specs.declared.fronts.Front.{Front}
use Rattle.elf_object.specs.Object.{Object}
use Rattle.elf_object.specs.Open.{begun, opened}
use Rattle.tool_output.specs.declared.stops.Stop.{Stop}
use Rattle.tool_output.specs.declared.outputs.Outputs.{Outputs}
use Rattle.tool_output.specs.Names.{Name}
use Rattle.tool_output.specs.Reports.{Report, Reports, joined_reports}
use Rattle.tool_output.specs.Sources.{ReportsOn}
use Rattle.tool_output.specs.Steps.{LeavesOutputs}
use Rattle.tool_objects.specs.Images.{image_report}
use Rattle.tool_objects.proofs.SourceSteps.{OnWay, way_begins, way_goes_on, way_stops_at, way_last, way_last_stop}
use Rattle.nm_tool.proofs.FrontLemmas.{image_nm}
use Rattle.nm_tool.proofs.FrontSteps.{if_some_of_all, of_both, says_now}
use Rattle.elfkit_read.specs.declared.titles.Title.{Title}
use Rattle.elfkit_read.specs.Titles.{title_report, titled_report}

module _ {S O E : Type 0} (g : SourceGhosts S) (o : SinkGhosts O) (e : SinkGhosts E)
    (command : List ℕ) (title : Title) (report : Name → Object → Report) (name : Name) (f : Front)
    (src : S) (told : IfSome (g.holds src) (λ image. opened image ≡ Ok (begun f image)))
    (t u : Outputs O E) where
  abbrev whole : List ℕ → Report
  whole image = image_report command (titled_report title report) name image

  abbrev behind : List ℕ → Report
  behind image = image_report command report name image

  parts : IfSome (g.holds src) (λ image.
      whole image ≡ joined_reports (title_report title name) (behind image))
  unfolding titled_report
  parts = of_both (λ image. opened image ≡ Ok (begun f image))
      (λ image. opened image ≡ Ok (begun f image))
      (λ image. whole image ≡ joined_reports (title_report title name) (behind image))
      (g.holds src) told told
      (λ image is same.
      image_nm command (titled_report title report) name f image is
      ∙ ap (joined_reports (title_report title name)) (sym (image_nm command report name f image is)))

  titled_step : (r : Result Bool Stop) → Reports o e r t u (title_report title name)
      → LeavesOutputs o e ⊥ r t u
      → ReportsOn g o e (λ image. title_report title name) r src src t u
  titled_step r h leaves =
      says_now g o e (λ image. title_report title name) r src t u
      (if_some_of_all (λ image. Reports o e r t u (title_report title name)) (g.holds src) (λ image. h))
      leaves

  -- it could not be written
  pub title_stops : (stop : Stop) → Reports o e (Err stop) t u (title_report title name)
      → LeavesOutputs {T = Bool} o e ⊥ (Err stop) t u
      → ReportsOn g o e whole (Err stop) src src t u
  title_stops stop h leaves =
      way_stops_at (way_begins g o e src t whole) (λ image. title_report title name) behind parts
      (titled_step (Err stop) h leaves)

  module _ (titled : Bool) (h : Reports o e (Ok titled) t u (title_report title name))
      (leaves : LeavesOutputs {T = Bool} o e ⊥ (Ok titled) t u) (after : S) (v : Outputs O E) where
    on_way : OnWay g o e titled src src t u whole behind
    on_way = way_goes_on (way_begins g o e src t whole) (λ image. title_report title name) behind
        parts (titled_step (Ok titled) h leaves) refl

    -- the report stands behind it
    pub title_then : (refused : Bool) → ReportsOn g o e behind (Ok refused) src after u v
        → ReportsOn g o e whole (Ok (titled || refused)) src after t v
    title_then refused k = way_last on_way k

    -- or a front of it
    pub title_then_stop : (stop : Stop) → ReportsOn g o e behind (Err stop) src after u v
        → ReportsOn g o e whole (Err stop) src after t v
    title_then_stop stop k = way_last_stop on_way k
