-- The layout of an object whose plan is there and whose front is held.
use Rattle.std.proofs.Common.{◌≡◌, ℕ, Bool, true, false, List, [], Result, Ok, Err, take, drop, refl, sym, ◌∙◌, subst}
use Rattle.std.specs.Prelude.{if◌then◌else◌, IfOk, IfErr}
use Rattle.std.proofs.lemmas.List.{append-nil}
use Rattle.elf_object.specs.Object.{Object}
use Rattle.elf_object.specs.Layout.{placed}
use Rattle.elf_update_to.proofs.UpdateLaws.{planned_end}
use Rattle.rebuild_image.specs.declared.ranges.ranges.ByteRange.{ByteRange}
use Rattle.rebuild_image.specs.declared.streaming.Streamed.{Streamed}
use Rattle.rebuild_image.specs.Holding.{IsHeldFrontOf}
use Rattle.rebuild_image.specs.Ranges.Ranges.{range_bytes}
use Rattle.rebuild_image.specs.Streams.{IsStreamed}
use Rattle.c_handles.specs.declared.layout.planned.PlannedLayout.{PlannedLayout}
use Rattle.c_calls.specs.Layout.Images.{IsLayoutOf}

-- a range of bytes that are both held and the base
either_range : (held : List ℕ) (range : ByteRange)
    → range_bytes held held range ≡ take range.len (drop range.at held)
either_range held range = by_held range.held
  where
    by_held : (b : Bool) → take range.len (drop range.at (if b then held else held))
        ≡ take range.len (drop range.at held)
    by_held true = refl
    by_held false = refl

module _ (o : Object) (held : List ℕ) (s : Streamed) (l : PlannedLayout)
    (is : IsStreamed o [] held s) where
  front : IsHeldFrontOf (placed o) held held s.front
  front =
      subst (λ (bytes : List ℕ). IsHeldFrontOf (placed o) bytes held s.front)
      (append-nil held) (is.front [] held)

  pub layout_is : l.parts ≡ s.planned.parts → l.end ≡ s.planned.places.end
      → l.header ≡ take s.front.header.len (drop s.front.header.at held)
      → l.segments ≡ take s.front.segments.len (drop s.front.segments.at held)
      → l.table ≡ take s.front.table.len (drop s.front.table.at held)
      → IsLayoutOf o l
  layout_is parts end header segments table = record {
    ready = is.planned.ready;
    parts = parts ∙ is.planned.parts;
    end = end ∙ planned_end o s.planned is.planned;
    header = header ∙ sym (either_range held s.front.header) ∙ front.header;
    segments = segments ∙ sym (either_range held s.front.segments) ∙ front.segments;
    table = table ∙ sym (either_range held s.front.table) ∙ front.table;
  }

-- what is told of an answer, in other words
pub if_ok_on : {X E : Type 0} (P Q : X → Type 0) (r : Result X E) → ((x : X) → P x → Q x)
    → IfOk r P → IfOk r Q
if_ok_on P Q (Ok x) on is = on x is
if_ok_on P Q (Err e) on is = tt

pub if_err_on : {X E : Type 0} (P Q : E → Type 0) (r : Result X E) → ((e : E) → P e → Q e)
    → IfErr r P → IfErr r Q
if_err_on P Q (Ok x) on is = tt
if_err_on P Q (Err e) on is = on e is
