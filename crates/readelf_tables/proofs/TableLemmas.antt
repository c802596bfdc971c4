-- What is left of a table, and the items of it.
use Rattle.std.proofs.Common.{◌≡◌, ◌<◌, ◌+◌, ℕ, List, [], length, drop, Option, Some, None, refl, sym, ap, ◌∙◌, arith}
use Rattle.std.specs.Prelude.{slice_get}
use Rattle.std.proofs.lemmas.Option.{get_or_from_slice_get}
use Rattle.elf_object.specs.Object.{Object}
use Rattle.elf_xlate.specs.Translation.{items_count}
use Rattle.elf_object.specs.Answers.{count_at, items_at}
use Rattle.tool_output.specs.Lines.{numbered_lines}
use Rattle.tool_output.specs.Reports.{shown_report, joined_reports}
use Rattle.tool_output.proofs.UnderWayLemmas.{lines_left}
use Rattle.tool_objects.proofs.at_hand.HeldItems.{all_before}
use Rattle.readelf_tables.specs.Tables.{indexed_row, table_title}

module _ {A : Type 0} (line : ℕ → A → List ℕ) (xs : List A) (i : ℕ) where
  -- the row of the item there
  pub row_is : (x : A) → slice_get xs i ≡ Some x → indexed_row line xs i ≡ line i x
  row_is x is = ap (λ (r : Option A). elim r [ None ↦ [] | Some x ↦ line i x ]) is

  left_by : (r : Option A) → slice_get xs i ≡ r → i < length xs
      → shown_report (numbered_lines line i (drop i xs)) ≡ joined_reports (shown_report (indexed_row line xs i)) (shown_report (numbered_lines line (i + 1) (drop (i + 1) xs)))
  left_by None is lt = let past = all_before xs i is in absurd (omega (arith, past, lt))
  left_by (Some x) is lt =
      lines_left line xs i x lt (sym (get_or_from_slice_get xs i x x is))
      ∙ ap (λ (text : List ℕ). joined_reports (shown_report text) (shown_report (numbered_lines line (i + 1) (drop (i + 1) xs)))) (sym (row_is x is))

  -- the next row is one of what is left
  pub row_left : i < length xs
      → shown_report (numbered_lines line i (drop i xs)) ≡ joined_reports (shown_report (indexed_row line xs i)) (shown_report (numbered_lines line (i + 1) (drop (i + 1) xs)))
  row_left lt = left_by (slice_get xs i) refl lt

-- ---- The title

pub titled_as : (a b : List ℕ) (s : ℕ) (name : Option (List ℕ)) (n count : ℕ) → a ≡ b → n ≡ count → shown_report (table_title b s name count) ≡ shown_report (table_title a s name n)
titled_as a b s name n count same is =
    sym (ap (λ (m : ℕ). shown_report (table_title a s name m)) is ∙ ap (λ (t : List ℕ). shown_report (table_title t s name count)) same)

pub count_is : (o : Object) (s p : ℕ) → count_at o s p ≡ items_count (items_at o s p)
unfolding count_at
count_is o s p = refl
