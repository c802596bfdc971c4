-- The rows of a table, block by block.
use Rattle.std.proofs.Common.{◌≡◌, ℕ, suc, zero, ◌+◌, ◌-◌, ◌*◌, ◌<◌, ◌≤◌, ◌++◌, List, [], ◌∷◌, length, take, drop, get_or, Option, Some, None, refl, sym, ap, ◌∙◌, arith}
use Rattle.std.specs.Prelude.{slice_get, IsTrue}
use Rattle.std.proofs.lemmas.List.{at_drop_more, at_drop_all, append_assoc, take_more, take_all, drop-drop, get_or-drop, length-take-le, length-drop}
use Rattle.std.proofs.lemmas.Option.{get_or_from_slice_get, slice_get_within}
use Rattle.elf_types.specs.declared.records.Kind.{Kind}
use Rattle.elf_object.specs.Object.{Object}
use Rattle.elf_object.specs.Answers.{items_at}
use Rattle.elf_object.specs.Strings.{readable, string_answer}
use Rattle.elf_types.specs.declared.records.Sym.{Sym}
use Rattle.elf_xlate.specs.declared.content.Items.{Items}
use Rattle.tool_objects.specs.elf_descriptor.State.{State}
use Rattle.tool_objects.specs.gelf_view.Records.{string_front}
use Rattle.tool_output.specs.Lines.{numbered_lines}
use Rattle.tool_output.specs.Reports.{shown_report, joined_reports}
use Rattle.tool_output.proofs.UnderWayLemmas.{shown_append}
use Rattle.tool_objects.proofs.at_hand.HeldItems.{all_before}
use Rattle.readelf_rows.specs.Links.{AreSectionLinks}
use Rattle.readelf_tables.specs.Blocks.RelocationLines.{section_symbol, symbol_string, relocation_line, relocation_name}
use Rattle.readelf_tables.specs.Blocks.AtHand.{AreTableBytes, symbol_of}
use Rattle.readelf_tables.specs.Blocks.Blocks.{entry_row, relocation_row, table_row, found_row, symbol_name_in_bytes, relocations_in_bytes}
use Rattle.readelf_tables.specs.declared.blocks.at_hand.TableBytes.{TableBytes}
use Rattle.readelf_tables.specs.declared.blocks.blocks.Found.{Found}
use Rattle.readelf_tables.specs.declared.blocks.relocation_lines.RelocationEntry.{RelocationEntry}
use Rattle.readelf_rows.specs.declared.links.ItemTable.{ItemTable}
use Rattle.elf_object.specs.Object.{section_at}
use Rattle.readelf_rows.specs.declared.links.SectionLinks.{SectionLinks}

-- ---- Numbered lines

module _ {X : Type 0} (line : ℕ → X → List ℕ) where
  -- of a list with one item more
  pub lines_and_one : (i : ℕ) (xs : List X) (x : X) → numbered_lines line i (xs ++ x ∷ []) ≡ numbered_lines line i xs ++ line (i + length xs) x
  unfolding numbered_lines
  lines_and_one i [] x = let here : i + 0 ≡ i = omega arith in rw here (append_nil (line i x))
    where
      append_nil : (l : List ℕ) → l ++ [] ≡ l
      append_nil [] = refl
      append_nil (y ∷ l) = ap (λ (m : List ℕ). y ∷ m) (append_nil l)
  lines_and_one i (y ∷ xs) x =
      let place : i + 1 + length xs ≡ i + suc (length xs) = omega arith in
      ap (λ (l : List ℕ). line i y ++ l) (lines_and_one (i + 1) xs x)
      ∙ sym (append_assoc (line i y) (numbered_lines line (i + 1) xs) (line (i + 1 + length xs) x))
      ∙ ap (λ (n : ℕ). line i y ++ numbered_lines line (i + 1) xs ++ line n x) place

  -- of the first so many, and of the others
  pub lines_split : (n i : ℕ) (xs : List X) → numbered_lines line i xs ≡ numbered_lines line i (take n xs) ++ numbered_lines line (i + n) (drop n xs)
  unfolding numbered_lines
  lines_split zero i xs = let here : i + 0 ≡ i = omega arith in rw here refl
  lines_split (suc n) i [] = refl
  lines_split (suc n) i (x ∷ xs) =
      let place : i + 1 + n ≡ i + suc n = omega arith in
      ap (λ (l : List ℕ). line i x ++ l) (lines_split n (i + 1) xs)
      ∙ sym (append_assoc (line i x) (numbered_lines line (i + 1) (take n xs)) (numbered_lines line (i + 1 + n) (drop n xs)))
      ∙ ap (λ (m : ℕ). line i x ++ numbered_lines line (i + 1) (take n xs) ++ numbered_lines line m (drop n xs)) place

  -- a block, and what is left after it
  pub block_left : (n i : ℕ) (xs : List X)
      → shown_report (numbered_lines line i (drop i xs)) ≡ joined_reports (shown_report (numbered_lines line i (take n (drop i xs)))) (shown_report (numbered_lines line (i + n) (drop (i + n) xs)))
  block_left n i xs =
      ap shown_report (lines_split n i (drop i xs) ∙ ap (λ (l : List X). numbered_lines line i (take n (drop i xs)) ++ numbered_lines line (i + n) l) (drop-drop n i xs))
      ∙ shown_append (numbered_lines line i (take n (drop i xs))) (numbered_lines line (i + n) (drop (i + n) xs))

  -- the same with blocks of 64, by their number
  pub block_done : (b : ℕ) (xs : List X)
      → shown_report (numbered_lines line (b * 64) (drop (b * 64) xs))
      ≡ joined_reports (shown_report (numbered_lines line (b * 64) (take 64 (drop (b * 64) xs)))) (shown_report (numbered_lines line ((b + 1) * 64) (drop ((b + 1) * 64) xs)))
  block_done b xs =
      let next : b * 64 + 64 ≡ (b + 1) * 64 = omega arith in
      block_left 64 (b * 64) xs
      ∙ ap (λ (n : ℕ). joined_reports (shown_report (numbered_lines line (b * 64) (take 64 (drop (b * 64) xs)))) (shown_report (numbered_lines line n (drop n xs)))) next

-- the line of an item, and those behind it
module _ {X : Type 0} (line : ℕ → X → List ℕ) (xs : List X) where
  pub line_first : (i : ℕ) (x : X) → i < length xs → x ≡ get_or xs i x
      → numbered_lines line i (drop i xs) ≡ line i x ++ numbered_lines line (i + 1) (drop (i + 1) xs)
  unfolding numbered_lines
  line_first i x lt is =
      at_drop_more (numbered_lines line i) xs i x lt
      ∙ ap (λ (y : X). numbered_lines line i (y ∷ drop (i + 1) xs)) (sym is)

  -- there is none
  pub no_line : (i : ℕ) → length xs ≤ i → numbered_lines line i (drop i xs) ≡ []
  unfolding numbered_lines
  no_line i le = at_drop_all (numbered_lines line i) xs i le

-- two ways to write a line
pub lines_same : {X : Type 0} (f g : ℕ → X → List ℕ) → ((i : ℕ) (x : X) → f i x ≡ g i x) → (i : ℕ) (xs : List X) → numbered_lines f i xs ≡ numbered_lines g i xs
unfolding numbered_lines
lines_same f g same i [] = refl
lines_same f g same i (x ∷ xs) =
    ap (λ (l : List ℕ). l ++ numbered_lines f (i + 1) xs) (same i x) ∙ ap (λ (l : List ℕ). g i x ++ l) (lines_same f g same (i + 1) xs)

-- ---- A list that is filled

-- nothing is made yet
pub no_row_made : {X Y : Type 0} (row : ℕ → X → List ℕ) (made : ℕ → Y → List ℕ) (i j : ℕ) (ys : List Y) → ys ≡ [] → numbered_lines made i ys ≡ numbered_lines row j []
unfolding numbered_lines
no_row_made row made i j ys none = ap (numbered_lines made i) none

-- the next one is made
pub next_made : {X Y : Type 0} (row : ℕ → X → List ℕ) (made : ℕ → Y → List ℕ) (xs : List X) (k : ℕ) (ys : List Y) (x : X) (y : Y)
    → numbered_lines made 0 ys ≡ numbered_lines row 0 (take k xs) → k < length xs → x ≡ get_or xs k x → ((n m : ℕ) → made n y ≡ row m x)
    → numbered_lines made 0 (ys ++ y ∷ []) ≡ numbered_lines row 0 (take (k + 1) xs)
next_made {X} row made xs k ys x y so_far lt is same =
    lines_and_one made 0 ys y
    ∙ ap (λ (l : List ℕ). l ++ made (0 + length ys) y) so_far
    ∙ ap (λ (l : List ℕ). numbered_lines row 0 (take k xs) ++ l) (same (0 + length ys) (0 + length (take k xs)))
    ∙ sym (lines_and_one row 0 (take k xs) x)
    ∙ ap (numbered_lines row 0) (sym (take_more xs k x lt ∙ ap (λ (z : X). take k xs ++ z ∷ []) (sym is)))

-- ---- A block that is filled

module _ {X Y : Type 0} (row : ℕ → X → List ℕ) (made : ℕ → Y → List ℕ) (xs : List X) (first k : ℕ) where
  taken : (x : X) → slice_get xs (first + k) ≡ Some x → (take (k + 1) (drop first xs) ≡ take k (drop first xs) ++ x ∷ []) × (length (take k (drop first xs)) ≡ k)
  taken x there =
      let within : first + k < length xs = slice_get_within xs (first + k) x there in
      let len : length (drop first xs) ≡ length xs - first = length-drop first xs in
      let inside : k < length (drop first xs) = omega (arith, within, len) in
      let item : get_or (drop first xs) k x ≡ x = get_or-drop first xs k x ∙ get_or_from_slice_get xs (first + k) x x there in (
        take_more (drop first xs) k x inside ∙ ap (λ (y : X). take k (drop first xs) ++ y ∷ []) item,
        length-take-le k (drop first xs) (omega (arith, inside)),
      )

  -- with the next row
  pub block_more : (ys : List Y) (x : X) (y : Y) → numbered_lines made 0 ys ≡ numbered_lines row first (take k (drop first xs)) → slice_get xs (first + k) ≡ Some x
      → made (0 + length ys) y ≡ row (first + k) x → numbered_lines made 0 (ys ++ y ∷ []) ≡ numbered_lines row first (take (k + 1) (drop first xs))
  block_more ys x y so_far there same =
      let t = taken x there in
      lines_and_one made 0 ys y
      ∙ ap (λ (l : List ℕ). l ++ made (0 + length ys) y) so_far
      ∙ ap (λ (l : List ℕ). numbered_lines row first (take k (drop first xs)) ++ l) (same ∙ ap (λ (n : ℕ). row (first + n) x) (sym t.1))
      ∙ sym (lines_and_one row first (take k (drop first xs)) x)
      ∙ ap (numbered_lines row first) (sym t.0)

  -- there is no next row
  pub block_ends : (n : ℕ) → k ≤ n → slice_get xs (first + k) ≡ None → numbered_lines row first (take k (drop first xs)) ≡ numbered_lines row first (take n (drop first xs))
  block_ends n le none =
      let past : length xs ≤ first + k = all_before xs (first + k) none in
      let len : length (drop first xs) ≡ length xs - first = length-drop first xs in
      ap (numbered_lines row first) (take_all k (drop first xs) (omega (arith, past, len)) ∙ sym (take_all n (drop first xs) (omega (arith, past, len, le))))

-- a row by the symbol that was looked up
pub found_same : (t : TableBytes) (k : ℕ) (f : Found) (e : RelocationEntry) → f.entry ≡ e → f.symbol ≡ symbol_of t f.entry.rel.sym → found_row t.strings.now k f ≡ relocation_row t e
found_same t k f e is symbol =
    ap (λ (s : Option Sym). relocation_line f.entry.index f.entry.rel f.entry.addend (symbol_name_in_bytes t.strings.now s)) symbol ∙ ap (relocation_row t) is

-- ---- A table whose bytes are at hand

-- the name by the links of a section
pub relocation_name_is : (o : Object) (s y : ℕ) (links : SectionLinks) → AreSectionLinks o s links → relocation_name o s y ≡ symbol_string o links.strings.0 (section_symbol o links.linked.0 y)
unfolding relocation_name
relocation_name_is o s y links are =
    ap (λ (n : ℕ). symbol_string o (section_at o n).header.link (section_symbol o n y)) (sym are.linked)
    ∙ ap (λ (n : ℕ). symbol_string o n (section_symbol o links.linked.0 y)) (sym are.strings)

name_same : (o : Object) (names : ℕ) (strings : List ℕ) → ((offset : ℕ) → readable (string_answer o names offset) ≡ string_front (drop offset strings)) → (x : Option Sym)
    → symbol_string o names x ≡ symbol_name_in_bytes strings x
unfolding symbol_string
name_same o names strings same None = refl
name_same o names strings same (Some x) = same x.name

module _ {A S : Type 0} (kind : Kind) (list_of : Items → List A) (line : Object → ℕ → ℕ → A → List ℕ) (entry_of : ℕ → A → RelocationEntry) (state : State S) (table : ItemTable) (t : TableBytes)
    (links : AreSectionLinks state.o table.section.0 table.links) (lines : (o : Object) (s i : ℕ) (x : A) → line o s i x ≡ entry_row o s (entry_of i x))
    (hand : AreTableBytes kind list_of state table t) (told : IsTrue state.told) where
  entry_same : (e : RelocationEntry) → entry_row state.o table.section.0 e ≡ relocation_row t e
  entry_same e =
      ap (λ (n : Option (List ℕ)). relocation_line e.index e.rel e.addend n)
      (relocation_name_is state.o table.section.0 e.rel.sym table.links links
      ∙ name_same state.o table.links.strings.0 t.strings.now (hand.names told) (section_symbol state.o table.links.linked.0 e.rel.sym)
      ∙ ap (symbol_name_in_bytes t.strings.now) (hand.symbols told e.rel.sym))

  pub table_same : shown_report (numbered_lines (line state.o table.section.0) 0 (list_of (items_at state.o table.section.0 0)))
      ≡ shown_report (numbered_lines (table_row entry_of t) 0 (relocations_in_bytes kind list_of t))
  table_same =
      ap shown_report (lines_same (line state.o table.section.0) (table_row entry_of t) (λ i x. lines state.o table.section.0 i x ∙ entry_same (entry_of i x)) 0 (list_of (items_at state.o table.section.0 0))
      ∙ ap (numbered_lines (table_row entry_of t) 0) (hand.items told))
