-- What is left of a cell for which memory is kept aside, and of one that is let go.
use Rattle.std.proofs.Common.{◌≡◌, ℕ, ◌+◌, ◌<◌, ◌≤◌, Bool, true, false, List, Option, Some, None, Result, Ok, Err, refl, sym, ap, ◌∙◌, subst}
use Rattle.std.specs.Prelude.{is_some, IsTrue, IfSome, IfErr, ◌||◌, ◌&&◌, cond}
use Rattle.std.proofs.lemmas.Bool.{lt-ltb}
use Rattle.elf_types.specs.declared.errors.ElfError.{ElfError}
use Rattle.elf_types.specs.declared.errors.ElfError.TheVariants.{Read, OutOfFile}
use Rattle.elf_types.specs.Answers.{answered, refused_if}
use Rattle.elf_object.specs.elf_xlate.declared.content.Items.{Items}
use Rattle.elf_object.specs.Words.{Answers}
use Rattle.elf_object.specs.Object.{Home}
use Rattle.section_data.specs.Views.{CellView, IsCell}
use Rattle.section_data.specs.Held.{cell_is_loaded, is_untouched}
use Rattle.section_data.specs.Refused.{load_due, home_out, reading}
use Rattle.section_data.specs.Leaves.{RawBecomes, Warms, LiesIn, FillsRoom, with_room, unloaded}
use Rattle.section_data.proofs.Loading.{due_unread}

fills_same_raw : (image : Option (List ℕ)) (c : CellView) (raw : Option (List ℕ)) → c.raw ≡ raw → is_some raw ≡ true
    → cell_is_loaded c ≡ true → FillsRoom image c c
fills_same_raw image c None is some loaded = cc
fills_same_raw image c (Some bytes) is some loaded = record {
  raw = bytes;
  cell = ap (λ (raw : Option (List ℕ)). record c { raw = raw }) is
      ∙ ap (λ (l : Bool). record c { raw = Some bytes; room = l && c.room }) (sym loaded);
  bytes = subst (λ (raw : Option (List ℕ)). RawBecomes image c.home raw (Some bytes)) (sym is) refl;
}

-- where the section is loaded nothing is read
pub fills_same : (image : Option (List ℕ)) (c : CellView) → cell_is_loaded c ≡ true → FillsRoom image c c
fills_same image c loaded = fills_same_raw image c c.raw refl loaded loaded

-- a home for which memory is kept aside lies in the file
pub room_inside : (c : CellView) → IsCell c → IsTrue (cell_is_loaded c || c.room) → cell_is_loaded c ≡ false → c.home.out ≡ false
room_inside c cell kept unread = by_out c.home.out refl
  where
    by_out : (out : Bool) → c.home.out ≡ out → out ≡ false
    by_out false is = refl
    by_out true is =
        let none = cell.no_room is in
        let some : c.room ≡ true = rw unread at kept in
        let never = sym none ∙ some in cc

answers_reading : (due : ℕ) (r : Result (Unit {0}) ElfError) → IfErr r (λ e. (e ≡ Read) × (0 < due)) → Answers true (reading due) r (Ok (tt {0}))
answers_reading due (Ok x) h = (refl, λ told. refl)
answers_reading due (Err e) h = subst (λ (d : ElfError). Answers true (reading due) (Err d) (Ok (tt {0}))) (sym h.0) (lt-ltb 0 due h.1, tt {0})

pub reserved_answers : (c : CellView) (r : Result (Unit {0}) ElfError) → cell_is_loaded c ≡ false → c.home.out ≡ false
    → IfErr r (λ e. (e ≡ Read) × (0 < c.home.len)) → Answers true (reading (load_due c)) r (answered (home_out c) (tt {0}))
reserved_answers c r unread inside err =
    subst (λ (due : ℕ). Answers true (reading due) r (answered (home_out c) (tt {0}))) (sym (due_unread c unread inside))
    (subst (λ (out : Bool). Answers true (reading c.home.len) r (answered (refused_if out (OutOfFile c.section)) (tt {0}))) (sym inside)
    (answers_reading c.home.len r err))

pub reserved_errs : (c : CellView) (r : Result (Unit {0}) ElfError) → cell_is_loaded c ≡ false → c.home.out ≡ false
    → IfErr r (λ e. (e ≡ Read) × (0 < c.home.len)) → IfErr r (λ e. (e ≡ Read) × (0 < load_due c))
reserved_errs c r unread inside err = subst (λ (n : ℕ). IfErr r (λ e. (e ≡ Read) × (0 < n))) (sym (due_unread c unread inside)) err

-- ---- What a caller keeps

-- with the memory as it was, a load into it is an ordinary one
pub fills_warms : (image : Option (List ℕ)) (old new : CellView) → FillsRoom image old new → Warms image old (record new { room = old.room })
fills_warms image old new fills = record {
  raw = Some fills.raw;
  held = old.held;
  cell = ap (λ (c : CellView). record c { room = old.room }) fills.cell;
  bytes = fills.bytes;
  items = same old.held;
}
  where
    same : (held : Option Items) → IfSome held (λ items. held ≡ Some items)
    same None = tt
    same (Some items) = refl

-- a cell for which memory is kept aside differs in that alone
pub with_room_is : (c : CellView) → with_room c ≡ record c { room = (with_room c).room }
with_room_is c = by_test (cell_is_loaded c)
  where
    by_test : (b : Bool) → cond b c (record c { room = true }) ≡ record c { room = (cond b c (record c { room = true })).room }
    by_test true = refl
    by_test false = refl

-- one that is let go differs in what is held of the home
pub unloaded_is : (c : CellView) → unloaded c ≡ record c { raw = (unloaded c).raw; held = (unloaded c).held }
unloaded_is c = by_test (is_untouched c)
  where
    go : CellView
    go = record c { raw = None; held = None }

    by_test : (b : Bool) → cond b go c ≡ record c { raw = (cond b go c).raw; held = (cond b go c).held }
    by_test true = refl
    by_test false = refl

pub lies_with_room : (c : CellView) (size : ℕ) → LiesIn c size → LiesIn (with_room c) size
lies_with_room c size lies = subst (λ (c : CellView). LiesIn c size) (sym (with_room_is c)) lies

-- a home that lies in a source still does once it was read and let go
pub lies_unloaded : (image : Option (List ℕ)) (old warm : CellView) (size : ℕ) → cell_is_loaded old ≡ false → LiesIn old size
    → Warms image old warm → LiesIn (unloaded warm) size
lies_unloaded image old warm size unread lies warms =
    let same : (unloaded warm).home ≡ old.home = ap (λ (c : CellView). c.home) (unloaded_is warm) ∙ ap (λ (c : CellView). c.home) warms.cell in
    λ _ inside some. subst (λ (h : Home). h.out ≡ false → 0 < h.len → h.at + h.len ≤ size) (sym same) (lies unread) inside some
