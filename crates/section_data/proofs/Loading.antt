-- What reading and translating leaves, and how it is refused.
use Rattle.std.proofs.Common.{◌≡◌, ℕ, ◌<◌, Bool, true, false, List, length, take, drop, Option, Some, None, Result, Ok, Err, refl, sym, ap, ◌∙◌, subst, inl, inr, ◌+◌, ◌≤◌, not, ◌&&◌, arith}
use Rattle.std.specs.Prelude.{is_some, IfSome, IfErr, OnErr, OnOk, ◌⊎◌}
use Rattle.std.proofs.lemmas.Bool.{lt-ltb, ltb-false, eqb-true}
use Rattle.elf_types.specs.declared.errors.ElfError.{ElfError}
use Rattle.elf_types.specs.declared.errors.ElfError.TheVariants.{Memory, Read, OutOfFile}
use Rattle.elf_types.specs.Answers.{answered, refused_if}
use Rattle.elf_object.specs.elf_xlate.declared.content.Items.{Items}
use Rattle.elf_object.specs.elf_xlate.declared.content.Items.TheVariants as items
use Rattle.elf_object.specs.elf_xlate.Translation.{decoded}
use Rattle.std.specs.Option.{option_map, option_and_then}
use Rattle.elf_types.specs.declared.records.Class.{Class}
use Rattle.elf_types.specs.declared.records.Order.{Order}
use Rattle.elf_types.specs.declared.records.Kind.{Kind}
use Rattle.elf_types.specs.declared.records.Kind.TheVariants as kinds
use Rattle.elf_object.specs.Words.{Answers}
use Rattle.elf_object.specs.Object.{Home}
use Rattle.std.specs.Prelude.{nat_lt, ◌==◌}
use Rattle.elf_types.specs.declared.records.Shdr.{Shdr}
use Rattle.elf_object.specs.Open.{home_bytes, home_of, home_len}
use Rattle.section_data.specs.Views.{CellView, IsCell, opened_cell}
use Rattle.section_data.specs.Held.{piece_in, cell_is_loaded, HeldIs}
use Rattle.section_data.specs.Refused.{load_due, piece_due, home_out, loading}
use Rattle.section_data.specs.Leaves.{IsReadFrom, bytes_or_none, RawBecomes, Warms, LiesIn}
use Rattle.section_data.proofs.Holdings.{none_of}

raw_same : (image : Option (List ℕ)) (home : Home) (raw : Option (List ℕ)) → RawBecomes image home raw raw
raw_same image home None = tt
raw_same image home (Some bytes) = refl

held_same : (held : Option Items) → IfSome held (λ items. held ≡ Some items)
held_same None = tt
held_same (Some items) = refl

pub warms_same : (image : Option (List ℕ)) (c : CellView) → Warms image c c
warms_same image c = record { raw = c.raw; held = c.held; cell = refl; bytes = raw_same image c.home c.raw; items = held_same c.held }

raw_read : (image : Option (List ℕ)) (home : Home) (old now : Option (List ℕ)) → old ≡ None → IsReadFrom image home (bytes_or_none now) → RawBecomes image home old now
raw_read image home None None none is = tt
raw_read image home None (Some bytes) none is = is
raw_read image home (Some bytes) now none is = cc

pub warms_read : (r : Result (Unit {0}) ElfError) (image : Option (List ℕ)) (old new : CellView) → cell_is_loaded old ≡ false → OnErr r (new ≡ old)
    → OnOk r (new ≡ record old { raw = new.raw }) → OnOk r (IsReadFrom image old.home (bytes_or_none new.raw)) → Warms image old new
warms_read (Err e) image old new unread same is read = subst (λ (n : CellView). Warms image old n) (sym same) (warms_same image old)
warms_read (Ok x) image old new unread same is read = record {
  raw = new.raw;
  held = old.held;
  cell = is;
  bytes = raw_read image old.home old.raw new.raw (none_of old.raw unread) read;
  items = held_same old.held;
}

pub read_from : (image : Option (List ℕ)) (home : Home) (bytes : List ℕ) → home.out ≡ false → length bytes ≡ home.len
    → IfSome image (λ told. bytes ≡ take home.len (drop home.at told)) → IsReadFrom image home bytes
unfolding home_bytes
read_from None home bytes inside len is = (len, tt)
read_from (Some told) home bytes inside len is = (len, is ∙ sym (rw (home_bytes, inside) refl))

-- the same of bytes that are held then
pub kept_from : (image : Option (List ℕ)) (home : Home) (now : Option (List ℕ)) (bytes : List ℕ) (place len : ℕ) → home.out ≡ false
    → place ≡ home.at → len ≡ home.len → now ≡ Some bytes → length bytes ≡ len
    → IfSome image (λ told. bytes ≡ take len (drop place told)) → IsReadFrom image home (bytes_or_none now)
kept_from image home now bytes place len inside place_is len_is is long told =
    let here = subst (λ (n : ℕ). IfSome image (λ t. bytes ≡ take len (drop n t))) place_is told in
    let there = subst (λ (n : ℕ). IfSome image (λ t. bytes ≡ take n (drop home.at t))) len_is here in
    subst (λ (o : Option (List ℕ)). IsReadFrom image home (bytes_or_none o)) (sym is)
    (read_from image home bytes inside (long ∙ len_is) there)

-- room for a copy of raw bytes: the items that they hold are held
pub held_bytes : (class : Class) (order : Order) (c : CellView) → c.home.kind ≡ kinds.Bytes
    → option_map items.Bytes c.raw ≡ c.held → HeldIs class order c
unfolding decoded
held_bytes class order c kind same =
    subst (λ (k : Kind). IfSome c.held (λ i. option_and_then (decoded k class order) c.raw ≡ Some i)) (sym kind)
    (by_raw c.raw c.held same)
  where
    by_raw : (raw : Option (List ℕ)) (held : Option Items) → option_map items.Bytes raw ≡ held
        → IfSome held (λ i. option_and_then (decoded kinds.Bytes class order) raw ≡ Some i)
    by_raw None None e = tt
    by_raw None (Some i) e = cc
    by_raw (Some bytes) None e = tt
    by_raw (Some bytes) (Some i) e = e

-- ---- Refusals

pub due_unread : (c : CellView) → cell_is_loaded c ≡ false → c.home.out ≡ false → load_due c ≡ c.home.len
unfolding load_due
due_unread c unread inside = rw (load_due, unread, inside) refl

wanted : (due : ℕ) (e : ElfError) → 0 < due → (e ≡ Memory) ⊎ (e ≡ Read) → Answers true (loading due) (Err e) (Ok (tt {0}))
wanted due e some (inl is) = subst (λ (d : ElfError). Answers true (loading due) (Err d) (Ok (tt {0}))) (sym is) (lt-ltb 0 due some, tt {0})
wanted due e some (inr is) = subst (λ (d : ElfError). Answers true (loading due) (Err d) (Ok (tt {0}))) (sym is) (lt-ltb 0 due some, tt {0})

answers_read : (due : ℕ) (r : Result (Unit {0}) ElfError) → IfErr r (λ e. (0 < due) × ((e ≡ Memory) ⊎ (e ≡ Read))) → Answers true (loading due) r (Ok (tt {0}))
answers_read due (Ok x) h = (refl, λ told. refl)
answers_read due (Err e) h = wanted due e h.0 h.1

pub load_answers : (c : CellView) (r : Result (Unit {0}) ElfError) → cell_is_loaded c ≡ false → c.home.out ≡ false
    → IfErr r (λ e. (0 < c.home.len) × ((e ≡ Memory) ⊎ (e ≡ Read))) → Answers true (loading (load_due c)) r (answered (home_out c) (tt {0}))
load_answers c r unread inside err =
    subst (λ (due : ℕ). Answers true (loading due) r (answered (home_out c) (tt {0}))) (sym (due_unread c unread inside))
    (subst (λ (out : Bool). Answers true (loading c.home.len) r (answered (refused_if out (OutOfFile c.section)) (tt {0}))) (sym inside)
    (answers_read c.home.len r err))

pub due_own : (c : CellView) (p : ℕ) → is_some (piece_in c p).own ≡ true → piece_due c p ≡ 0
unfolding piece_due
due_own c p own = rw (piece_due, own) refl

pub due_clean : (c : CellView) (p : ℕ) → is_some (piece_in c p).own ≡ false → piece_due c p ≡ load_due c
unfolding piece_due
due_clean c p clean = rw (piece_due, clean) refl

-- what is loaded lies in the file
pub loaded_inside : (c : CellView) → IsCell c → cell_is_loaded c ≡ true → home_out c ≡ None
loaded_inside c cell loaded = by_out c.home.out refl
  where
    by_out : (out : Bool) → c.home.out ≡ out → refused_if out (OutOfFile c.section) ≡ None
    by_out true is = let none = ap (λ (r : Option (List ℕ)). is_some r) (cell.outside is) in cc
    by_out false is = refl

pub loaded_answers : (c : CellView) (due : ℕ) → IsCell c → cell_is_loaded c ≡ true → Answers true (loading due) (Ok (tt {0})) (answered (home_out c) (tt {0}))
loaded_answers c due cell loaded =
    subst (λ (f : Option ElfError). Answers true (loading due) (Ok (tt {0})) (answered f (tt {0}))) (sym (loaded_inside c cell loaded))
    (refl, λ told. refl)

pub load_errs : (c : CellView) (r : Result (Unit {0}) ElfError) → cell_is_loaded c ≡ false → c.home.out ≡ false
    → IfErr r (λ e. (0 < c.home.len) × ((e ≡ Memory) ⊎ (e ≡ Read)))
    → IfErr r (λ e. c.home.out ≡ false → (0 < load_due c) × ((e ≡ Memory) ⊎ (e ≡ Read)))
load_errs c (Ok x) unread inside err = tt {0}
load_errs c (Err e) unread inside err = λ out. (subst (λ (n : ℕ). 0 < n) (sym (due_unread c unread inside)) err.0, err.1)

-- a home in an image lies in a source of that size
pub opened_lies : (section size : ℕ) (h : Shdr) → LiesIn (opened_cell section (home_of size h)) size
unfolding home_of
opened_lies section size h = λ unread inside some. by_test (home_len h == 0) refl inside some
  where
    by_test : (b : Bool) → (home_len h == 0) ≡ b → (not b && nat_lt size (h.offset + home_len h)) ≡ false → 0 < home_len h
        → h.offset + home_len h ≤ size
    by_test true e inside some = let none = eqb-true (home_len h) 0 e in omega (arith, none, some)
    by_test false e inside some = ltb-false size (h.offset + home_len h) inside
