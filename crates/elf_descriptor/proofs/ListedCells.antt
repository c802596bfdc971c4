-- Items of a kind in a section's data are made to be at hand.
use Rattle.std.proofs.Common.{◌≡◌, ℕ, Bool, true, false, not, ◌||◌, List, [], ◌∷◌, length, set, ◌<◌, Option, Some, None, Result, Ok, Err, refl, sym, ap, ◌∙◌, subst, arith}
use Rattle.std.proofs.lemmas.List.{length-set}
use Rattle.std.proofs.lemmas.Bool.{leb-false}
use Rattle.std.specs.Prelude.{nat_le, IsTrue, OnOk, is_some, if◌then◌else◌}
use Rattle.elf_types.specs.declared.records.Class.{Class}
use Rattle.elf_types.specs.declared.records.Kind.{Kind}
use Rattle.elf_types.specs.declared.errors.ElfError.{ElfError}
use Rattle.elf_types.specs.declared.errors.ElfError.TheVariants.{NoSection, NoData, WrongKind, OutOfFile, Ragged}
use Rattle.elf_types.specs.Answers.{answered, refused_if}
use Rattle.section_table.specs.elf_xlate.declared.content.Items.{Items}
use Rattle.section_table.specs.elf_object.Words.{Answers}
use Rattle.section_table.proofs.elf_object.PassedLaws.{none_first, none_rest, passed_two, not_refused, not_not}
use Rattle.section_table.proofs.elf_object.StepLaws.{same_kind-true}
use Rattle.section_table.specs.elf_object.Answers.{same_kind}
use Rattle.section_table.specs.section_data.Views.{CellView}
use Rattle.section_table.specs.section_data.Held.{piece_in, kind_in, cell_is_loaded, is_ragged, is_at_hand}
use Rattle.section_table.specs.section_data.Refused.{no_piece, wrong_piece_kind, no_home_items, kind_refused, items_refused, home_out, piece_due, loading}
use Rattle.section_table.specs.section_data.Leaves.{Warms}
use Rattle.elf_types.specs.declared.records.Ehdr.{Ehdr}
use Rattle.section_table.specs.Sections.{SectionView as Scn}
use Rattle.elf_descriptor.specs.declared.body.Body.{Body}
use Rattle.elf_descriptor.specs.Views.{scn_at, no_scn}
use Rattle.elf_descriptor.specs.Bodies.{no_items_in, no_list_in}
use Rattle.elf_descriptor.specs.Dues.{list_due, IsListed}
use Rattle.elf_descriptor.proofs.Warming.{scn_written}

-- ---- Nothing is refused

pub list_home : (class : Class) (c : CellView) (kind : Kind) (p : ℕ) → kind_refused class c kind p ≡ None → no_home_items class c p ≡ None
unfolding kind_refused
list_home class c kind p passed =
    none_first (no_home_items class c p) []
    (none_rest (wrong_piece_kind c kind p) (no_home_items class c p ∷ []) (none_rest (no_piece c p) (wrong_piece_kind c kind p ∷ no_home_items class c p ∷ []) passed))

pub items_home : (class : Class) (c : CellView) (p : ℕ) → items_refused class c p ≡ None → no_home_items class c p ≡ None
unfolding items_refused
items_home class c p passed = none_first (no_home_items class c p) [] (none_rest (no_piece c p) (no_home_items class c p ∷ []) passed)

-- there is such a section, and such a piece
pub scn_passed : (b : Body) (s : ℕ) → no_scn b s ≡ None → s < length b.sections
unfolding no_scn
scn_passed b s passed =
    leb-false (length b.sections) s
    (not_refused (nat_le (length b.sections) s) (NoSection s (length b.sections)) passed)

piece_passed : (c : CellView) (p : ℕ) → no_piece c p ≡ None → p < length c.pieces
piece_passed c p passed = leb-false (length c.pieces) p (not_refused (nat_le (length c.pieces) p) (NoData p (length c.pieces)) passed)

pub items_passed : (b : Body) (s p : ℕ) → no_items_in b s p ≡ None
    → (s < length b.sections) × (p < length (scn_at b s).cell.pieces)
    × (no_home_items b.header.class (scn_at b s).cell p ≡ None)
unfolding no_items_in items_refused
items_passed b s p passed =
    let c = (scn_at b s).cell in
    let rest = none_first (items_refused b.header.class c p) [] (none_rest (no_scn b s) (items_refused b.header.class c p ∷ []) passed) in (
      scn_passed b s (none_first (no_scn b s) (items_refused b.header.class c p ∷ []) passed),
      piece_passed c p (none_first (no_piece c p) (no_home_items b.header.class c p ∷ []) rest),
      items_home b.header.class c p rest,
    )

pub list_passed : (b : Body) (kind : Kind) (s p : ℕ) → no_list_in b kind s p ≡ None
    → (s < length b.sections) × (p < length (scn_at b s).cell.pieces)
    × (kind_in (scn_at b s).cell p ≡ kind)
    × (no_home_items b.header.class (scn_at b s).cell p ≡ None)
unfolding no_list_in kind_refused
list_passed b kind s p passed =
    let c = (scn_at b s).cell in
    let rest = none_first (kind_refused b.header.class c kind p) [] (none_rest (no_scn b s) (kind_refused b.header.class c kind p ∷ []) passed) in
    let after = none_rest (no_piece c p) (wrong_piece_kind c kind p ∷ no_home_items b.header.class c p ∷ []) rest in
    let right = not_refused (not (same_kind (kind_in c p) kind)) (WrongKind (kind_in c p)) (none_first (wrong_piece_kind c kind p) (no_home_items b.header.class c p ∷ []) after) in (
      scn_passed b s (none_first (no_scn b s) (kind_refused b.header.class c kind p ∷ []) passed),
      piece_passed c p (none_first (no_piece c p) (wrong_piece_kind c kind p ∷ no_home_items b.header.class c p ∷ []) rest),
      same_kind-true (kind_in c p) kind (not_not (same_kind (kind_in c p) kind) right),
      list_home b.header.class c kind p rest,
    )

-- the home of a clean piece lies in the file and has whole items
pub home_whole : (class : Class) (c : CellView) (p : ℕ) → no_home_items class c p ≡ None → (piece_in c p).own ≡ None → (c.home.out ≡ false) × (is_ragged class c ≡ false)
unfolding no_home_items
home_whole class c p passed clean =
    passed_two c.home.out (is_ragged class c) (OutOfFile c.section) (Ragged c.section) (rw (no_home_items, clean) at passed)

pub clean_or_own : (c : CellView) (p : ℕ) (b : Bool) → is_some (piece_in c p).own ≡ b → b ≡ false → (piece_in c p).own ≡ None
clean_or_own c p b is clean = by_own (piece_in c p).own refl
  where
    by_own : (o : Option Items) → (piece_in c p).own ≡ o → o ≡ None
    by_own None e = refl
    by_own (Some items) e = let some = sym (ap (λ (q : Option Items). is_some q) e) ∙ is ∙ clean in cc

-- ---- What reading leaves

pub warms_piece : (image : Option (List ℕ)) (c cell : CellView) (p : ℕ) → Warms image c cell → piece_in cell p ≡ piece_in c p
unfolding piece_in
warms_piece image c cell p warms = ap (λ (n : CellView). piece_in n p) warms.cell

pub warms_kind : (image : Option (List ℕ)) (c cell : CellView) (p : ℕ) → Warms image c cell → kind_in cell p ≡ kind_in c p
unfolding kind_in piece_in
warms_kind image c cell p warms = ap (λ (n : CellView). kind_in n p) warms.cell

pub warms_ragged : (image : Option (List ℕ)) (class : Class) (c cell : CellView) → Warms image c cell → is_ragged class cell ≡ is_ragged class c
warms_ragged image class c cell warms = ap (λ (n : CellView). is_ragged class n) warms.cell

-- ---- A step that checks a kind and then reads

pub list_due_is : (class : Class) (c : CellView) (kind : Kind) (p : ℕ) → kind_refused class c kind p ≡ None → list_due class c kind p ≡ piece_due c p
unfolding list_due
list_due_is class c kind p passed = rw (list_due, passed) refl

none_out : (class : Class) (c : CellView) (kind : Kind) (p : ℕ) → kind_refused class c kind p ≡ None → ◌≡◌ {A = Option ElfError} (if is_some (piece_in c p).own then None else home_out c) None
none_out class c kind p passed = by_own (is_some (piece_in c p).own) refl
  where
    by_own : (b : Bool) → is_some (piece_in c p).own ≡ b → ◌≡◌ {A = Option ElfError} (if b then None else home_out c) None
    by_own true e = refl
    by_own false e = ap (λ (out : Bool). refused_if out (OutOfFile c.section)) (home_whole class c p (list_home class c kind p passed) (clean_or_own c p false e refl)).0

pub list_answers : (class : Class) (c : CellView) (kind : Kind) (p : ℕ) (r : Result (Unit {0}) ElfError) → kind_refused class c kind p ≡ None
    → Answers true (loading (piece_due c p)) r (answered (if is_some (piece_in c p).own then None else home_out c) (tt {0}))
    → Answers true (loading (list_due class c kind p)) r (answered (kind_refused class c kind p) (tt {0}))
list_answers class c kind p r passed came =
    subst (λ (n : ℕ). Answers true (loading n) r (answered (kind_refused class c kind p) (tt {0}))) (sym (list_due_is class c kind p passed))
    (subst (λ (f : Option ElfError). Answers true (loading (piece_due c p)) r (answered f (tt {0}))) (none_out class c kind p passed ∙ sym passed) came)

pub list_hand : (image : Option (List ℕ)) (class : Class) (c cell : CellView) (kind : Kind) (p : ℕ) (r : Result (Unit {0}) ElfError) → kind_refused class c kind p ≡ None → Warms image c cell
    → OnOk r (IsTrue (is_some (piece_in c p).own || cell_is_loaded cell)) → OnOk r (IsTrue (is_at_hand class cell p))
unfolding is_at_hand
list_hand image class c cell kind p (Err e) passed warms h = h
list_hand image class c cell kind p (Ok x) passed warms h = by_own (is_some (piece_in c p).own) refl h
  where
    by_own : (b : Bool) → is_some (piece_in c p).own ≡ b → IsTrue (b || cell_is_loaded cell) → IsTrue (is_at_hand class cell p)
    by_own true e h = rw (is_at_hand, warms_piece image c cell p warms, e) refl
    by_own false e h =
        let whole = warms_ragged image class c cell warms ∙ (home_whole class c p (list_home class c kind p passed) (clean_or_own c p false e refl)).1 in
        rw (is_at_hand, warms_piece image c cell p warms, e, h, whole) refl

-- what holds of each answer holds of a value
pub always : {P : Type 0} (r : Result (Unit {0}) ElfError) → P → OnOk r P
always (Ok x) h = h
always (Err e) h = tt {0}

-- the section that is written is at hand
pub listed_by : (b new : Body) (s p : ℕ) (kind : Kind) (x : Scn) (r : Result (Unit {0}) ElfError)
    → s < length b.sections → new.sections ≡ set b.sections s x
    → new.header ≡ b.header → OnOk r (p < length x.cell.pieces) → OnOk r (kind_in x.cell p ≡ kind) → OnOk r (IsTrue (is_at_hand b.header.class x.cell p)) → OnOk r (IsListed new s p kind)
listed_by b new s p kind x (Err e) there is header piece kind_right hand = tt {0}
listed_by b new s p kind x (Ok y) there is header piece kind_right hand =
    let at = sym (scn_written b new s x there is) in
    record {
      section = let count = ap length is ∙ length-set b.sections s x in omega (arith, there, count);
      piece = subst (λ (z : Scn). p < length z.cell.pieces) at piece;
      kind_is = subst (λ (z : Scn). kind_in z.cell p ≡ kind) at kind_right;
      hand = subst (λ (z : Scn). IsTrue (is_at_hand new.header.class z.cell p)) at (subst (λ (h : Ehdr). IsTrue (is_at_hand h.class x.cell p)) (sym header) hand);
    }
