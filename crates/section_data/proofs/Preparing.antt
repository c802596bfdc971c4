-- A piece that comes to hold its items.
use Rattle.std.proofs.Common.{◌≡◌, ℕ, ◌<◌, Bool, true, false, not, List, [], ◌∷◌, Option, Some, None, Result, Ok, Err, refl, sym, ap, ◌∙◌, subst, inl, inr, arith}
use Rattle.std.specs.Prelude.{is_some, IsTrue, IsSome, IfErr, OnOk, ◌⊎◌}
use Rattle.std.proofs.lemmas.Bool.{lt-ltb}
use Rattle.elf_types.specs.declared.records.Class.{Class}
use Rattle.elf_types.specs.declared.errors.ElfError.{ElfError}
use Rattle.elf_types.specs.declared.errors.ElfError.TheVariants.{Memory, Read, OutOfFile, Ragged}
use Rattle.elf_types.specs.Answers.{answered, refused_if, first_refusal, IsRefusal}
use Rattle.elf_object.specs.elf_outside.Asks.{Asks}
use Rattle.elf_object.specs.elf_outside.declared.sources.Source.{Ghosts}
use Rattle.elf_object.proofs.elf_outside.AskLemmas.{read_rose_refused}
use Rattle.elf_object.specs.elf_xlate.declared.content.Items.{Items}
use Rattle.elf_object.specs.elf_xlate.Translation.{is_whole}
use Rattle.elf_object.specs.Words.{Answers}
use Rattle.section_data.specs.Views.{CellView}
use Rattle.section_data.specs.Held.{piece_in, ready, piece_holds_items, is_ragged}
use Rattle.section_data.specs.Refused.{no_piece, no_home_items, items_refused, home_out, home_ragged, load_due, piece_due, items_due, preparing}
use Rattle.section_data.specs.Leaves.{Warms}
use Rattle.section_data.proofs.Holdings.{none_of, ready_own, ready_clean}
use Rattle.section_data.proofs.Loading.{due_clean}

-- ---- Refusals

pub refused_by : (refusal : Option ElfError) (e : ElfError) → answered refusal (tt {0}) ≡ Err e → refusal ≡ Some e
refused_by None e h = cc
refused_by (Some d) e h = cc

pub passed_by : (refusal : Option ElfError) → answered refusal (tt {0}) ≡ Ok (tt {0}) → refusal ≡ None
passed_by None h = refl
passed_by (Some d) h = cc

pub due_refused : (class : Class) (c : CellView) (p : ℕ) (e : ElfError) → items_refused class c p ≡ Some e → items_due class c p ≡ 0
unfolding items_due
due_refused class c p e refused = rw (items_due, refused) refl

pub due_passed : (class : Class) (c : CellView) (p : ℕ) → items_refused class c p ≡ None → items_due class c p ≡ piece_due c p
unfolding items_due
due_passed class c p passed = rw (items_due, passed) refl

pub asks_nothing : {S : Type 0} (g : Ghosts S) (e : ElfError) (s : S) (n : ℕ) → IsRefusal e → Asks {T = Unit {0}} g (Err e) s s n
asks_nothing g e s n refusal = record {
  leaves = record { same_len = refl; same_bytes = refl; same_rest = refl };
  later = omega arith;
  read = read_rose_refused (Unit {0}) e (g.faults s) (g.faults s) refusal;
  taken = record { later = omega arith; no_more = omega arith };
}

both_passed : (a b : Option ElfError) → first_refusal (a ∷ b ∷ []) ≡ None → (a ≡ None) × (b ≡ None)
both_passed None None h = (refl, refl)
both_passed None (Some e) h = cc
both_passed (Some d) b h = cc

test_passed : (b : Bool) (e : ElfError) → refused_if b e ≡ None → b ≡ false
test_passed true e h = cc
test_passed false e h = refl

not_not : (b : Bool) → not b ≡ false → b ≡ true
not_not true h = refl
not_not false h = cc

home_passed : (class : Class) (c : CellView) (p : ℕ) → items_refused class c p ≡ None → is_some (piece_in c p).own ≡ false
    → first_refusal (home_out c ∷ home_ragged class c ∷ []) ≡ None
unfolding items_refused no_home_items
home_passed class c p passed clean =
    let each = (both_passed (no_piece c p) (no_home_items class c p) passed).1 in
    rw (no_home_items, none_of (piece_in c p).own clean) at each

pub home_inside : (class : Class) (c : CellView) (p : ℕ) → items_refused class c p ≡ None → is_some (piece_in c p).own ≡ false → c.home.out ≡ false
home_inside class c p passed clean =
    test_passed c.home.out (OutOfFile c.section) (both_passed (home_out c) (home_ragged class c) (home_passed class c p passed clean)).0

pub home_whole : (class : Class) (c : CellView) (p : ℕ) → items_refused class c p ≡ None → is_some (piece_in c p).own ≡ false
    → is_whole c.home.kind class c.home.len ≡ true
home_whole class c p passed clean =
    not_not (is_whole c.home.kind class c.home.len) (test_passed (is_ragged class c) (Ragged c.section)
    (both_passed (home_out c) (home_ragged class c) (home_passed class c p passed clean)).1)

-- ---- A piece that does not hold its items

pub unheld_clean : (c : CellView) (p : ℕ) → is_some (ready c p) ≡ false → is_some (piece_in c p).own ≡ false
unheld_clean c p unheld = by_own (piece_in c p).own refl
  where
    by_own : (o : Option Items) → (piece_in c p).own ≡ o → is_some o ≡ false
    by_own None is = refl
    by_own (Some items) is = let held = ap (λ (r : Option Items). is_some r) (ready_own c p items is) in cc

pub unheld_home : (c : CellView) (p : ℕ) → is_some (ready c p) ≡ false → c.held ≡ None
unheld_home c p unheld =
    let home = ready_clean c p (unheld_clean c p unheld) in
    none_of c.held (ap (λ (r : Option Items). is_some r) (sym home) ∙ unheld)

wanted : (c : CellView) (p : ℕ) (due : ℕ) (e : ElfError) → is_some (ready c p) ≡ false → (e ≡ Memory) ⊎ ((e ≡ Read) × (0 < due))
    → Answers true (preparing c p due) (Err e) (Ok (tt {0}))
wanted c p due e unheld (inl is) =
    subst (λ (d : ElfError). Answers true (preparing c p due) (Err d) (Ok (tt {0}))) (sym is) (ap not unheld, tt {0})
wanted c p due e unheld (inr is) =
    subst (λ (d : ElfError). Answers true (preparing c p due) (Err d) (Ok (tt {0}))) (sym is.0) (lt-ltb 0 due is.1, tt {0})

answers_warm : (c : CellView) (p : ℕ) (due : ℕ) (r : Result (Unit {0}) ElfError) → is_some (ready c p) ≡ false
    → IfErr r (λ e. (e ≡ Memory) ⊎ ((e ≡ Read) × (0 < due))) → Answers true (preparing c p due) r (Ok (tt {0}))
answers_warm c p due (Ok x) unheld h = (refl, λ told. refl)
answers_warm c p due (Err e) unheld h = wanted c p due e unheld h

pub prepare_answers : (class : Class) (c : CellView) (p : ℕ) (r : Result (Unit {0}) ElfError) → items_refused class c p ≡ None
    → is_some (ready c p) ≡ false → IfErr r (λ e. (e ≡ Memory) ⊎ ((e ≡ Read) × (0 < load_due c)))
    → Answers true (preparing c p (items_due class c p)) r (answered (items_refused class c p) (tt {0}))
prepare_answers class c p r passed unheld h =
    let due = due_passed class c p passed ∙ due_clean c p (unheld_clean c p unheld) in
    subst (λ (d : ℕ). Answers true (preparing c p d) r (answered (items_refused class c p) (tt {0}))) (sym due)
    (subst (λ (f : Option ElfError). Answers true (preparing c p (load_due c)) r (answered f (tt {0}))) (sym passed)
    (answers_warm c p (load_due c) r unheld h))

pub prepare_holds : (r : Result (Unit {0}) ElfError) (image : Option (List ℕ)) (old new : CellView) (p : ℕ) → Warms image old new
    → is_some (piece_in old p).own ≡ false → OnOk r (IsSome new.held) → OnOk r (IsTrue (piece_holds_items new p))
unfolding piece_in
prepare_holds (Err e) image old new p warms clean h = tt {0}
prepare_holds (Ok x) image old new p warms clean h =
    let same : is_some (piece_in new p).own ≡ false = ap (λ (n : CellView). is_some (piece_in n p).own) warms.cell ∙ clean in
    ap (λ (o : Option Items). is_some o) (ready_clean new p same) ∙ h
