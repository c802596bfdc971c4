-- A call reads the home of one section, and what is held after it.
use Rattle.std.proofs.Common.{◌≡◌, ◌≢◌, ℕ, Bool, true, false, List, [], ◌∷◌, Option, Some, None, Result, Ok, Err, refl, sym, ap, ◌∙◌, subst, inl, inr, arith}
use Rattle.std.specs.Prelude.{slice_get, IfSome, IsTrue, IfErr, OnOk, is_some, unwrap_or, Contains, ◌||◌, ◌==◌, ◌⊎◌}
use Rattle.std.proofs.lemmas.Bool.{eqb-true}
use Rattle.std.proofs.Math.Nat.{zero-add}
use Rattle.elf_types.specs.declared.errors.ElfError.{ElfError}
use Rattle.elf_types.specs.declared.errors.ElfError.TheVariants.{Memory}
use Rattle.elf_types.specs.Answers.{answered, IsRefusal}
use Rattle.section_table.specs.elf_xlate.declared.content.Items.{Items}
use Rattle.section_table.specs.elf_outside.declared.sources.Source.{Ghosts}
use Rattle.section_table.specs.elf_outside.Asks.{Asks, Leaves}
use Rattle.section_table.specs.elf_object.Words.{Wants, Answers}
use Rattle.section_table.specs.elf_object.Object.{Object, piece_at}
use Rattle.section_table.specs.elf_object.Due.{is_loaded, holds_items, home_due, homes_due, unless_refused, is_refused_unread}
use Rattle.section_table.proofs.elf_object.AnswerLaws.{answers_refusal, answered_refusal}
use Rattle.section_table.specs.section_data.Views.{CellView}
use Rattle.section_table.specs.section_data.Held.{cell_is_loaded}
use Rattle.section_table.specs.section_data.Leaves.{Warms, RawBecomes}
use Rattle.section_table.specs.Sections.{SectionView as Scn}
use Rattle.elf_descriptor.specs.declared.body.Body.{Body}
use Rattle.elf_descriptor.specs.Views.{object_of, scn_at, loaded_of, held_of, state_of}
use Rattle.elf_descriptor.specs.Warmed.{Warmed}
use Rattle.elf_descriptor.specs.Reads.{Reads}
use Rattle.elf_descriptor.proofs.Refusals.{IsUnread, unless_unread, answers_passed, answers_unread}
use Rattle.elf_descriptor.proofs.Warming.{warmed_object, warmed_ready, warmed_cell, warmed_other, other_number}
use Rattle.elf_descriptor.proofs.Loaded.{loaded_is, room_is, home_held_is}

-- the object stays
pub left_object : {S : Type 0} (g : Ghosts S) (source left : S) (old new : Body) (s : ℕ) → Leaves g source left → Warmed (g.holds source) old new s
    → object_of (g.holds left) (g.size left) new ≡ object_of (g.holds source) (g.size source) old
left_object g source left old new s leaves w =
    ap (λ (image : Option (List ℕ)). object_of image (g.size left) new) leaves.same_bytes
    ∙ ap (λ (size : ℕ). object_of (g.holds source) size new) leaves.same_len
    ∙ warmed_object (g.holds source) (g.size source) old new s w

-- ---- What is held

raw_stays : (image : Option (List ℕ)) (c cell : CellView) → Warms image c cell → cell_is_loaded c ≡ true → cell_is_loaded cell ≡ true
raw_stays image c cell warms loaded = ap (λ (n : CellView). is_some n.raw) warms.cell ∙ by_raw c.raw warms.raw warms.bytes loaded
  where
    by_raw : (before after : Option (List ℕ)) → RawBecomes image c.home before after → is_some before ≡ true → is_some after ≡ true
    by_raw None after becomes is = cc
    by_raw (Some bytes) after becomes is = ap (λ (o : Option (List ℕ)). is_some o) becomes

held_stays : (image : Option (List ℕ)) (c cell : CellView) → Warms image c cell → is_some c.held ≡ true → is_some cell.held ≡ true
held_stays image c cell warms held = ap (λ (n : CellView). is_some n.held) warms.cell ∙ by_held c.held warms.held warms.items held
  where
    by_held : (before after : Option Items) → IfSome before (λ items. after ≡ Some items) → is_some before ≡ true → is_some after ≡ true
    by_held None after kept is = cc
    by_held (Some items) after kept is = ap (λ (o : Option Items). is_some o) kept

either_stays : (own before after : Bool) → (before ≡ true → after ≡ true) → IsTrue (own || before) → IsTrue (own || after)
either_stays true before after stays is = refl
either_stays false before after stays is = stays is

-- ---- What a call does that reads one section

abbrev pub object_over : {S : Type 0} → Ghosts S → S → Body → Object
object_over g source b = object_of (g.holds source) (g.size source) b

-- the other sections are as before
loads_there : (image : Option (List ℕ)) (old new : Body) (s : ℕ) (sections : List ℕ) → Warmed image old new s
    → (¬ Contains sections s → (scn_at new s).cell ≡ (scn_at old s).cell)
    → (i : ℕ) → ¬ Contains sections i → (scn_at new i).cell ≡ (scn_at old i).cell
loads_there image old new s sections w idle i out = by_number (i == s) refl
  where
    by_number : (b : Bool) → (i == s) ≡ b → (scn_at new i).cell ≡ (scn_at old i).cell
    by_number true e = let same = eqb-true i s e in subst (λ (n : ℕ). (scn_at new n).cell ≡ (scn_at old n).cell) (sym same) (idle (subst (λ (n : ℕ). ¬ Contains sections n) same out))
    by_number false e = ap (λ (x : Scn). x.cell) (warmed_other image old new s i w (other_number i s e))

pub held_there : (image : Option (List ℕ)) (old new : Body) (s : ℕ) (holding : List ℕ) → Warmed image old new s
    → (¬ Contains holding s → (scn_at new s).cell.held ≡ (scn_at old s).cell.held)
    → (i : ℕ) → ¬ Contains holding i → (scn_at new i).cell.held ≡ (scn_at old i).cell.held
held_there image old new s holding w idle i out = by_number (i == s) refl
  where
    by_number : (b : Bool) → (i == s) ≡ b → (scn_at new i).cell.held ≡ (scn_at old i).cell.held
    by_number true e = let same = eqb-true i s e in subst (λ (n : ℕ). (scn_at new n).cell.held ≡ (scn_at old n).cell.held) (sym same) (idle (subst (λ (n : ℕ). ¬ Contains holding n) same out))
    by_number false e = ap (λ (x : Scn). x.cell.held) (warmed_other image old new s i w (other_number i s e))

pub home_held : (b : Body) (s : ℕ) → is_loaded (held_of b) s ≡ is_some (scn_at b s).cell.held
unfolding is_loaded
home_held b s = home_held_is b s

holds_still : (image : Option (List ℕ)) (old new : Body) (s : ℕ) (o p : Object) → Warmed image old new s → p ≡ o → (t i : ℕ)
    → IsTrue (holds_items o (held_of old) t i) → IsTrue (holds_items p (held_of new) t i)
unfolding holds_items
holds_still image old new s o p w same t i is =
    subst (λ (q : Object). IsTrue (is_some (piece_at q t i).own || unwrap_or (slice_get (held_of new) t) false)) (sym same)
    (either_stays (is_some (piece_at o t i).own) (unwrap_or (slice_get (held_of old) t) false) (unwrap_or (slice_get (held_of new) t) false)
    (λ before. home_held_is new t ∙ held_stays image (scn_at old t).cell (scn_at new t).cell (warmed_cell image old new s t w) (sym (home_held_is old t) ∙ before)) is)

pub reads_warmed : {S T : Type 0} (g : Ghosts S) (result : Result T ElfError) (source left : S) (old new : Body) (s : ℕ) (sections holding : List ℕ)
    → Warmed (g.holds source) old new s
    → Asks g result source left (homes_due (object_over g source old) (loaded_of old) sections)
    → (¬ Contains sections s → (scn_at new s).cell ≡ (scn_at old s).cell)
    → (¬ Contains holding s → (scn_at new s).cell.held ≡ (scn_at old s).cell.held)
    → (IfErr result IsRefusal → homes_due (object_over g source old) (loaded_of new) sections ≡ 0)
    → Reads g result (state_of g source old) (state_of g left new) sections holding (homes_due (object_over g source old) (loaded_of old) sections)
reads_warmed g result source left old new s sections holding w asks idle kept settled = record {
  source = asks;
  told = ap (λ (o : Option (List ℕ)). is_some o) asks.leaves.same_bytes;
  ready = warmed_ready (g.holds source) old new s w;
  loads = λ i out.
      loaded_is new i
      ∙ ap (λ (c : CellView). cell_is_loaded c) (loads_there (g.holds source) old new s sections w idle i out)
      ∙ sym (loaded_is old i);
  stays = λ i before.
      loaded_is new i
      ∙ raw_stays (g.holds source) (scn_at old i).cell (scn_at new i).cell (warmed_cell (g.holds source) old new s i w) (sym (loaded_is old i) ∙ before);
  holds = λ i out.
      home_held new i
      ∙ ap (λ (o : Option Items). is_some o) (held_there (g.holds source) old new s holding w kept i out)
      ∙ sym (home_held old i);
  holds_on = holds_still (g.holds source) old new s (object_over g source old) (object_over g left new) w (left_object g source left old new s asks.leaves w);
  room = λ i unread. room_is new i ∙ ap (λ (c : CellView). c.room) (warmed_cell (g.holds source) old new s i w).cell ∙ sym (room_is old i);
  first_use = λ refused. omega (arith, asks.taken.no_more, settled refused);
}

-- ---- Refused before it reads, or one home is read

pub contains_one : (s : ℕ) → Contains (s ∷ []) s
contains_one s = (0, omega arith, refl)

-- where a section is not read its data is as before
pub idle_one : (told : Bool) (wants : Wants) (result : Result (Unit {0}) ElfError) (refusal : Option ElfError) (sections : List ℕ) (before after : CellView) (s : ℕ)
    → IsUnread refusal → Answers told wants result (answered refusal (tt {0})) → IfErr result (λ e. e ≢ Memory → after ≡ before)
    → ((sections ≡ s ∷ []) ⊎ (after ≡ before)) → ¬ Contains (unless_refused refusal sections) s → after ≡ before
idle_one told wants result refusal sections before after s unread came same (inr is) out = is
idle_one told wants (Ok x) refusal sections before after s unread came same (inl one) out =
    let none = answers_passed told wants refusal (tt {0}) x came in
    absurd (out (subst (λ (r : Option ElfError). Contains (unless_refused r sections) s) (sym none) (subst (λ (l : List ℕ). Contains l s) (sym one) (contains_one s))))
idle_one told wants (Err e) None sections before after s unread came same (inl one) out =
    absurd (out (subst (λ (l : List ℕ). Contains l s) (sym one) (contains_one s)))
idle_one told wants (Err e) (Some d) sections before after s (inl none) came same (inl one) out = cc
idle_one told wants (Err e) (Some d) sections before after s (inr unread) came same (inl one) out = same (answers_unread told wants e d (tt {0}) unread came)

pub none_due : (o : Object) (loaded : List Bool) (refusal : Option ElfError) (sections : List ℕ) → IsTrue (is_refused_unread refusal) → homes_due o loaded (unless_refused refusal sections) ≡ 0
unfolding homes_due
none_due o loaded refusal sections h = ap (λ (l : List ℕ). homes_due o loaded l) (unless_unread refusal sections h)

pub one_due : (o : Object) (loaded : List Bool) (s : ℕ) → homes_due o loaded (s ∷ []) ≡ home_due o loaded s
unfolding homes_due
one_due o loaded s = zero-add (home_due o loaded s)

loaded_due : (o : Object) (loaded : List Bool) (s : ℕ) → is_loaded loaded s ≡ true → home_due o loaded s ≡ 0
unfolding home_due
loaded_due o loaded s is = rw (home_due, is) refl

-- once the answer is given nothing of it is due any more
pub settled_one : (told : Bool) (wants : Wants) (result : Result (Unit {0}) ElfError) (refusal : Option ElfError) (sections : List ℕ) (o : Object) (loaded : List Bool) (s : ℕ)
    → IsUnread refusal → Answers told wants result (answered refusal (tt {0})) → ((sections ≡ s ∷ []) ⊎ (sections ≡ []))
    → OnOk result (sections ≡ s ∷ [] → is_loaded loaded s ≡ true) → IfErr result IsRefusal → homes_due o loaded (unless_refused refusal sections) ≡ 0
unfolding homes_due
settled_one told wants (Ok x) refusal sections o loaded s unread came (inl one) there settled =
    let none = answers_passed told wants refusal (tt {0}) x came in
    ap (λ (r : Option ElfError). homes_due o loaded (unless_refused r sections)) none ∙ ap (λ (l : List ℕ). homes_due o loaded l) one
    ∙ one_due o loaded s ∙ loaded_due o loaded s (there one)
settled_one told wants (Ok x) refusal sections o loaded s unread came (inr none_named) there settled =
    let none = answers_passed told wants refusal (tt {0}) x came in
    ap (λ (r : Option ElfError). homes_due o loaded (unless_refused r sections)) none ∙ ap (λ (l : List ℕ). homes_due o loaded l) none_named
settled_one told wants (Err e) refusal sections o loaded s unread came either there settled =
    by_unread refusal unread (answered_refusal refusal (tt {0}) e (answers_refusal told wants e (answered refusal (tt {0})) settled came))
  where
    by_unread : (r : Option ElfError) → IsUnread r → r ≡ Some e → homes_due o loaded (unless_refused r sections) ≡ 0
    by_unread r (inl none) is = cc
    by_unread r (inr h) is = none_due o loaded r sections h
