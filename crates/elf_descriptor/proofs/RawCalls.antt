-- The call that gives a home's bytes: how it is refused, what it is due, and what it reads.
use Rattle.std.proofs.Common.{◌≡◌, ◌≢◌, ℕ, ◌<◌, ◌≤◌, Bool, true, false, List, [], ◌∷◌, length, Option, Some, None, Result, Ok, Err, refl, sym, ap, ◌∙◌, subst, inl, arith}
use Rattle.std.specs.Prelude.{IsTrue, IfErr, OnOk, OnErr, nat_lt, nat_le, ◌||◌, not, if◌then◌else◌}
use Rattle.std.proofs.lemmas.Bool.{ltb-true, ltb-false, le-leb, leb-true}
use Rattle.elf_types.specs.declared.errors.ElfError.{ElfError}
use Rattle.elf_types.specs.declared.errors.ElfError.TheVariants.{Memory, NoSection, OutOfFile}
use Rattle.elf_types.specs.Answers.{answered, refused_if, first_refusal, err_of}
use Rattle.section_table.specs.elf_outside.declared.sources.Source.{Ghosts}
use Rattle.section_table.specs.elf_outside.Asks.{Asks}
use Rattle.section_table.specs.elf_object.Words.{Answers}
use Rattle.section_table.specs.elf_object.Object.{Object, Section, section_at}
use Rattle.section_table.specs.elf_object.Answers.{out_of_file, raw_refusal}
use Rattle.section_table.specs.elf_object.Calls.{raw_answer, wants}
use Rattle.section_table.specs.elf_object.Calls as calls
use Rattle.section_table.specs.elf_object.Due.{is_loaded, home_due, homes_due, unless_refused}
use Rattle.section_table.specs.section_data.Views.{CellView}
use Rattle.section_table.specs.section_data.Held.{cell_is_loaded}
use Rattle.section_table.specs.section_data.Refused.{home_out, load_due, loading}
use Rattle.section_table.specs.Sections.{SectionView as Scn, absent_scn}
use Rattle.elf_descriptor.specs.declared.body.Body.{Body}
use Rattle.elf_descriptor.specs.Views.{object_of, section_of, scn_at, no_scn, loaded_of, held_of, state_of}
use Rattle.elf_descriptor.specs.Bodies.{no_raw_in}
use Rattle.elf_descriptor.specs.Warmed.{Warmed}
use Rattle.elf_descriptor.specs.Sound.{IsElf}
use Rattle.elf_descriptor.specs.Reads.{Reads, Queries}
use Rattle.elf_descriptor.proofs.Refusals.{IsUnread, unread_if, unread_first, err_of_answered, answers_wants}
use Rattle.elf_descriptor.proofs.Objects.{section_is, no_section_is}
use Rattle.elf_descriptor.proofs.Warming.{cell_at}
use Rattle.elf_descriptor.proofs.Loaded.{loaded_is, absent_at}
use Rattle.elf_descriptor.proofs.Reading.{object_over, left_object, reads_warmed, idle_one, settled_one, one_due, none_due}

-- ---- A section by its number

pub scn_missing : (b : Body) (s : ℕ) → length b.sections ≤ s
    → no_scn b s ≡ Some (NoSection s (length b.sections))
unfolding no_scn
scn_missing b s past = rw (no_scn, le-leb (length b.sections) s past) refl

pub scn_there : (b : Body) (s : ℕ) → s < length b.sections → no_scn b s ≡ None
unfolding no_scn
scn_there b s there = by_test (nat_le (length b.sections) s) refl
  where
    by_test : (t : Bool) → nat_le (length b.sections) s ≡ t
        → refused_if t (NoSection s (length b.sections)) ≡ None
    by_test true e = let past = leb-true (length b.sections) s e in
        absurd (omega (arith, past, there))
    by_test false e = refl

pub out_is : (image : Option (List ℕ)) (size : ℕ) (b : Body) (s : ℕ) → IsElf image size b → out_of_file (object_of image size b) s ≡ home_out (scn_at b s).cell
unfolding section_of
out_is image size b s is =
    ap (λ (c : Section). refused_if c.home.out (OutOfFile s)) (section_is image size b s)
    ∙ by_range (nat_lt s (length b.sections)) refl
  where
    by_range : (t : Bool) → nat_lt s (length b.sections) ≡ t
        → refused_if (scn_at b s).cell.home.out (OutOfFile s) ≡ home_out (scn_at b s).cell
    by_range true e =
        let number = (cell_at image size b s is (ltb-true s (length b.sections) e)).number in
        ap (λ (n : ℕ). refused_if (scn_at b s).cell.home.out (OutOfFile n)) (sym number)
    by_range false e =
        subst (λ (x : Scn). refused_if x.cell.home.out (OutOfFile s) ≡ home_out x.cell)
        (sym (absent_at b s (ltb-false s (length b.sections) e))) refl

pub home_due_is : (image : Option (List ℕ)) (size : ℕ) (b : Body) (s : ℕ) → home_due (object_of image size b) (loaded_of b) s ≡ load_due (scn_at b s).cell
unfolding home_due load_due section_of
home_due_is image size b s =
    ap (λ (t : Bool). if t || (section_at (object_of image size b) s).home.out then 0 else (section_at (object_of image size b) s).home.len) (loaded_is b s)
    ∙ ap (λ (c : Section). if cell_is_loaded (scn_at b s).cell || c.home.out then 0 else c.home.len) (section_is image size b s)

-- ---- Refusals and dues

pub raw_refusal_is : (image : Option (List ℕ)) (size : ℕ) (b : Body) (s : ℕ) → IsElf image size b → raw_refusal (object_of image size b) s ≡ no_raw_in b s
unfolding raw_refusal no_raw_in
raw_refusal_is image size b s is =
    ap (λ (r : Option ElfError). first_refusal (r ∷ out_of_file (object_of image size b) s ∷ [])) (no_section_is image size b s)
    ∙ ap (λ (r : Option ElfError). first_refusal (no_scn b s ∷ r ∷ [])) (out_is image size b s is)

raw_unread : (b : Body) (s : ℕ) → IsUnread (no_raw_in b s)
unfolding no_raw_in no_scn
raw_unread b s =
    unread_first (no_scn b s) (home_out (scn_at b s).cell ∷ [])
    (unread_if (nat_le (length b.sections) s) (NoSection s (length b.sections)) refl)
    (unread_first (home_out (scn_at b s).cell) [] (unread_if (scn_at b s).cell.home.out (OutOfFile (scn_at b s).cell.section) refl) (inl refl))

raw_reads : (image : Option (List ℕ)) (size : ℕ) (b : Body) (s : ℕ) → IsElf image size b
    → unless_refused (err_of (raw_answer (object_of image size b) s)) (s ∷ []) ≡ unless_refused (no_raw_in b s) (s ∷ [])
unfolding raw_answer
raw_reads image size b s is =
    ap (λ (r : Option ElfError). unless_refused r (s ∷ []))
    (err_of_answered (raw_refusal (object_of image size b) s) (section_at (object_of image size b) s).raw ∙ raw_refusal_is image size b s is)

out_due : (c : CellView) → c.home.out ≡ true → load_due c ≡ 0
unfolding load_due
out_due c out = by_loaded (cell_is_loaded c) c.home.out out
  where
    by_loaded : (a b : Bool) → b ≡ true → (if a || b then 0 else c.home.len) ≡ 0
    by_loaded true b e = refl
    by_loaded false b e = rw e refl

pub absent_due : load_due absent_scn.cell ≡ 0
unfolding load_due
absent_due = refl

raw_due : (image : Option (List ℕ)) (size : ℕ) (b : Body) (s : ℕ) → homes_due (object_of image size b) (loaded_of b) (unless_refused (no_raw_in b s) (s ∷ [])) ≡ load_due (scn_at b s).cell
unfolding no_raw_in
raw_due image size b s = by_range (nat_lt s (length b.sections)) refl
  where
    o : Object
    o = object_of image size b

    by_range : (t : Bool) → nat_lt s (length b.sections) ≡ t
        → homes_due (object_of image size b) (loaded_of b) (unless_refused (no_raw_in b s) (s ∷ [])) ≡ load_due (scn_at b s).cell
    by_range false e =
        let past = ltb-false s (length b.sections) e in
        ap (λ (r : Option ElfError). homes_due (object_of image size b) (loaded_of b) (unless_refused (first_refusal (r ∷ home_out (scn_at b s).cell ∷ [])) (s ∷ []))) (scn_missing b s past)
        ∙ none_due (object_of image size b) (loaded_of b) (Some (NoSection s (length b.sections)))
        (s ∷ []) refl
        ∙ sym (ap (λ (x : Scn). load_due x.cell) (absent_at b s past) ∙ absent_due)
    by_range true e =
        ap (λ (r : Option ElfError). homes_due (object_of image size b) (loaded_of b) (unless_refused (first_refusal (r ∷ home_out (scn_at b s).cell ∷ [])) (s ∷ [])))
        (scn_there b s (ltb-true s (length b.sections) e))
        ∙ by_out (scn_at b s).cell.home.out refl
      where
        by_out : (t : Bool) → (scn_at b s).cell.home.out ≡ t
            → homes_due (object_of image size b) (loaded_of b) (unless_refused (first_refusal (refused_if t (OutOfFile (scn_at b s).cell.section) ∷ [])) (s ∷ [])) ≡ load_due (scn_at b s).cell
        by_out true out = none_due (object_of image size b) (loaded_of b) (Some (OutOfFile (scn_at b s).cell.section)) (s ∷ []) refl ∙ sym (out_due (scn_at b s).cell out)
        by_out false out = one_due (object_of image size b) (loaded_of b) s ∙ home_due_is image size b s

-- ---- The call

pub due_unloaded : (c : CellView) → IsTrue (nat_lt 0 (load_due c)) → cell_is_loaded c ≡ false
unfolding load_due
due_unloaded c due = by_loaded (cell_is_loaded c) due
  where
    by_loaded : (a : Bool) → nat_lt 0 (if a || c.home.out then 0 else c.home.len) ≡ true → a ≡ false
    by_loaded true e = cc
    by_loaded false e = refl

pub raw_answers : (image : Option (List ℕ)) (size : ℕ) (b : Body) (s : ℕ) (result : Result (Unit {0}) ElfError) → IsElf image size b
    → Answers true (loading (load_due (scn_at b s).cell)) result (answered (no_raw_in b s) (tt {0}))
    → Answers true (wants (calls.raw s) (object_of image size b) (loaded_of b) (held_of b)) result (answered (raw_refusal (object_of image size b) s) (tt {0}))
raw_answers image size b s result is came =
    let due = ap (λ (l : List ℕ). homes_due (object_of image size b) (loaded_of b) l) (raw_reads image size b s is) ∙ raw_due image size b s in
    answers_wants true (loading (load_due (scn_at b s).cell)) (wants (calls.raw s) (object_of image size b) (loaded_of b) (held_of b)) result (answered (raw_refusal (object_of image size b) s) (tt {0}))
    (λ some. ap not (loaded_is b s ∙ due_unloaded (scn_at b s).cell some))
    (λ some. ap (λ (n : ℕ). nat_lt 0 n) due ∙ some)
    (subst (λ (r : Option ElfError). Answers true (loading (load_due (scn_at b s).cell)) result (answered r (tt {0}))) (sym (raw_refusal_is image size b s is)) came)

pub raw_queries : {S : Type 0} (g : Ghosts S) (result : Result (Unit {0}) ElfError) (source left : S) (old new : Body) (s : ℕ)
    → IsElf (g.holds source) (g.size source) old → Warmed (g.holds source) old new s
    → Answers true (loading (load_due (scn_at old s).cell)) result (answered (no_raw_in old s) (tt {0}))
    → OnOk result (IsTrue (cell_is_loaded (scn_at new s).cell)) → OnErr result ((scn_at new s).cell ≡ (scn_at old s).cell)
    → (scn_at new s).cell.held ≡ (scn_at old s).cell.held → Asks g result source left (load_due (scn_at old s).cell)
    → Queries g (calls.raw s) [] result (state_of g source old) (state_of g left new)
raw_queries {S} g result source left old new s is w came loaded same held asks =
    let o = object_over g source old in
    let list = unless_refused (no_raw_in old s) (s ∷ []) in
    let due = raw_due (g.holds source) (g.size source) old s in
    record {
      object = left_object g source left old new s asks.leaves w;
      reads = subst (λ (l : List ℕ). Reads g result (state_of g source old) (state_of g left new) l [] (homes_due o (loaded_of old) l)) (sym (raw_reads (g.holds source) (g.size source) old s is))
          (reads_warmed g result source left old new s list [] w (subst (λ (n : ℕ). Asks g result source left n) (sym due) asks)
          (idle_one true (loading (load_due (scn_at old s).cell)) result (no_raw_in old s) (s ∷ []) (scn_at old s).cell (scn_at new s).cell s (raw_unread old s) came (weaker result same) (inl refl))
          (λ out. held)
          (settled_one true (loading (load_due (scn_at old s).cell)) result (no_raw_in old s) (s ∷ []) o (loaded_of new) s (raw_unread old s) came (inl refl) (now_loaded result loaded)));
    }
  where
    weaker : (r : Result (Unit {0}) ElfError) → OnErr r ((scn_at new s).cell ≡ (scn_at old s).cell) → IfErr r (λ e. e ≢ Memory → (scn_at new s).cell ≡ (scn_at old s).cell)
    weaker (Ok x) h = h
    weaker (Err e) h = λ other. h

    now_loaded : (r : Result (Unit {0}) ElfError) → OnOk r (IsTrue (cell_is_loaded (scn_at new s).cell)) → OnOk r (s ∷ [] ≡ s ∷ [] → is_loaded (loaded_of new) s ≡ true)
    now_loaded (Ok x) h = λ e. loaded_is new s ∙ h
    now_loaded (Err e) h = h
