-- What calls in a row do to a source, and what is held after them.
use Rattle.std.proofs.Common.{◌≡◌, ℕ, ◌+◌, ◌≤◌, Bool, true, false, List, [], ◌∷◌, ◌++◌, Result, Ok, refl, ◌∙◌, subst, arith}
use Rattle.std.specs.Prelude.{IsTrue, IfErr, ◌||◌, if◌then◌else◌}
use Rattle.std.proofs.lemmas.List.Elements.{Contains-append_left, Contains-append_right}
use Rattle.std.proofs.lemmas.List.Sums.{sum_by-append, sum_by-cons}
use Rattle.elf_types.specs.declared.errors.ElfError.{ElfError}
use Rattle.elf_types.specs.Answers.{IsRefusal}
use Rattle.section_table.specs.elf_outside.declared.sources.Source.{Ghosts}
use Rattle.section_table.specs.elf_outside.Asks.{ReadRose}
use Rattle.section_table.proofs.elf_outside.AskLemmas.{asks_both, asks_then, asks_fewer}
use Rattle.section_table.specs.elf_object.Object.{Object, section_at}
use Rattle.section_table.specs.elf_object.Due.{is_loaded, home_due, homes_due}
use Rattle.elf_descriptor.specs.State.{State}
use Rattle.section_table.specs.elf_object.Calls.{Call, due}
use Rattle.elf_descriptor.specs.Reads.{Reads, Looks}

-- an answer after a step that was Ok, or that was refused as the answer is
pub reads_then : {S T U : Type 0} (g : Ghosts S) (r : Result T ElfError) (q : Result U ElfError) (old new : State S) (sections holding : List ℕ) (due : ℕ)
    → (IfErr q IsRefusal → IfErr r IsRefusal) → ReadRose q (g.faults old.source) (g.faults new.source) → Reads g r old new sections holding due → Reads g q old new sections holding due
reads_then g r q old new sections holding due settled read reads = record {
  source = asks_then g r q old.source new.source due reads.source read;
  told = reads.told;
  ready = reads.ready;
  loads = reads.loads;
  stays = reads.stays;
  holds = reads.holds;
  holds_on = reads.holds_on;
  room = reads.room;
  first_use = λ refused. reads.first_use (settled refused);
}

-- nothing is done
pub reads_nothing : {S T : Type 0} (g : Ghosts S) (r : Result T ElfError) (s : State S) (sections holding : List ℕ) (due : ℕ)
    → ReadRose r (g.faults s.source) (g.faults s.source) → Reads g r s s sections holding due
reads_nothing g r s sections holding due read = record {
  source = record {
    leaves = record { same_len = refl; same_bytes = refl; same_rest = refl };
    later = omega arith;
    read = read;
    taken = record { later = omega arith; no_more = omega arith };
  };
  told = refl;
  ready = refl;
  loads = λ i other. refl;
  stays = λ i is. is;
  holds = λ i other. refl;
  holds_on = λ s p is. is;
  room = λ i unread. refl;
  first_use = λ settled. omega arith;
}

-- ---- Two calls in a row

-- what is due does not rise once more is loaded
due_stays : (o : Object) (before after : List Bool) (s : ℕ) → (IsTrue (is_loaded before s) → IsTrue (is_loaded after s)) → home_due o after s ≤ home_due o before s
unfolding home_due
due_stays o before after s stays = by_loaded (is_loaded before s) (is_loaded after s) (section_at o s).home.out stays
  where
    by_loaded : (a b out : Bool) → (IsTrue a → IsTrue b)
        → (if b || out then 0 else (section_at o s).home.len) ≤ (if a || out then 0 else (section_at o s).home.len)
    by_loaded a true out stays = omega arith
    by_loaded true false out stays = let is = stays refl in cc
    by_loaded false false out stays = omega arith

pub dues_stay : (o : Object) (before after : List Bool) (sections : List ℕ) → ((i : ℕ) → IsTrue (is_loaded before i) → IsTrue (is_loaded after i))
    → homes_due o after sections ≤ homes_due o before sections
unfolding homes_due
dues_stay o before after [] stays = omega arith
dues_stay o before after (s ∷ sections) stays =
    omega (arith, due_stays o before after s (stays s), dues_stay o before after sections stays, sum_by-cons (home_due o before) s sections, sum_by-cons (home_due o after) s sections)

-- what is not loaded after a call was not loaded before it
pub unread_before : (before after : Bool) → (IsTrue before → IsTrue after) → after ≡ false → before ≡ false
unread_before false after stays unread = refl
unread_before true after stays unread = let is = stays refl in cc

-- two calls in a row among the same homes, on an object that the first one leaves: each home is
-- read once
pub reads_among : {S T U : Type 0} (g : Ghosts S) (x : T) (q : Result U ElfError)
    (old mid new : State S) (homes holding : List ℕ) → mid.o ≡ old.o
    → Reads g (Ok x) old mid homes holding (homes_due old.o old.loaded homes)
    → Reads g q mid new homes holding (homes_due mid.o mid.loaded homes)
    → Reads g q old new homes holding (homes_due old.o old.loaded homes)
reads_among g x q old mid new homes holding same first second =
    let later : Reads g q mid new homes holding (homes_due old.o mid.loaded homes) =
    subst (λ (o : Object). Reads g q mid new homes holding (homes_due o mid.loaded homes)) same
    second in
    let before = first.first_use tt in
    let both = asks_both g (Ok x) q old.source mid.source new.source
    (homes_due old.o old.loaded homes) (homes_due old.o mid.loaded homes)
    first.source later.source in
    record {
      source = record {
        leaves = both.leaves;
        later = both.later;
        read = both.read;
        taken = record {
          later = both.taken.later;
          no_more = omega (arith, before, later.source.taken.no_more);
        };
      };
      told = later.told ∙ first.told;
      ready = later.ready ∙ first.ready;
      loads = λ i other. later.loads i other ∙ first.loads i other;
      stays = λ i is. later.stays i (first.stays i is);
      holds = λ i other. later.holds i other ∙ first.holds i other;
      holds_on = λ s p is. later.holds_on s p (first.holds_on s p is);
      room = λ i unread. later.room i unread ∙ first.room i
          (unread_before (is_loaded mid.loaded i) (is_loaded new.loaded i)
          (later.stays i) unread);
      first_use = λ refused. omega (
        arith,
        before,
        subst (λ (o : Object). g.taken new.source + homes_due o new.loaded homes
            ≤ g.taken mid.source + homes_due o mid.loaded homes)
            same (second.first_use refused),
      );
    }

-- two calls in a row on an object that the first one leaves, of which the second answers
pub reads_both : {S T U : Type 0} (g : Ghosts S) (r : Result T ElfError) (q : Result U ElfError) (old mid new : State S) (a b x y : List ℕ) (n m : ℕ)
    → IfErr r IsRefusal → mid.o ≡ old.o → Reads g r old mid a x n → Reads g q mid new b y m → Reads g q old new (a ++ b) (x ++ y) (n + m)
unfolding homes_due
reads_both g r q old mid new a b x y n m settled same first second = record {
  source = asks_both g r q old.source mid.source new.source n m first.source second.source;
  told = second.told ∙ first.told;
  ready = second.ready ∙ first.ready;
  loads = λ i other. second.loads i (λ is. other (Contains-append_right a b i is)) ∙ first.loads i (λ is. other (Contains-append_left a b i is));
  stays = λ i is. second.stays i (first.stays i is);
  holds = λ i other. second.holds i (λ is. other (Contains-append_right x y i is)) ∙ first.holds i (λ is. other (Contains-append_left x y i is));
  holds_on = λ s p is. second.holds_on s p (first.holds_on s p is);
  room = λ i unread. second.room i unread ∙ first.room i (unread_before (is_loaded mid.loaded i) (is_loaded new.loaded i) (second.stays i) unread);
  first_use = λ refused.
      let one = first.first_use settled in
      let two = rw same at second.first_use refused in
      let before = sum_by-append (home_due old.o old.loaded) a b in
      let after = sum_by-append (home_due old.o new.loaded) a b in
      let fewer = dues_stay old.o mid.loaded new.loaded a second.stays in
      let less = dues_stay old.o old.loaded mid.loaded b first.stays in
      omega (arith, one, two, before, after, fewer, less);
}

-- it may ask for more
pub reads_within : {S T : Type 0} (g : Ghosts S) (r : Result T ElfError) (old new : State S) (sections holding : List ℕ) (n m : ℕ) → n ≤ m → Reads g r old new sections holding n → Reads g r old new sections holding m
reads_within g r old new sections holding n m few reads = record {
  source = asks_fewer g r old.source new.source n m few reads.source;
  told = reads.told;
  ready = reads.ready;
  loads = reads.loads;
  stays = reads.stays;
  holds = reads.holds;
  holds_on = reads.holds_on;
  room = reads.room;
  first_use = reads.first_use;
}

-- it may read more sections: a call that is refused before the second one of two
pub reads_wider : {S T : Type 0} (g : Ghosts S) (r : Result T ElfError) (old new : State S) (a b x y : List ℕ) (n m : ℕ) → Reads g r old new a x n → Reads g r old new (a ++ b) (x ++ y) (n + m)
unfolding homes_due
reads_wider g r old new a b x y n m reads = record {
  source = asks_fewer g r old.source new.source n (n + m) (omega arith) reads.source;
  told = reads.told;
  ready = reads.ready;
  loads = λ i other. reads.loads i (λ is. other (Contains-append_left a b i is));
  stays = reads.stays;
  holds = λ i other. reads.holds i (λ is. other (Contains-append_left x y i is));
  holds_on = reads.holds_on;
  room = reads.room;
  first_use = λ refused.
      let one = reads.first_use refused in
      let before = sum_by-append (home_due old.o old.loaded) a b in
      let after = sum_by-append (home_due old.o new.loaded) a b in
      let less = dues_stay old.o old.loaded new.loaded b reads.stays in
      omega (arith, one, before, after, less);
}

-- two calls in a row that look at the object: what both are due of it as it was before
pub looks_both : {S A B T U : Type 0} (g : Ghosts S) (c : Call A) (d : Call B) (r : Result T ElfError) (q : Result U ElfError) (old mid new : State S)
    → IfErr r IsRefusal → Looks g c r old mid → Looks g d q mid new
    → (new.o ≡ old.o) × Reads g q old new (c.reads old.o ++ d.reads old.o) (c.reads old.o ++ d.reads old.o) (due c old.o old.loaded + due d old.o old.loaded)
looks_both g c d r q old mid new settled first second =
    let same = first.object in
    let later : Reads g q mid new (d.reads old.o) (d.reads old.o) (due d old.o mid.loaded) =
    subst (λ (o : Object). Reads g q mid new (d.reads o) (d.reads o) (due d o mid.loaded)) same second.reads in
    let fewer = dues_stay old.o old.loaded mid.loaded (d.reads old.o) first.reads.stays in (
      second.object ∙ same,
      reads_within g q old new (c.reads old.o ++ d.reads old.o) (c.reads old.o ++ d.reads old.o) (due c old.o old.loaded + due d old.o mid.loaded) (due c old.o old.loaded + due d old.o old.loaded)
          (omega (arith, fewer))
          (reads_both g r q old mid new (c.reads old.o) (d.reads old.o) (c.reads old.o) (d.reads old.o) (due c old.o old.loaded) (due d old.o mid.loaded) settled same first.reads later),
    )
