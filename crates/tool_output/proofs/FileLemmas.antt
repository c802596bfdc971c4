-- Steps over a set of files.
use Rattle.std.proofs.Common.{◌≡◌, ◌≢◌, ◌⊎◌, inl, inr, ◌+◌, ◌<◌, ◌≤◌, ℕ, Bool, true, false, List, [], ◌∷◌, length, map, drop, get_or, codes, Option, Some, None, Result, Err, IsTrue, IsSome, IsNone, IfSome, refl, sym, ap, ◌∙◌, subst, arith}
use Rattle.std.specs.Str.{bytes_eq}
use Rattle.std.proofs.lemmas.List.{at_drop_more, at_drop_all}
use Rattle.std.proofs.lemmas.Slice.Eq.{bytes_eq-Decides}
use Rattle.elf_outside.specs.Counts.{Rose, RaisedBy}
use Rattle.elf_outside.specs.Names.{Map, SameNames, Closes}
use Rattle.elf_outside.specs.declared.sinks.Sink.{Ghosts as SinkGhosts}
use Rattle.elf_outside.specs.declared.file_sets.Files.{Ghosts as FilesGhosts}
use Rattle.tool_output.specs.declared.stops.Stop.{Stop}
use Rattle.tool_output.specs.declared.stops.Stop.TheVariants.{Read, Write, Memory}
use Rattle.tool_output.specs.declared.outputs.Outputs.{Outputs}
use Rattle.tool_output.specs.Names.{Name, file_name}
use Rattle.tool_output.specs.Reports.{Report, Reports, refusal_report}
use Rattle.tool_output.specs.Steps.{KeepsSinks, SinkRose}
use Rattle.tool_output.proofs.StepLemmas.{keeps_then}
use Rattle.tool_output.specs.Files.{report_on, asks_on, Totals, LeavesFilesBy, LeavesFiles, OnlyReads, IsWithin, IsWithinLeft, both_bounds, all_bounds}

-- ---- A file that was opened, read and closed

at_name : (held was now : Option (List ℕ)) → (IsSome was → now ≡ held) → (IsNone was → IsNone now) → held ≡ was → now ≡ was
at_name held None None set absent same = refl
at_name held None (Some bytes) set absent same = cc (absent refl)
at_name held (Some bytes) now set absent same = set refl ∙ same

name_cases : (test : Bool) (m0 m2 : Map) (name other : List ℕ) → (test ≡ true → other ≡ name) → (test ≡ false → other ≢ name)
    → m2 name ≡ m0 name → ((n : List ℕ) → n ≢ name → m2 n ≡ m0 n) → m2 other ≡ m0 other
name_cases true m0 m2 name other equal differs here there = ap m2 (equal refl) ∙ here ∙ sym (ap m0 (equal refl))
name_cases false m0 m2 name other equal differs here there = there other (differs refl)

false_not : (b : Bool) (P : Type 0) → (P → b ≡ true) → b ≡ false → P → ⊥
false_not true P h e p = cc
false_not false P h e p = let t : false ≡ true = h p in cc

-- the map from names to bytes, where the file still holds the bytes of its name
pub closed_same : (t0 t1 t2 : Bool) (m0 m1 m2 : Map) (name : List ℕ) (held : Option (List ℕ)) → IsTrue t0 → SameNames t0 m0 t1 m1
    → Closes t1 m1 t2 m2 name held → held ≡ m0 name → SameNames t0 m0 t2 m2
closed_same t0 t1 t2 m0 m1 m2 name held told opened closed same = record {
  same_tells = closed.others.same_tells ∙ opened.same_tells;
  same = λ other.
      name_cases (bytes_eq other name) m0 m2 name other
      (λ e. (bytes_eq-Decides other name).0 e)
      (false_not (bytes_eq other name) (other ≡ name) (bytes_eq-Decides other name).1)
      (at_name held (m1 name) (m2 name) (closed.set (subst (λ (t : Bool). IsTrue t) (sym opened.same_tells) told)) closed.absent
      (same ∙ sym (opened.same name)) ∙ opened.same name)
      (λ n ne. closed.others.same n ne ∙ opened.same n);
}

-- a device's numbers stand in its rest
pub given_same : (given faults given' faults' : ℕ) (kept kept' : List (List ℕ)) (rest rest' : List (List ℕ))
    → rest ≡ (given ∷ faults ∷ []) ∷ kept → rest' ≡ (given' ∷ faults' ∷ []) ∷ kept' → rest' ≡ rest → given' ≡ given
given_same given faults given' faults' kept kept' rest rest' a b same = cc

-- so a total that counts them stays where nothing was given
pub given_kept : (before opened own after : ℕ) → own ≡ 0 → opened ≡ before → RaisedBy opened after own → after ≡ before
given_kept before opened own after none first raised = omega (arith, raised.later, raised.no_more)

-- ---- What is said of a name

module _ (command : List ℕ) (report : Name → List ℕ → Report) (asks : List ℕ → Option ℕ) (named : Map) (name : List ℕ) where
  pub report_absent : named name ≡ None → report_on command report named name ≡ refusal_report command (file_name name) (codes "not found")
  unfolding report_on
  report_absent is = rw is refl

  report_there : (bytes : List ℕ) → named name ≡ Some bytes → report_on command report named name ≡ report (file_name name) bytes
  unfolding report_on
  report_there bytes is = rw is refl

  asks_there : (bytes : List ℕ) → named name ≡ Some bytes → asks_on asks named name ≡ asks bytes
  unfolding asks_on
  asks_there bytes is = rw is refl

  -- the report on an open file is that on its name
  pub opened_reports : {O E : Type 0} (o : SinkGhosts O) (e : SinkGhosts E) (r : Result Bool Stop) (s t : Outputs O E) (held : Option (List ℕ))
      → held ≡ named name → named name ≢ None → IfSome held (λ bytes. Reports o e r s t (report (file_name name) bytes))
      → Reports o e r s t (report_on command report named name)
  opened_reports o e r s t None same there h = absurd (there (sym same))
  opened_reports o e r s t (Some bytes) same there h = rw (report_there bytes (sym same)) h

  -- what was asked of a file counts in the total
  pub opened_asks : (held : Option (List ℕ)) (before opened read after : ℕ) → held ≡ named name → named name ≢ None
      → IfSome held (λ bytes. IsWithin (asks bytes) 0 read) → opened ≡ before → after ≤ opened + read
      → IsWithin (asks_on asks named name) before after
  opened_asks None before opened read after same there h first last = absurd (there (sym same))
  opened_asks (Some bytes) before opened read after same there h first last = rw (asks_there bytes (sym same)) (bound (asks bytes) h)
    where
      bound : (b : Option ℕ) → IsWithin b 0 read → IsWithin b before after
      bound None k = tt
      bound (Some n) k = omega (arith, k, first, last)

-- what is said of a name by one map is said by another that has the same there
pub report_on_same : {O E : Type 0} (o : SinkGhosts O) (e : SinkGhosts E) (r : Result Bool Stop) (s t : Outputs O E)
    (command : List ℕ) (report : Name → List ℕ → Report) (m0 m1 : Map) (name shown : List ℕ) → m1 shown ≡ m0 shown → shown ≡ name
    → Reports o e r s t (report_on command report m1 shown) → Reports o e r s t (report_on command report m0 name)
unfolding report_on
report_on_same o e r s t command report m0 m1 name shown same is h = rw (← is) (rw same at h)

pub asks_on_same : (asks : List ℕ → Option ℕ) (m0 m1 : Map) (name shown : List ℕ) (a b : ℕ) → m1 shown ≡ m0 shown → shown ≡ name
    → IsWithin (asks_on asks m1 shown) a b → IsWithin (asks_on asks m0 name) a b
unfolding asks_on
asks_on_same asks m0 m1 name shown a b same is h = rw (← is) (rw same at h)

-- ---- One step after another

module _ {F D O E : Type 0} (f : FilesGhosts F D) (o : SinkGhosts O) (e : SinkGhosts E) where
  pub told_after : (a b : F) → OnlyReads f a b → IsTrue (f.tells a) → IsTrue (f.tells b)
  told_after a b h told = (h.names told).same_tells ∙ told

  pub only_reads_none : (a : F) → OnlyReads f a a
  only_reads_none a = record { names = λ told. record { same_tells = refl; same = λ name. refl }; given = refl }

  pub only_reads_then : (a b c : F) → OnlyReads f a b → OnlyReads f b c → OnlyReads f a c
  only_reads_then a b c h k = record {
    names = λ told. record {
      same_tells = (k.names (told_after a b h told)).same_tells ∙ (h.names told).same_tells;
      same = λ name. (k.names (told_after a b h told)).same name ∙ (h.names told).same name;
    };
    given = k.given ∙ h.given;
  }

  pub totals_none : (a : F) → Totals f a a
  totals_none a = record {
    tells = refl;
    read_faults = omega arith;
    write_faults = omega arith;
    taken = omega arith;
    given = omega arith;
    live = λ small. refl;
  }

  pub totals_then : (a b c : F) → Totals f a b → Totals f b c → Totals f a c
  totals_then a b c h k = record {
    tells = k.tells ∙ h.tells;
    read_faults = omega (arith, h.read_faults, k.read_faults);
    write_faults = omega (arith, h.write_faults, k.write_faults);
    taken = omega (arith, h.taken, k.taken);
    given = omega (arith, h.given, k.given);
    live = λ small. k.live (rw (h.live small) small) ∙ h.live small;
  }

  -- a failed write of the second step
  wrote_later : (a b c : F) (s t u : Outputs O E) → Totals f a b → KeepsSinks o e s t
      → Rose (f.write_faults b) (f.write_faults c) ⊎ SinkRose o e t.out.now u.out.now t.err.now u.err.now
      → Rose (f.write_faults a) (f.write_faults c) ⊎ SinkRose o e s.out.now u.out.now s.err.now u.err.now
  wrote_later a b c s t u h k (inl rose) = inl (let p = h.write_faults in omega (arith, p, rose))
  wrote_later a b c s t u h k (inr (inl rose)) = inr (inl (let p = k.leaves.out_later in omega (arith, p, rose)))
  wrote_later a b c s t u h k (inr (inr rose)) = inr (inr (let p = k.leaves.err_later in omega (arith, p, rose)))

  -- a step that stops, after others, and the cause of its stop by Read
  pub leaves_stop_by : {T U : Type 0} (P Q : Type 0) (stop : Stop) (a b c : F) (s t u : Outputs O E)
      → (P → Q) → Totals f a b → KeepsSinks o e s t
      → LeavesFilesBy {T = T} f o e P (Err stop) b c t u
      → LeavesFilesBy {T = U} f o e Q (Err stop) a c s u
  leaves_stop_by P Q Read a b c s t u why h k l = record {
    totals = totals_then a b c h l.totals;
    keeps = keeps_then o e s t u k l.keeps;
    read = why l.read;
    write = tt;
  }
  leaves_stop_by P Q Write a b c s t u why h k l = record {
    totals = totals_then a b c h l.totals;
    keeps = keeps_then o e s t u k l.keeps;
    read = tt;
    write = wrote_later a b c s t u h k l.write;
  }
  leaves_stop_by P Q Memory a b c s t u why h k l = record {
    totals = totals_then a b c h l.totals;
    keeps = keeps_then o e s t u k l.keeps;
    read = tt;
    write = tt;
  }

  pub leaves_stop : {T U : Type 0} (stop : Stop) (a b c : F) (s t u : Outputs O E)
      → Totals f a b → KeepsSinks o e s t
      → LeavesFiles {T = T} f o e (Err stop) b c t u → LeavesFiles {T = U} f o e (Err stop) a c s u
  leaves_stop stop a b c s t u h k l =
      leaves_stop_by (Rose (f.read_faults b) (f.read_faults c))
      (Rose (f.read_faults a) (f.read_faults c)) stop a b c s t u
      (λ rose. let later = h.read_faults in omega (arith, later, rose)) h k l

-- ---- Bounds

-- of two steps, one after another
pub within_both : (p q : Option ℕ) (a b c : ℕ) → IsWithin p a b → IsWithin q b c
    → IsWithin (both_bounds p q) a c
within_both None q a b c h k = tt
within_both (Some n) None a b c h k = tt
within_both (Some n) (Some m) a b c h k = omega (arith, h, k)

-- of a step that asks for nothing
pub within_unchanged : (bound : Option ℕ) (a b : ℕ) → b ≡ a → IsWithin bound a b
within_unchanged None a b same = tt
within_unchanged (Some n) a b same = omega (arith, same)

-- ---- Bounds, by what is left of them

pub bound_begins : (whole : Option ℕ) (a : ℕ) → IsWithinLeft whole whole a a
bound_begins None a = tt
bound_begins (Some n) a = omega arith

bound_goes_on : (whole bound left : Option ℕ) (a b c : ℕ) → IsWithinLeft whole (both_bounds bound left) a b → IsWithin bound b c
    → IsWithinLeft whole left a c
bound_goes_on None bound left a b c h k = tt
bound_goes_on (Some n) None left a b c h k = absurd h
bound_goes_on (Some n) (Some m) None a b c h k = absurd h
bound_goes_on (Some n) (Some m) (Some l) a b c h k = omega arith

bound_ends : (whole : Option ℕ) (a b : ℕ) → IsWithinLeft whole (Some 0) a b → IsWithin whole a b
bound_ends None a b h = tt
bound_ends (Some n) a b h = omega arith

module _ {X : Type 0} (asks : X → Option ℕ) (whole : Option ℕ) (xs : List X) where
  abbrev bounds : List X → Option ℕ
  bounds ys = all_bounds (map asks ys)

  bounds_cons : (x : X) (ys : List X) → bounds (x ∷ ys) ≡ both_bounds (asks x) (bounds ys)
  unfolding all_bounds
  bounds_cons x ys = refl

  bounds_nil : bounds [] ≡ Some 0
  unfolding all_bounds
  bounds_nil = refl

  pub bounds_go_on : (a b c i : ℕ) (x : X) → i < length xs → x ≡ get_or xs i x → IsWithinLeft whole (all_bounds (map asks (drop i xs))) a b
      → IsWithin (asks x) b c → IsWithinLeft whole (all_bounds (map asks (drop (i + 1) xs))) a c
  bounds_go_on a b c i x lt is h k =
      bound_goes_on whole (asks x) (bounds (drop (i + 1) xs)) a b c
      (subst (λ (o : Option ℕ). IsWithinLeft whole o a b)
      (at_drop_more bounds xs i x lt ∙ ap (λ (y : X). bounds (y ∷ drop (i + 1) xs)) (sym is) ∙ bounds_cons x (drop (i + 1) xs)) h) k

  pub bounds_end : (a b i : ℕ) → length xs ≤ i → IsWithinLeft whole (all_bounds (map asks (drop i xs))) a b → IsWithin whole a b
  bounds_end a b i le h = bound_ends whole a b (subst (λ (o : Option ℕ). IsWithinLeft whole o a b) (at_drop_all bounds xs i le ∙ bounds_nil) h)
