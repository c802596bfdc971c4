-- Steps over files that read, one after another.
use Rattle.std.proofs.Common.{◌≡◌, ◌+◌, ◌≤◌, ℕ, [], codes, Option, Some, None, Result, Ok, Err, IfErr, OnOk, refl, sym, ap, subst, arith}
use Rattle.elf_types.specs.Answers.{◌>>=◌}
use Rattle.elf_outside.specs.Names.{Map}
use Rattle.elf_outside.specs.declared.sinks.Sink.{Ghosts as SinkGhosts}
use Rattle.elf_outside.specs.declared.file_sets.Files.{Ghosts as FilesGhosts}
use Rattle.tool_output.specs.declared.stops.Stop.{Stop}
use Rattle.tool_output.specs.declared.stops.Stop.TheVariants.{Memory}
use Rattle.tool_output.specs.declared.outputs.Outputs.{Outputs}
use Rattle.tool_output.specs.Names.{file_name}
use Rattle.tool_output.specs.Reports.{no_report, refusal_report}
use Rattle.tool_output.specs.Steps.{Writes, Performs}
use Rattle.tool_output.specs.Files.{LeavesFiles}
use Rattle.tool_output.specs.Made.{Complaint, complaint_report}
use Rattle.tool_output.proofs.StepLemmas.{keeps_none, keeps_then, went_none, writes_went, writes_then, writes_stop, stops_as}
use Rattle.tool_output.proofs.FileLemmas.{told_after, only_reads_none, only_reads_then, totals_none, totals_then, leaves_stop}
use Rattle.tool_output.proofs.MadeLemmas.{writes_whole}
use Rattle.copy_tool.specs.Files.{value_if_any, ReadsFiles, seen_in}
use Rattle.copy_tool.proofs.ByteLemmas.{SameMap}

-- ---- What is said

-- the message of a complaint and no value, or no message and the value
abbrev pub SaysRead : {O E A : Type 0} → SinkGhosts O → SinkGhosts E → Result A Complaint
    → Result (Option A) Stop → Outputs O E → Outputs O E → Type 0
SaysRead o e q r s t = Performs o e r s t (complaint_report (codes "copy") q).marks (value_if_any q)

-- the message of a complaint was written
abbrev pub Complains : {O E : Type 0} → SinkGhosts O → SinkGhosts E → Complaint → Outputs O E
    → Outputs O E → Type 0
Complains o e c s t =
    Writes {T = Unit {0}} o e (Ok tt) s t
    (refusal_report (codes "copy") (file_name c.file) c.text).marks

module _ {O E A : Type 0} (o : SinkGhosts O) (e : SinkGhosts E) (s t : Outputs O E) where
  pub says_value : {T : Type 0} (y : T) (x : A) → Writes {T = T} o e (Ok y) s t []
      → SaysRead o e (Ok x) (Ok (Some x)) s t
  unfolding no_report
  says_value y x h = record { writes = writes_went o e (Some x) s t [] h.ok; value_is = refl }

  pub value_said : (q : Result A Complaint) (x : A) → SaysRead o e q (Ok (Some x)) s t
      → (q ≡ Ok x) × Writes {T = Unit {0}} o e (Ok tt) s t []
  unfolding no_report
  value_said (Ok y) x h =
      let same : ◌≡◌ {A = Option A} (Some x) (Some y) = h.value_is in
      let is : x ≡ y = cc in
      (ap (λ (z : A). Ok z) (sym is), writes_went o e tt s t [] h.writes.ok)
  value_said (Err c) x h =
      let never : ◌≡◌ {A = Option A} (Some x) None = h.value_is in cc

  pub none_said : (q : Result A Complaint) → SaysRead o e q (Ok None) s t
      → (c : Complaint) × (q ≡ Err c) × Complains o e c s t
  none_said (Ok x) h = let never : ◌≡◌ {A = Option A} None (Some x) = h.value_is in cc
  none_said (Err c) h = (
    c,
    refl,
    writes_went o e tt s t
        (refusal_report (codes "copy") (file_name c.file) c.text).marks h.writes.ok,
  )

-- a step, and then one that needs its value
module _ {O E A B : Type 0} (o : SinkGhosts O) (e : SinkGhosts E) (first : Result A Complaint)
    (next : A → Result B Complaint) (s t : Outputs O E) where
  pub says_then : (x : A) (r : Result (Option B) Stop) (u : Outputs O E)
      → SaysRead o e first (Ok (Some x)) s t → SaysRead o e (next x) r t u
      → SaysRead o e (first >>= next) r s u
  says_then x r u h k =
      let was = value_said o e s t first x h in
      subst (λ (q : Result A Complaint). SaysRead o e (q >>= next) r s u) (sym was.0)
      (record {
        writes = writes_then o e tt r s t u [] (complaint_report (codes "copy") (next x)).marks
            was.1 k.writes;
        value_is = k.value_is;
      })

  -- there is no value
  pub says_none : SaysRead o e first (Ok None) s t → SaysRead o e (first >>= next) (Ok None) s t
  says_none h =
      let was = none_said o e s t first h in
      subst (λ (q : Result A Complaint). SaysRead {A = B} o e (q >>= next) (Ok None) s t)
      (sym was.1)
      (record {
        writes = writes_went o e {T = Option B} None s t
            (refusal_report (codes "copy") (file_name was.0.file) was.0.text).marks was.2.ok;
        value_is = refl;
      })

  -- the first one stops
  pub says_stop : (stop : Stop) → SaysRead o e first (Err stop) s t
      → SaysRead o e (first >>= next) (Err stop) s t
  unfolding no_report
  says_stop stop h = by first h
    where
      by : (q : Result A Complaint) → SaysRead o e q (Err stop) s t
          → SaysRead o e (q >>= next) (Err stop) s t
      by (Err c) k = record {
        writes = stops_as o e stop s t
            (refusal_report (codes "copy") (file_name c.file) c.text).marks k.writes;
        value_is = tt;
      }
      by (Ok x) k = record {
        writes = writes_stop o e stop s t []
            (complaint_report (codes "copy") (next x)).marks k.writes;
        value_is = tt;
      }

-- ---- What is seen of an answer

pub seen_ok : {A B : Type 0} (see : A → B) (r : Result (Option A) Stop) (P : Type 0) → OnOk r P
    → OnOk (seen_in see r) P
seen_ok see (Ok (Some x)) P h = h
seen_ok see (Ok None) P h = h
seen_ok see (Err stop) P h = tt

pub seen_err : {A B : Type 0} (see : A → B) (r : Result (Option A) Stop) (P : Stop → Type 0)
    → IfErr r P → IfErr (seen_in see r) P
seen_err see (Ok (Some x)) P h = tt
seen_err see (Ok None) P h = tt
seen_err see (Err stop) P h = h

-- ---- What is left

module _ {F D O E : Type 0} (f : FilesGhosts F D) (o : SinkGhosts O) (e : SinkGhosts E) where
  pub left_ok : {T U : Type 0} (x : T) (y : U) (a b : F) (s t : Outputs O E)
      → LeavesFiles {T = T} f o e (Ok x) a b s t → LeavesFiles {T = U} f o e (Ok y) a b s t
  left_ok x y a b s t h =
      record { totals = h.totals; keeps = h.keeps; read = tt; write = tt }

  pub left_stop : {T U : Type 0} (stop : Stop) (a b : F) (s t : Outputs O E)
      → LeavesFiles {T = T} f o e (Err stop) a b s t → LeavesFiles {T = U} f o e (Err stop) a b s t
  left_stop stop a b s t h =
      leaves_stop f o e stop a a b s s t (totals_none f o e a) (keeps_none o e s) h

  pub left_then : {T U : Type 0} (x : U) (r : Result T Stop) (a b c : F) (s t u : Outputs O E)
      → LeavesFiles {T = U} f o e (Ok x) a b s t → LeavesFiles f o e r b c t u
      → LeavesFiles f o e r a c s u
  left_then x (Ok y) a b c s t u h k = record {
    totals = totals_then f o e a b c h.totals k.totals;
    keeps = keeps_then o e s t u h.keeps k.keeps;
    read = tt;
    write = tt;
  }
  left_then x (Err stop) a b c s t u h k =
      leaves_stop f o e stop a b c s t u h.totals h.keeps k

-- ---- One step after another

pub reads_as : {F D O E A : Type 0} (f : FilesGhosts F D) (o : SinkGhosts O) (e : SinkGhosts E)
    (stated other : Map → Result A Complaint) (due more : Map → ℕ) (r : Result (Option A) Stop)
    (a b : F) (s t : Outputs O E) → ((m : Map) → other m ≡ stated m)
    → ((m : Map) → due m ≤ more m) → ReadsFiles f o e stated due r a b s t
    → ReadsFiles f o e other more r a b s t
reads_as {F} {D} {O} {E} {A} f o e stated other due more r a b s t same within h = record {
  says = λ told.
      subst (λ (q : Result A Complaint). SaysRead o e q r s t) (sym (same (f.named a)))
      (h.says told);
  asks = λ told.
      let asked = h.asks told in let most = within (f.named a) in omega (arith, asked, most);
  reads = h.reads;
  leaves = h.leaves;
}

sum_within : (p q r x y z : ℕ) → q ≤ p + x → r ≤ q + z → z ≡ y → r ≤ p + (x + y)
sum_within p q r x y z h k same = omega (arith, h, k, same)

part_within : (p q x y : ℕ) → q ≤ p + x → q ≤ p + (x + y)
part_within p q x y h = omega (arith, h)

module _ {F D O E A B : Type 0} (f : FilesGhosts F D) (o : SinkGhosts O) (e : SinkGhosts E)
    (first : Map → Result A Complaint) (due : Map → ℕ) (a b : F) (s t : Outputs O E) where
  module _ (next : A → Map → Result B Complaint) (more : Map → ℕ) where
    -- a value, and then the step that needs it
    pub reads_then : (x : A) (r : Result (Option B) Stop) (c : F) (u : Outputs O E)
        → ((m n : Map) → SameMap m n → next x n ≡ next x m)
        → ((m n : Map) → SameMap m n → more n ≡ more m)
        → ReadsFiles f o e first due (Ok (Some x)) a b s t
        → ReadsFiles f o e (next x) more r b c t u
        → ReadsFiles f o e (λ m. first m >>= λ y. next y m) (λ m. due m + more m) r a c s u
    reads_then x r c u same same_due h k = record {
      says = λ told.
          says_then o e (first (f.named a)) (λ y. next y (f.named a)) s t x r u (h.says told)
          (subst (λ (q : Result B Complaint). SaysRead o e q r t u)
          (same (f.named a) (f.named b) ((h.reads.names told).same))
          (k.says (told_after f o e a b h.reads told)));
      asks = λ told.
          sum_within (f.taken a) (f.taken b) (f.taken c) (due (f.named a)) (more (f.named a))
          (more (f.named b)) (h.asks told) (k.asks (told_after f o e a b h.reads told))
          (same_due (f.named a) (f.named b) ((h.reads.names told).same));
      reads = only_reads_then f o e a b c h.reads k.reads;
      leaves = left_then f o e (Some x) r a b c s t u h.leaves k.leaves;
    }

    -- a file was not there
    pub reads_none : ReadsFiles f o e first due (Ok None) a b s t
        → ReadsFiles f o e (λ m. first m >>= λ y. next y m) (λ m. due m + more m) (Ok None) a b s t
    reads_none h = record {
      says = λ told.
          says_none o e (first (f.named a)) (λ y. next y (f.named a)) s t (h.says told);
      asks = λ told.
          part_within (f.taken a) (f.taken b) (due (f.named a)) (more (f.named a)) (h.asks told);
      reads = h.reads;
      leaves = left_ok f o e {T = Option A} {U = Option B} None None a b s t h.leaves;
    }

    -- or the step stopped
    pub reads_stop : (stop : Stop) → ReadsFiles f o e first due (Err stop) a b s t
        → ReadsFiles f o e (λ m. first m >>= λ y. next y m) (λ m. due m + more m) (Err stop)
        a b s t
    reads_stop stop h = record {
      says = λ told.
          says_stop o e (first (f.named a)) (λ y. next y (f.named a)) s t stop (h.says told);
      asks = λ told.
          part_within (f.taken a) (f.taken b) (due (f.named a)) (more (f.named a)) (h.asks told);
      reads = h.reads;
      leaves = left_stop f o e {T = Option A} {U = Option B} stop a b s t h.leaves;
    }

  -- a value, of which another one is made; only memory can be missing for that
  pub reads_made : (make : A → B) (x : A) (r : Result (Option B) Stop)
      → OnOk r (r ≡ Ok (Some (make x))) → IfErr r (λ stop. stop ≡ Memory)
      → ReadsFiles f o e first due (Ok (Some x)) a b s t
      → ReadsFiles f o e (λ m. first m >>= λ y. Ok (make y)) due r a b s t
  unfolding no_report
  reads_made make x r is stops h = record {
    says = λ told. said (value_said o e s t (first (f.named a)) x (h.says told)) r is stops;
    asks = h.asks;
    reads = h.reads;
    leaves = left r stops;
  }
    where
      said : (first (f.named a) ≡ Ok x) × Writes {T = Unit {0}} o e (Ok tt) s t []
          → (q : Result (Option B) Stop) → OnOk q (q ≡ Ok (Some (make x)))
          → IfErr q (λ stop. stop ≡ Memory)
          → SaysRead o e (first (f.named a) >>= λ y. Ok (make y)) q s t
      said was (Ok v) same only =
          subst (λ (p : Result A Complaint). SaysRead o e (p >>= λ y. Ok (make y)) (Ok v) s t)
          (sym was.0) (subst (λ (q : Result (Option B) Stop). SaysRead o e (Ok (make x)) q s t)
          (sym same) (says_value o e s t {T = Unit {0}} tt (make x) was.1))
      said was (Err stop) same only =
          subst (λ (p : Result A Complaint). SaysRead o e (p >>= λ y. Ok (make y)) (Err stop) s t)
          (sym was.0) (record {
            writes = writes_whole f o e {T = Unit {0}} {U = Option B} tt stop s t [] was.1;
            value_is = tt;
          })

      left : (q : Result (Option B) Stop) → IfErr q (λ stop. stop ≡ Memory)
          → LeavesFiles f o e q a b s t
      left (Ok v) only = left_ok f o e (Some x) v a b s t h.leaves
      left (Err stop) only =
          subst (λ (p : Stop). LeavesFiles {T = Option B} f o e (Err p) a b s t) (sym only)
          (record { totals = h.leaves.totals; keeps = h.leaves.keeps; read = tt; write = tt })

  pub made_none : (make : A → B) → ReadsFiles f o e first due (Ok None) a b s t
      → ReadsFiles f o e (λ m. first m >>= λ y. Ok (make y)) due (Ok None) a b s t
  made_none make h = record {
    says = λ told. says_none o e (first (f.named a)) (λ y. Ok (make y)) s t (h.says told);
    asks = h.asks;
    reads = h.reads;
    leaves = left_ok f o e {T = Option A} {U = Option B} None None a b s t h.leaves;
  }

  pub made_stop : (make : A → B) (stop : Stop) → ReadsFiles f o e first due (Err stop) a b s t
      → ReadsFiles f o e (λ m. first m >>= λ y. Ok (make y)) due (Err stop) a b s t
  made_stop make stop h = record {
    says = λ told. says_stop o e (first (f.named a)) (λ y. Ok (make y)) s t stop (h.says told);
    asks = h.asks;
    reads = h.reads;
    leaves = left_stop f o e {T = Option A} {U = Option B} stop a b s t h.leaves;
  }

-- nothing was read yet
pub reads_begin : {F D O E A : Type 0} (f : FilesGhosts F D) (o : SinkGhosts O) (e : SinkGhosts E)
    (stated : Map → Result A Complaint) (due : Map → ℕ) (x : A) (a : F) (s : Outputs O E)
    → ((m : Map) → stated m ≡ Ok x) → ReadsFiles f o e stated due (Ok (Some x)) a a s s
reads_begin {F} {D} {O} {E} {A} f o e stated due x a s is = record {
  says = λ told.
      subst (λ (q : Result A Complaint). SaysRead o e q (Ok (Some x)) s s) (sym (is (f.named a)))
      (says_value o e s s {T = Unit {0}} tt x
      (writes_went o e {T = Unit {0}} tt s s [] (went_none o e s)));
  asks = λ told. omega arith;
  reads = only_reads_none f o e a;
  leaves = record {
    totals = totals_none f o e a;
    keeps = keeps_none o e s;
    read = tt;
    write = tt;
  };
}
