-- A pass over the sections: each is shown, and let go where homes overlap.
use Rattle.std.proofs.Common.{◌≡◌, ◌||◌, ◌+◌, ◌*◌, ◌<◌, ◌≤◌, Bool, false, ℕ, [], length, Ok, IsTrue, sym, ap, ◌∙◌, subst, arith}
use Rattle.std.specs.Prelude.{if◌then◌else◌}
use Rattle.tool_output.specs.elf_outside.Asks.{Leaves}
use Rattle.tool_output.specs.elf_outside.declared.sources.Source.{Ghosts as SourceGhosts}
use Rattle.tool_output.specs.elf_outside.declared.sinks.Sink.{Ghosts as SinkGhosts}
use Rattle.gelf_view.specs.elf_object.Object.{Object}
use Rattle.gelf_view.specs.elf_object.Due.{home_due}
use Rattle.gelf_view.specs.elf_descriptor.State.{State}
use Rattle.gelf_view.specs.elf_descriptor.Rooms.{unloaded}
use Rattle.tool_output.specs.declared.outputs.Outputs.{Outputs}
use Rattle.tool_output.specs.Reports.{Report, joined_reports}
use Rattle.tool_objects.specs.Steps.{homes_left, is_crowded, asked_again, ReportsElf, ElfOver}
use Rattle.tool_objects.proofs.ElfSteps.{elf_begins, elf_goes_on, over_more}
use Rattle.tool_objects.proofs.LetGo.{LetsGo, lets_go, gone_of, gone_more, gone_within}

-- so many sections were gone over
pub record PassOnWay {S O E : Type 0} (s : SourceGhosts S) (o : SinkGhosts O) (e : SinkGhosts E)
    (i : ℕ) (refused : Bool) (old new : State S) (outputs_old outputs_new : Outputs O E)
    (whole rest : Object → Report) : Type 0 where
  pub way : ElfOver s o e 1 refused old new outputs_old outputs_new whole rest
  pub asked : s.taken new.source + homes_left new
      ≤ s.taken old.source + homes_left old + gone_of old.o i

-- nothing is given yet, and the whole is left
pub pass_begins : {S O E : Type 0} (s : SourceGhosts S) (o : SinkGhosts O) (e : SinkGhosts E)
    (a : State S) (t : Outputs O E) (whole : Object → Report)
    → PassOnWay s o e 0 false a a t t whole whole
pass_begins s o e a t whole = record {
  way = over_more (elf_begins s o e a t whole) 1 (omega arith);
  asked = omega arith;
}

-- the step of the sum on plain numbers: of a source `x`, `y`, `z` bytes were taken, and of the homes
-- `l`, `m`, `n` were left, before, and before and behind the report; then `r` were left
asked_next : (x y z l m n r p q gone again : ℕ) → y + m ≤ x + l + p → z + n ≤ y + m + 0 * again
    → r ≤ n + q → gone ≡ p + q → z + r ≤ x + l + gone
asked_next x y z l m n r p q gone again h k less more = omega (arith, h, k, less, more)

module _ {S O E : Type 0} {s : SourceGhosts S} {o : SinkGhosts O} {e : SinkGhosts E} {i : ℕ}
    {x : Bool} {a b : State S} {t u : Outputs O E} {whole rest : Object → Report}
    (h : PassOnWay s o e i x a b t u whole rest) where
  -- the next section was shown, and let go where homes overlap
  pub pass_goes_on : {c d : State S} {v : Outputs O E} {y z : Bool} (crowded : Bool)
      (next left : Object → Report) → crowded ≡ is_crowded a.o → i < length a.o.sections
      → (IsTrue a.told → rest a.o ≡ joined_reports (next a.o) (left a.o))
      → ReportsElf s o e next (Ok y) b c u v → d ≡ (if crowded then unloaded i c else c)
      → z ≡ (x || y) → PassOnWay s o e (i + 1) z a d t v whole left
  pass_goes_on {c} {d} {v} {y} {z} crowded next left over lt split k gone or = record {
    way = record {
      report = step.report;
      elf = record {
        object = went.object ∙ step.elf.object;
        told = went.told ∙ step.elf.told;
        source = subst (λ (q : S). Leaves s a.source q) (sym went.source) step.elf.source;
        later = let same = ap s.faults went.source in let p = step.elf.later in
            omega (arith, same, p);
        asked = λ well. let within = gone_within a.o (i + 1) in omega (arith, asked, within);
      };
      keeps = step.keeps;
    };
    asked = asked;
  }
    where
      step : ElfOver s o e (1 + 0) z a c t v whole left
      step = elf_goes_on h.way next left split k or

      went : LetsGo (if crowded then home_due c.o [] i else 0) c d
      went = subst (λ (q : State S). LetsGo (if crowded then home_due c.o [] i else 0) c q)
          (sym gone) (lets_go crowded i c)

      let_go : (if crowded then home_due c.o [] i else 0)
          ≡ (if is_crowded a.o then home_due a.o [] i else 0)
      let_go =
          ap (λ (m : Object). if crowded then home_due m [] i else 0) step.elf.object
          ∙ ap (λ (b : Bool). if b then home_due a.o [] i else 0) over

      asked : s.taken d.source + homes_left d ≤ s.taken a.source + homes_left a + gone_of a.o (i + 1)
      asked =
          let same = ap s.taken went.source in
          let less : homes_left d ≤ homes_left c + (if is_crowded a.o then home_due a.o [] i else 0) =
          subst (λ (n : ℕ). homes_left d ≤ homes_left c + n) let_go went.left in
          let all = asked_next (s.taken a.source) (s.taken b.source) (s.taken c.source)
          (homes_left a) (homes_left b) (homes_left c) (homes_left d) (gone_of a.o i)
          (if is_crowded a.o then home_due a.o [] i else 0) (gone_of a.o (i + 1))
          (asked_again b.o) h.asked (k.elf.asked tt) less (gone_more a.o i lt) in
          omega (arith, same, all)
