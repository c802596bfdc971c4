-- Steps over the source of an image whose front was read.
use Rattle.std.proofs.Common.{◌≡◌, ◌+◌, ◌*◌, ◌≤◌, ◌⊎◌, inl, inr, ℕ, Bool, false, List, Option, Some, None, Result, Ok, Err, IsTrue, IfSome, IfNone, refl, sym, subst, ◌∙◌, arith}
use Rattle.std.specs.Prelude.{OnOk, IsSome, is_some}
use Rattle.elf_types.specs.declared.errors.ElfError.{ElfError}
use Rattle.elf_types.specs.declared.errors.ElfError.TheVariants as error
use Rattle.elf_outside.specs.Asks.{Asks}
use Rattle.elf_outside.specs.Counts.{Rose}
use Rattle.elf_outside.specs.declared.sources.Source.{Ghosts as SourceGhosts}
use Rattle.elf_outside.specs.declared.sinks.Sink.{Ghosts as SinkGhosts}
use Rattle.elf_ident.specs.declared.fronts.Front.{Front}
use Rattle.elf_ident.specs.Front.{front_bytes}
use Rattle.elf_object.specs.Object.{Object}
use Rattle.elf_object.specs.Open.{begun, opened}
use Rattle.elf_object.specs.Due.{all_sections}
use Rattle.tool_objects.specs.elf_descriptor.State.{State}
use Rattle.tool_objects.specs.elf_descriptor.Begun.{begun_state}
use Rattle.tool_objects.specs.elf_descriptor.Views.{source_bytes}
use Rattle.tool_output.specs.declared.stops.Stop.{Stop}
use Rattle.tool_output.specs.declared.stops.Stop.TheVariants.{Memory}
use Rattle.tool_output.specs.declared.outputs.Outputs.{Outputs}
use Rattle.tool_output.specs.Names.{Name}
use Rattle.tool_output.specs.Reports.{Report, Reports, no_report}
use Rattle.tool_output.specs.Sources.{ReportsOn}
use Rattle.tool_output.specs.Steps.{LeavesOutputs}
use Rattle.tool_output.specs.Stops.{stop_of}
use Rattle.tool_output.proofs.SourceLemmas.{Stops, reads_weaker, refuses_after}
use Rattle.tool_output.proofs.ReportLemmas.{reports_none, reports_nothing}
use Rattle.tool_output.proofs.StepLemmas.{keeps_none}
use Rattle.tool_objects.specs.Images.{image_report, object_asks, image_asks}
use Rattle.tool_objects.specs.Looks.{looks_over}
use Rattle.tool_objects.specs.Steps.{ReportsElf, LeavesElfOver, WentOn, homes_left, homes_total, asked_again}
use Rattle.tool_objects.proofs.OnceReads.{due_at_first}
use Rattle.nm_tool.proofs.FrontLemmas.{image_nm}

-- ---- Of an image, where the source tells it

pub if_some_of_all : {T : Type 0} (P : T → Type 0) (r : Option T) → ((x : T) → P x) → IfSome r P
if_some_of_all P None f = tt
if_some_of_all P (Some x) f = f x

pub of_both : {T : Type 0} (P Q R : T → Type 0) (r : Option T) → IfSome r P → IfSome r Q
    → ((x : T) → P x → Q x → R x) → IfSome r R
of_both P Q R None p q f = tt
of_both P Q R (Some x) p q f = f x p q

pub of_three : {T : Type 0} (P Q R W : T → Type 0) (r : Option T) → IfSome r P → IfSome r Q
    → IfSome r R → ((x : T) → P x → Q x → R x → W x) → IfSome r W
of_three P Q R W None p q r f = tt
of_three P Q R W (Some x) p q r f = f x p q r

pub went_well : {T : Type 0} (r : Result T Stop) (P : Type 0) → P → OnOk r P
went_well (Ok x) P h = h
went_well (Err stop) P h = tt

-- ---- Errors of a range that is read

pub range_stops : (d : ElfError) → (d ≡ error.Memory) ⊎ (d ≡ error.Read) → IsSome (stop_of d)
range_stops d (inl is) = rw is refl
range_stops d (inr is) = rw is refl

module _ {S O E : Type 0} (g : SourceGhosts S) (o : SinkGhosts O) (e : SinkGhosts E) where
  -- a range could not be read
  pub range_unread : {T : Type 0} (report : List ℕ → Report) (d : ElfError) (stop : Stop) (n : ℕ)
      (a b : S) (t : Outputs O E) → stop_of d ≡ Some stop → Asks {T = T} g (Err d) a b n
      → ReportsOn g o e report (Err stop) a b t t
  range_unread {T} report d stop n a b t is asks =
      refuses_after o e {S = S} {T = T} g report (Err stop) n a b t t d no_report asks
      (if_some_of_all (λ image. stop_of d ≡ None → report image ≡ no_report) (g.holds a)
      (λ image none. let never = sym is ∙ none in cc))
      (rw is tt) (rw is (refl, refl)) (rw is tt)

  -- there is no memory for what was read
  pub want_stops : (report : List ℕ → Report) (stop : Stop) (a : S) (t : Outputs O E)
      → stop ≡ Memory → ReportsOn g o e report (Err stop) a a t t
  want_stops report stop a t is =
      subst (λ (x : Stop). ReportsOn g o e report (Err x) a a t t) (sym is) (record {
        reports = if_some_of_all (λ image. Reports o e (Err Memory) t t (report image)) (g.holds a)
            (λ image. reports_nothing o e t Memory (report image));
        source = record { same_len = refl; same_bytes = refl; same_rest = refl };
        later = omega arith;
        leaves = record { keeps = keeps_none o e t; read = tt; write = tt };
      })

  -- nothing is said where nothing more is read
  pub says_none : (report : List ℕ → Report) (a : S) (t : Outputs O E)
      → IfSome (g.holds a) (λ image. report image ≡ no_report)
      → ReportsOn g o e report (Ok false) a a t t
  says_none report a t none = record {
    reports = of_both (λ image. report image ≡ no_report) (λ image. report image ≡ no_report)
        (λ image. Reports o e (Ok false) t t (report image)) (g.holds a) none none
        (λ image is same. rw is (reports_none o e t));
    source = record { same_len = refl; same_bytes = refl; same_rest = refl };
    later = omega arith;
    leaves = record { keeps = keeps_none o e t; read = tt; write = tt };
  }

  -- something is said, and nothing read
  pub says_now : (report : List ℕ → Report) (r : Result Bool Stop) (a : S) (t u : Outputs O E)
      → IfSome (g.holds a) (λ image. Reports o e r t u (report image))
      → LeavesOutputs o e ⊥ r t u → ReportsOn g o e report r a a t u
  says_now report r a t u h leaves = record {
    reports = h;
    source = record { same_len = refl; same_bytes = refl; same_rest = refl };
    later = omega arith;
    leaves = reads_weaker o e (Rose (g.faults a) (g.faults a)) r t u leaves;
  }

  -- the same report, stated otherwise
  pub said_as : (p q : List ℕ → Report) (r : Result Bool Stop) (a b : S) (t u : Outputs O E)
      → IfSome (g.holds a) (λ image. q image ≡ p image)
      → ReportsOn g o e p r a b t u → ReportsOn g o e q r a b t u
  said_as p q r a b t u same h = record {
    reports = of_both (λ image. q image ≡ p image) (λ image. Reports o e r t u (p image))
        (λ image. Reports o e r t u (q image)) (g.holds a) same h.reports
        (λ image is given. rw is given);
    source = h.source;
    later = h.later;
    leaves = h.leaves;
  }

  -- there is no memory for a descriptor
  pub refused_begun : (report : List ℕ → Report) (d : ElfError) (r : Result Bool Stop) (a b : S)
      (t u : Outputs O E) (refused : Report) → b ≡ a → d ≡ error.Memory
      → IfNone (stop_of d) (Reports o e r t u refused) → Stops o e r t u d
      → IfNone (stop_of d) (LeavesOutputs o e ⊥ r t u) → ReportsOn g o e report r a b t u
  refused_begun report d r a b t u refused same is k stops leaves =
      let want = subst (λ (x : ElfError). Stops o e r t u x) is stops in
      rw (want.0, want.1, same) (want_stops report Memory a t refl)

  -- ---- By a descriptor that begins with the front

  module _ (command : List ℕ) (report : Name → Object → Report) (name : Name) (f : Front) (src : S)
      (told : IfSome (g.holds src) (λ image. opened image ≡ Ok (begun f image))) where
    on_image : (r : Result Bool Stop) (t u : Outputs O E) (held : Option (List ℕ)) (size : ℕ)
        → IfSome held (λ image. opened image ≡ Ok (begun f image))
        → (IsTrue (is_some held)
        → Reports o e r t u (report name (begun f (source_bytes held size))))
        → IfSome held (λ image. Reports o e r t u (image_report command report name image))
    on_image r t u None size is h = tt
    on_image r t u (Some image) size is h = rw (image_nm command report name f image is) (h refl)

    pub begun_reports : (r : Result Bool Stop) (a b : State S) (t u : Outputs O E)
        → a ≡ begun_state g f src → ReportsElf g o e (report name) r a b t u
        → ReportsOn g o e (image_report command report name) r src b.source t u
    unfolding begun_state
    begun_reports r a b t u is h =
        let k = subst (λ (x : State S). ReportsElf g o e (report name) r x b t u) is h in record {
          reports = on_image r t u (g.holds src) (g.size src) told k.reports;
          source = k.elf.source;
          later = k.elf.later;
          leaves = k.leaves;
        }

    homes_within : (r : Result Bool Stop) (held : Option (List ℕ)) (size x y : ℕ)
        → (WentOn r → y ≤ x + homes_total (begun f (source_bytes held size)))
        → OnOk r (IfSome held (λ image. y ≤ x + homes_total (begun f image)))
    homes_within (Err stop) held size x y h = tt
    homes_within (Ok v) None size x y h = tt
    homes_within (Ok v) (Some image) size x y h = h tt

    pub begun_asked : (r : Result Bool Stop) (a b : State S) → a ≡ begun_state g f src
        → LeavesElfOver g 0 (WentOn r) a b
        → OnOk r (IfSome (g.holds src) (λ image.
        g.taken b.source ≤ g.taken src + homes_total (begun f image)))
    unfolding begun_state
    begun_asked r a b is h =
        let k = subst (λ (x : State S). LeavesElfOver g 0 (WentOn r) x b) is h in
        let begun_at = begun_state g f src in
        homes_within r (g.holds src) (g.size src) (g.taken src) (g.taken b.source)
        (λ well. asked_at (g.taken src) (g.taken b.source) (homes_left begun_at) (homes_left b)
        (homes_total begun_at.o) (asked_again begun_at.o) (k.asked well)
        (due_at_first begun_at.o begun_at.loaded (all_sections begun_at.o)))
      where
        asked_at : (x y l m total again : ℕ) → y + m ≤ x + l + 0 * again → l ≤ total
            → y ≤ x + total
        asked_at x y l m total again h less = omega (arith, h, less)

-- ---- What is asked for in all

-- the front, and then no more than the homes
pub front_asked : (r : Result Bool Stop) (f : Front) (holds now : Option (List ℕ)) (a b c : ℕ)
    → now ≡ holds → IfSome now (λ image. opened image ≡ Ok (begun f image))
    → IfSome holds (λ image. b ≤ a + front_bytes image)
    → OnOk r (IfSome now (λ image. c ≤ b + homes_total (begun f image)))
    → OnOk r (IfSome holds (λ image. c ≤ a + image_asks (looks_over 0) image))
unfolding image_asks object_asks
front_asked (Err stop) f holds now a b c same told front homes = tt
front_asked (Ok v) f holds now a b c same told front homes = on_image holds
    (subst (λ (h : Option (List ℕ)). IfSome h (λ image. opened image ≡ Ok (begun f image))) same
    told)
    front
    (subst (λ (h : Option (List ℕ)). IfSome h (λ image. c ≤ b + homes_total (begun f image))) same
    homes)
  where
    on_image : (held : Option (List ℕ))
        → IfSome held (λ image. opened image ≡ Ok (begun f image))
        → IfSome held (λ image. b ≤ a + front_bytes image)
        → IfSome held (λ image. c ≤ b + homes_total (begun f image))
        → IfSome held (λ image. c ≤ a + image_asks (looks_over 0) image)
    on_image None is first then = tt
    on_image (Some image) is first then =
        rw is (asked_in (front_bytes image) (homes_total (begun f image))
        (asked_again (begun f image)) first then)
      where
        asked_in : (front homes again : ℕ) → b ≤ a + front → c ≤ b + homes
            → c ≤ a + (front + (homes + 0 * again))
        asked_in front homes again first then = omega (arith, first, then)
